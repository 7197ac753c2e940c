-- One desk alone, with the pair or without it: what of the reference model is its concern, and what it sees of a call by that and by whether
-- the call gets 9.
use mathlib.Core.Path.{◌≡◌, refl, sym, ap, ap₂, ◌∙◌}
use mathlib.Core.Logic.{◌⊎◌, inl, inr}
use Prim.Native.Nat.{ℕ, zero, suc}
use native.Mathlib.Nat.{le_refl}
use mathlib.Core.Bool.{Bool, true, false, not, cond}
use mathlib.Core.List.{List, [], ◌∷◌, ◌++◌, map}
use lib.Dec.{ltb, leb, eqb}
use lib.ListN.{length, drop}
use lib.Seq.{take-append_seam}
use borrow.Author.Tests.{eq-eqb}
use Rattle.lists.specs.Lists.{keep, filter, any, flat, contains, insert, without, laid}
use Rattle.lists.proofs.Booleans.{clash, or_left, or_right}
use Rattle.lists.proofs.Filters.{filter_append}
use Rattle.head.specs.declared.Desk.{Desk}
use Rattle.head.specs.declared.Desk.TheVariants.{One, Two}
use Rattle.refusals.specs.declared.Refusal.TheVariants.{Settings, ColumnCount, WindowSize, TapeFull, AlreadyWatched, NoFreeRecord, NotWatched, ShortLoan, ShortOutput, WindowOrder}
use Rattle.refusals.specs.Refusals.{number, granted}
use Rattle.head.specs.Heads.{settings_hold, last_position}
use Rattle.head.specs.Desks.{desk_number, desk_in, size_in, watch_of}
use Rattle.frames.specs.declared.Message.{Message}
use Rattle.frames.specs.Frames.{messages_from}
use Rattle.model.specs.Changes.{leave_kind_of, join_kind_of, leave, join, pair_leave, pair_join, missing, changes_by, changes, all_changes, pair_changes, frames, change_room}
use Rattle.model.specs.Shares.{of_desk}
use Rattle.model.specs.Reference.{Reference, Lengths, newest, skyline_of, past_of, paired, pair_of, is_open, outside, outside_pair, with_quote, with_watched, with_pair_of, opening, too_short}
use Rattle.model.specs.Book.{is_watch}
use Rattle.model.specs.Calls.{Call, Open, Quote, Look, Watch, End, Past, Pair, Unpair, Due, Preview, Both, Seen}
use Rattle.model_isolation.specs.Isolation.{Concern, is_change_of, View, writes_frames, wrote, changes_of, view_of}
use Rattle.model.proofs.Desks.{watch_desk}
use Rattle.model_watcher.proofs.ReadBack.{Sent, read_back}

-- what of the reference model is of a concern: settings, quotes, the desk's own watches, and the pair where it is counted in
abbrev pub own : Concern → Reference → Reference
own concern s = record {
  dimensions = s.dimensions;
  capacity = s.capacity;
  directions = s.directions;
  quotes = s.quotes;
  watched = filter (of_desk concern.desk) s.watched;
  n1 = cond concern.pair s.n1 0;
  n2 = cond concern.pair s.n2 0;
}

-- ---- a call by what concerns a desk

-- the refusals of a call, in order, with the desk of a watch full or not; none of a call that concerns no desk, or is heard of as another
abbrev pub refusals : Call → Bool → Lengths → Reference → List (Bool × ℕ)
refusals (Open d N directions) full l s = (not (settings_hold d N directions), number Settings) ∷ (too_short l d N, number ShortLoan) ∷ []
refusals (Quote x) full l s =
    (not (is_open s), number Settings) ∷ (not (eqb (length x) s.dimensions), number ColumnCount)
    ∷ (leb last_position (newest s), number TapeFull) ∷ (ltb l.bytes change_room, number ShortOutput) ∷ []
refusals (Look n) full l s = []
refusals (Watch desk n) full l s =
    (not (is_open s), number Settings) ∷ (outside s n, number WindowSize) ∷ (contains (watch_of desk n) s.watched, number AlreadyWatched)
    ∷ (full, number NoFreeRecord) ∷ (ltb l.bytes change_room, number ShortOutput) ∷ []
refusals (End desk n) full l s =
    (not (is_open s), number Settings) ∷ (outside s n, number WindowSize) ∷ (not (contains (watch_of desk n) s.watched), number NotWatched) ∷ []
refusals (Past n1 n2) full l s = []
refusals (Pair n1 n2) full l s =
    (not (is_open s), number Settings) ∷ (outside_pair s n1 n2, number WindowSize) ∷ (ltb n2 n1, number WindowOrder)
    ∷ (paired s, number NoFreeRecord) ∷ (ltb l.bytes change_room, number ShortOutput) ∷ []
refusals Unpair full l s = (not (is_open s), number Settings) ∷ (not (paired s), number NotWatched) ∷ []
refusals Due full l s = []
refusals (Preview x) full l s = []
refusals (Both x n) full l s = []

-- the messages that an accepted call writes
abbrev pub messages : Call → Reference → List Message
messages (Open d N directions) s = []
messages (Quote x) s =
    let next = with_quote s x in
    all_changes s.watched (skyline_of s) (skyline_of next) ++ pair_changes (pair_of s) (pair_of next)
messages (Look n) s = []
messages (Watch desk n) s = map (join (watch_of desk n)) (skyline_of s n)
messages (End desk n) s = []
messages (Past n1 n2) s = []
messages (Pair n1 n2) s = map pair_join (past_of s n1 n2)
messages Unpair s = []
messages Due s = []
messages (Preview x) s = []
messages (Both x n) s = []

-- what an accepted call leaves
abbrev pub leaves : Call → Reference → Reference
leaves (Open d N directions) s = opening d N directions
leaves (Quote x) s = with_quote s x
leaves (Look n) s = s
leaves (Watch desk n) s = with_watched s (insert (watch_of desk n) s.watched)
leaves (End desk n) s = with_watched s (without (watch_of desk n) s.watched)
leaves (Past n1 n2) s = s
leaves (Pair n1 n2) s = with_pair_of s n1 n2
leaves Unpair s = with_pair_of s 0 0
leaves Due s = s
leaves (Preview x) s = s
leaves (Both x n) s = s

-- what a concern sees of a call with this answer that writes these messages if it is accepted
abbrev pub shows : Concern → ℕ → List Message → View
shows concern a ms = record { number = a; changes = granted a (filter (is_change_of concern) ms) [] }

-- ---- a desk's changes among all

-- messages that are none of the concern's changes
pub none_own : (concern : Concern) (message : ℕ → Message) → ((p : ℕ) → is_change_of concern (message p) ≡ false)
    → (l : List ℕ) → filter (is_change_of concern) (map message l) ≡ []
unfolding filter
none_own concern message e [] = refl
none_own concern message e (p ∷ l) = rw (e p) (none_own concern message e l)

changes_none : (concern : Concern) (leaves joins : ℕ → Message) → ((p : ℕ) → is_change_of concern (leaves p) ≡ false)
    → ((p : ℕ) → is_change_of concern (joins p) ≡ false)
    → (before after : List ℕ) → filter (is_change_of concern) (changes_by leaves joins before after) ≡ []
unfolding changes_by
changes_none concern leaves joins e f before after =
    rw (
      filter_append (is_change_of concern) (map leaves (missing before after)) (map joins (missing after before)),
      none_own concern leaves e (missing before after),
      none_own concern joins f (missing after before),
    )

-- the changes of another desk's watch are none of the concern's
pub other_changes : (concern : Concern) (N w : ℕ) → is_watch N w ≡ true → of_desk concern.desk w ≡ false → (p : ℕ)
    → (is_change_of concern (leave w p) ≡ false) × (is_change_of concern (join w p) ≡ false)
unfolding is_change_of leave_kind_of join_kind_of of_desk
other_changes concern N w fine e p = by concern.desk refl e (watch_desk N w fine)
  where
    by : (desk : Desk) → concern.desk ≡ desk → eqb (desk_in w) (desk_number desk) ≡ false → (desk_in w ≡ 1) ⊎ (desk_in w ≡ 2)
        → (is_change_of concern (leave w p) ≡ false) × (is_change_of concern (join w p) ≡ false)
    by One c e (inl d) = absurd (clash (eqb (desk_in w) 1) (rw d) e)
    by One c e (inr d) = rw (c, d) (refl, refl)
    by Two c e (inl d) = rw (c, d) (refl, refl)
    by Two c e (inr d) = absurd (clash (eqb (desk_in w) 2) (rw d) e)

other_watch : (concern : Concern) (N w : ℕ) → is_watch N w ≡ true → of_desk concern.desk w ≡ false → (before after : List ℕ)
    → filter (is_change_of concern) (changes w before after) ≡ []
unfolding changes
other_watch concern N w fine e =
    changes_none concern (leave w) (join w) (λ p. (other_changes concern N w fine e p).0) (λ p. (other_changes concern N w fine e p).1)

-- the concern's changes of all watches are those of its own
watches_own : (concern : Concern) (N : ℕ) (ws : List ℕ) (before after : ℕ → List ℕ) → ((w : ℕ) → contains w ws ≡ true → is_watch N w ≡ true)
    → filter (is_change_of concern) (all_changes ws before after) ≡ filter (is_change_of concern) (all_changes (filter (of_desk concern.desk) ws) before after)
unfolding all_changes flat filter contains any
watches_own concern N [] before after each = refl
watches_own concern N (w ∷ ws) before after each =
    filter_append mine (changes w (before (size_in w)) (after (size_in w))) (all_changes ws before after)
    ∙ go (of_desk concern.desk w) refl (watches_own concern N ws before after (λ v t. each v (or_right (eqb v w) (contains v ws) t)))
  where
    mine : Message → Bool
    mine = is_change_of concern

    others : List ℕ
    others = filter (of_desk concern.desk) ws

    none : of_desk concern.desk w ≡ false → filter mine (changes w (before (size_in w)) (after (size_in w))) ≡ []
    none e = other_watch concern N w (each w (or_left (eqb w w) (contains w ws) (eq-eqb w w refl))) e (before (size_in w)) (after (size_in w))

    go : (b : Bool) → of_desk concern.desk w ≡ b → filter mine (all_changes ws before after) ≡ filter mine (all_changes others before after)
        → filter mine (changes w (before (size_in w)) (after (size_in w))) ++ filter mine (all_changes ws before after)
        ≡ filter mine (all_changes (keep b w others) before after)
    go true e r =
        ap (λ (ms : List Message). filter mine (changes w (before (size_in w)) (after (size_in w))) ++ ms) r
        ∙ sym (filter_append mine (changes w (before (size_in w)) (after (size_in w))) (all_changes others before after))
    go false e r = rw (none e) r

-- a change of the pair is of the concern exactly if the pair is counted in
pub pair_change : (concern : Concern) → concern.pair ≡ false → (p : ℕ) → (is_change_of concern (pair_leave p) ≡ false) × (is_change_of concern (pair_join p) ≡ false)
unfolding is_change_of
pair_change concern e p = rw e (refl, refl)

-- so are those of the pair
pair_own : (concern : Concern) (s next : Reference)
    → filter (is_change_of concern) (pair_changes (pair_of s) (pair_of next))
    ≡ filter (is_change_of concern) (pair_changes (pair_of (own concern s)) (pair_of (own concern next)))
unfolding pair_changes pair_of paired past_of
pair_own concern s next = go concern.pair refl
  where
    -- the changes of any two lists are none of the concern's where the pair is not counted in
    none : concern.pair ≡ false → (before after : List ℕ) → filter (is_change_of concern) (changes_by pair_leave pair_join before after) ≡ []
    none e = changes_none concern pair_leave pair_join (λ p. (pair_change concern e p).0) (λ p. (pair_change concern e p).1)

    -- the past list of the pair, counted in or not
    counted : Bool → Reference → List ℕ
    counted b t = pair_of (record {
      dimensions = t.dimensions;
      capacity = t.capacity;
      directions = t.directions;
      quotes = t.quotes;
      watched = filter (of_desk concern.desk) t.watched;
      n1 = cond b t.n1 0;
      n2 = cond b t.n2 0;
    })

    go : (b : Bool) → concern.pair ≡ b
        → filter (is_change_of concern) (pair_changes (pair_of s) (pair_of next)) ≡ filter (is_change_of concern) (pair_changes (counted b s) (counted b next))
    go true e = refl
    go false e = none e (pair_of s) (pair_of next) ∙ sym (none e (counted false s) (counted false next))

-- and those of a quote
pub quote_own : (concern : Concern) (N : ℕ) (x : List ℕ) (s : Reference) → ((w : ℕ) → contains w s.watched ≡ true → is_watch N w ≡ true)
    → filter (is_change_of concern) (messages (Quote x) s) ≡ filter (is_change_of concern) (messages (Quote x) (own concern s))
unfolding skyline_of with_quote
quote_own concern N x s each =
    let next = with_quote s x in
    filter_append (is_change_of concern) (all_changes s.watched (skyline_of s) (skyline_of next)) (pair_changes (pair_of s) (pair_of next))
    ∙ ap₂ {C = List Message} (λ (ms ns : List Message). ms ++ ns) (watches_own concern N s.watched (skyline_of s) (skyline_of next) each)
    (pair_own concern s next)
    ∙ sym (filter_append (is_change_of concern) (all_changes (filter (of_desk concern.desk) s.watched) (skyline_of s) (skyline_of next))
    (pair_changes (pair_of (own concern s)) (pair_of (own concern next))))

-- ---- what a concern sees

-- nothing is granted of nothing
pub granted_none : {A : Type 0} (a : ℕ) → granted {A = List A} a [] [] ≡ []
unfolding granted
granted_none zero = refl
granted_none (suc k) = refl

-- frames at the start of an output are read as their messages
pub changes_read : (concern : Concern) (c : Call) (ms : List Message) (a : ℕ) (out : List ℕ) (seen : Seen) → writes_frames c ≡ true → (a ≡ 0 → Sent ms)
    → seen.outcome.count ≡ granted a (length (frames ms)) 0 → seen.outputs.bytes ≡ laid (granted a (frames ms) []) out
    → changes_of concern c seen ≡ granted a (filter (is_change_of concern) ms) []
unfolding changes_of wrote granted laid messages_from filter
changes_read concern c ms zero out seen w sent e o =
    rw (w, e, o, take-append_seam (frames ms) (drop (length (frames ms)) out), read_back ms (sent refl) [] (length (frames ms)) (le_refl (length (frames ms))))
changes_read concern c ms (suc k) out seen w sent e o = rw (w, e)

-- a call that writes no frames shows no change
pub changes_unread : (concern : Concern) (c : Call) (seen : Seen) → writes_frames c ≡ false → changes_of concern c seen ≡ []
unfolding changes_of wrote messages_from filter
changes_unread concern c seen w = rw w

-- what is seen of a call with this answer and these changes
abbrev viewed : ℕ → List Message → View
viewed a ms = record { number = a; changes = ms }

-- so a call is viewed by its answer and its messages
pub view_read : (concern : Concern) (c : Call) (ms : List Message) (a : ℕ) (out : List ℕ) (seen : Seen) → writes_frames c ≡ true → (a ≡ 0 → Sent ms)
    → seen.outcome.number ≡ a → seen.outcome.count ≡ granted a (length (frames ms)) 0 → seen.outputs.bytes ≡ laid (granted a (frames ms) []) out
    → view_of concern c seen ≡ shows concern a ms
unfolding view_of
view_read concern c ms a out seen w sent e n o = ap₂ viewed e (changes_read concern c ms a out seen w sent n o)

-- or by its answer alone
pub view_unread : (concern : Concern) (c : Call) (a : ℕ) (seen : Seen) → writes_frames c ≡ false → seen.outcome.number ≡ a
    → view_of concern c seen ≡ shows concern a []
unfolding view_of filter
view_unread concern c a seen w e = ap₂ viewed e (changes_unread concern c seen w ∙ sym (granted_none {A = Message} a))

-- calls that write frames, answered alike and with the same written, are viewed alike
pub view_alike : (concern : Concern) (c d : Call) (one other : Seen) → writes_frames c ≡ true → writes_frames d ≡ true
    → one.outcome.number ≡ other.outcome.number → one.outcome.count ≡ other.outcome.count → one.outputs.bytes ≡ other.outputs.bytes
    → view_of concern c one ≡ view_of concern d other
unfolding view_of changes_of wrote
view_alike concern c d one other w v e n o = rw (w, v, e, n, o)

-- a call that wrote nothing shows no change
pub changes_none_written : (concern : Concern) (c : Call) (seen : Seen) → writes_frames c ≡ true → seen.outcome.count ≡ 0
    → changes_of concern c seen ≡ []
unfolding changes_of wrote messages_from filter
changes_none_written concern c seen w e = rw (w, e)
