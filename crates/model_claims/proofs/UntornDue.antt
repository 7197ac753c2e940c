-- When a row that is due comes onto the past list of the pair on a book that is not torn, whether calls left it or not: with further quotes
-- that were made on it, and that these are accepted if the tape has space for them.
use mathlib.Core.Path.{◌≡◌, refl, sym, ◌∙◌}
use Prim.Native.Nat.{ℕ, zero, suc, ◌+◌, ◌-◌, ◌≤◌, ◌<◌}
use native.Mathlib.Omega.{arith}
use mathlib.Core.Bool.{Bool, true, false, ◌&&◌, cond}
use mathlib.Core.List.Memᴰ
use mathlib.Core.List.{List, [], ◌∷◌, map, Memᴰ}
use lib.Dec.{ltb, leb, eqb}
use lib.ListN.{length}
use borrow.Author.Tests.{ltb-true, leb-true, ne_eqb, lt-leb, le-ltb}
use Rattle.lists.specs.Lists.{filter}
use Rattle.lists.proofs.Booleans.{and_left, and_right}
use Rattle.lists.proofs.Members.{of_filter, of_map}
use Rattle.skyline.specs.Skyline.{window_start}
use Rattle.skyline.specs.Past.{covers}
use Rattle.refusals.specs.Refusals.{first_of, granted}
use Rattle.head.specs.declared.Head.{Head}
use Rattle.head.specs.Heads.{last_position}
use Rattle.model.specs.Rows.{Row, listed, due_rows, joins_after, expiring}
use Rattle.model.specs.Changes.{change_room}
use Rattle.model.specs.Book.{book_rows, pair_stands, past_list_of, past_cells, reply_of, quote_answer, quote_reply, quote_tables, due_in}
use Rattle.model.specs.Calls.{Quote, Outputs, Seen, World, book_seen, head_after, world_after, book_step, runs}
use Rattle.model_claims.specs.Claims.{AllMade, is_quote, accepted_in}
use Rattle.model_claims.specs.Untorn.{Untorn, quotes_of, all_fit}
use Rattle.model.proofs.Torn.{pair_within}
use Rattle.model_claims.proofs.Refining.{all_made}
use Rattle.model_claims.proofs.Untorn.{RowAt, SameSettings, covers_within, row_lower, judged_untorn, listed_last, head_after_lem, next_is, untorn_after, row_stays}

-- ---- further quotes

-- the rows of a book
abbrev rows_on : World → List Row
rows_on w = book_rows w.head w.lent.tables

-- what quotes leave of a book that is not torn, so many of them accepted: rows stay while they do not expire, with their lower ends or without
record Goes (w next : World) (count : ℕ) : Type 0 where
  untorn : Untorn next
  newest : next.head.newest ≡ w.head.newest + count
  settings : SameSettings w.head next.head
  rows : (p low : ℕ) → 1 ≤ p → w.head.newest + count < p + w.head.capacity → RowAt p low (rows_on w) → RowAt p low (rows_on next)

same_settings : (h : Head) → SameSettings h h
same_settings h = record { dimensions = refl; capacity = refl; directions = refl; n1 = refl; n2 = refl }

goes_none : {w : World} → Untorn w → Goes w w 0
goes_none {w} u = record { untorn = u; newest = omega arith; settings = same_settings w.head; rows = λ p low some h r. r }

goes_then : {w v end : World} {j k : ℕ} → Goes w v j → Goes v end k → Goes w end (j + k)
goes_then a b =
    let s = a.settings in
    let t = b.settings in
    let n = a.newest in
    let m = b.newest in
    let c = s.capacity in
    record {
      untorn = b.untorn;
      newest = omega arith;
      settings = record {
        dimensions = t.dimensions ∙ s.dimensions;
        capacity = t.capacity ∙ s.capacity;
        directions = t.directions ∙ s.directions;
        n1 = t.n1 ∙ s.n1;
        n2 = t.n2 ∙ s.n2;
      };
      rows = λ p low some h r. b.rows p low some (omega arith) (a.rows p low some (omega arith) r);
    }

module _ (w : World) (u : Untorn w) (x : List ℕ) (o : Outputs) where
  -- the answer of a quote
  abbrev answer : ℕ
  answer = quote_answer w.head x w.lent.tables w.lent.watches (length o.bytes)

  -- an accepted one
  goes_accepted : answer ≡ 0 → Goes w (book_step (Quote x) o w).1 1
  unfolding expiring
  goes_accepted e =
      let n = next_is w u x o e in
      let a = head_after_lem w u x o e in
      record {
        untorn = untorn_after w u x o e;
        newest = rw n a.0;
        settings = rw n a.2;
        rows = λ p low some h r. row_stays w u x o e p low r (λ q. omega arith);
      }

  -- a refused one leaves the book
  refused_same : (k : ℕ) → answer ≡ suc k → (book_step (Quote x) o w).1 ≡ w
  unfolding book_seen head_after world_after book_step quote_reply reply_of quote_tables granted
  refused_same k e = rw e

  goes_either : (a : ℕ) → answer ≡ a → Goes w (book_step (Quote x) o w).1 (cond (eqb a 0) 1 0)
  goes_either zero e = goes_accepted e
  goes_either (suc k) e = rw (ne_eqb (suc k) 0 (λ z. omega arith), refused_same k e) (goes_none u)

  answered : (book_step (Quote x) o w).0.outcome.number ≡ answer
  unfolding book_seen book_step quote_reply reply_of
  answered = refl

  quote_goes : Goes w (book_step (Quote x) o w).1 (cond (eqb (book_step (Quote x) o w).0.outcome.number 0) 1 0)
  quote_goes = rw answered (goes_either answer refl)

  -- one of d columns with an output that suffices is accepted while the tape has space
  fit_accepted : eqb (length x) w.head.dimensions ≡ true → leb change_room (length o.bytes) ≡ true → w.head.newest < last_position → answer ≡ 0
  unfolding quote_answer first_of
  fit_accepted wide room space =
      judged_untorn u _
      ∙ rw (wide, lt-leb last_position w.head.newest space, le-ltb (length o.bytes) change_room (leb-true change_room (length o.bytes) room))

-- a list of quotes
quotes_go : (qs : List (List ℕ × Outputs)) (w : World) → Untorn w
    → Goes w (runs book_step (quotes_of qs) w).1 (accepted_in is_quote (quotes_of qs) (runs book_step (quotes_of qs) w).0)
unfolding runs accepted_in is_quote
quotes_go [] w u = goes_none u
quotes_go (q ∷ qs) w u =
    let one = quote_goes w u q.0 q.1 in
    goes_then one (quotes_go qs (book_step (Quote q.0) q.1 w).1 one.untorn)

-- all are accepted if they fit
quotes_accepted : (qs : List (List ℕ × Outputs)) (w : World) → Untorn w → all_fit w.head.dimensions qs ≡ true
    → w.head.newest + length qs ≤ last_position → accepted_in is_quote (quotes_of qs) (runs book_step (quotes_of qs) w).0 ≡ length qs
unfolding runs accepted_in is_quote all_fit
quotes_accepted [] w u fit space = refl
quotes_accepted (q ∷ qs) w u fit space =
    let d = w.head.dimensions in
    let wide = eqb (length q.0) d in
    let room = leb change_room (length q.1.bytes) in
    let both = and_left (wide && room) (all_fit d qs) fit in
    let e = fit_accepted w u q.0 q.1 (and_left wide room both) (and_right wide room both) (omega arith) in
    let one = goes_accepted w u q.0 q.1 e in
    let n = one.newest in
    rw (answered w u q.0 q.1, e)
    (omega (
      arith,
      quotes_accepted qs (book_step (Quote q.0) q.1 w).1 one.untorn
          (rw one.settings.dimensions (and_right (wide && room) (all_fit d qs) fit)) (omega arith),
    ))

-- ---- what is due

-- what due says of a position of a book: a pair is watched, a row is held there, younger than the pair's window, its lower end before it
record DueOn (w : World) (p : ℕ) : Type 0 where
  stands : pair_stands w.head ≡ true
  low : ℕ
  row : RowAt p low (rows_on w)
  younger : w.head.newest + 1 < p + w.head.n1
  free : low < window_start w.head.newest w.head.n2

due_on_lem : (w : World) (p : ℕ) → Memᴰ p (map Row.position (due_in w.head w.lent.tables)) → DueOn w p
unfolding due_in due_rows
due_on_lem w p m = go (pair_stands w.head) refl m
  where
    h : Head
    h = w.head

    far : Row → Bool
    far r = ltb (h.newest + 1) (r.position + h.n1)

    under : Row → Bool
    under r = ltb r.lower_end (window_start h.newest h.n2)

    at : (r : Row) → Memᴰ r (rows_on w) → far r && under r ≡ true → p ≡ r.position → pair_stands h ≡ true → DueOn w p
    at r m t e b = record {
      stands = b;
      low = r.lower_end;
      row = record { row = r; held = m; at = sym e; lower = omega arith };
      younger = rw e (ltb-true (h.newest + 1) (r.position + h.n1) (and_left (far r) (under r) t));
      free = ltb-true r.lower_end (window_start h.newest h.n2) (and_right (far r) (under r) t);
    }

    go : (b : Bool) → pair_stands h ≡ b → Memᴰ p (map Row.position (cond b (filter (λ r. far r && under r) (rows_on w)) [])) → DueOn w p
    go true e m =
        let r = of_map Row.position p (filter (λ r. far r && under r) (rows_on w)) m in
        let t = of_filter (λ r. far r && under r) r.0 (rows_on w) r.1 in
        at r.0 t.0 t.1 r.2 e
    go false e m = absurd (Memᴰ.not-nil m)

module _ (w : World) (u : Untorn w) (qs : List (List ℕ × Outputs)) (ss : List Seen) (end : World) (m : AllMade (quotes_of qs) w ss end) where
  -- how many of the quotes were accepted
  abbrev accepted : ℕ
  accepted = accepted_in is_quote (quotes_of qs) ss

  goes : Goes w end accepted
  goes = rw ((all_made m).0, (all_made m).1) (quotes_go qs w u)

  -- further quotes of d columns, each with an output that always suffices, are accepted if the tape has space for them
  pub due_space_untorn : all_fit w.head.dimensions qs ≡ true → w.head.newest + length qs ≤ last_position → accepted ≡ length qs
  due_space_untorn fit space = rw (all_made m).0 (quotes_accepted qs w u fit space)

  -- a row that is due is on the past list of the pair after exactly its number of further accepted quotes
  pub due_joins_untorn : (p : ℕ) → Memᴰ p (map Row.position (due_in w.head w.lent.tables)) → accepted ≡ joins_after w.head.newest w.head.n1 p
      → Memᴰ p (past_cells end.head w.head.n1 w.head.n2 end.lent.tables)
  unfolding past_cells past_list_of window_start
  due_joins_untorn p due e =
      let D = due_on_lem w p due in
      let W = pair_within w.head u.pair D.stands in
      let at = D.row.at in
      let positive = row_lower w u D.row.row D.row.held in
      let younger = D.younger in
      let free = D.free in
      let order = W.order in
      let most = W.most in
      let n = goes.newest in
      let last : end.head.newest + 1 - w.head.n1 ≡ p = omega arith in
      let row = goes.rows p D.low (omega arith) (omega arith) D.row in
      rw last (listed_last end goes.untorn (window_start end.head.newest w.head.n2) p D.low row (omega arith) (omega arith))

  -- and not before
  pub due_not_before_untorn : (p : ℕ) → accepted < joins_after w.head.newest w.head.n1 p
      → Memᴰ p (past_cells end.head w.head.n1 w.head.n2 end.lent.tables) → ⊥
  unfolding past_cells past_list_of listed
  due_not_before_untorn p fewer on =
      let a = window_start end.head.newest w.head.n2 in
      let b = end.head.newest + 1 - w.head.n1 in
      let test : Row → Bool = λ r. covers a b r.lower_end r.position r.upper_end in
      let r = of_map Row.position p (filter test (rows_on end)) on in
      let t = of_filter test r.0 (rows_on end) r.1 in
      let within = (covers_within a b r.0.lower_end r.0.position r.0.upper_end t.1).1 in
      let same = r.2 in
      let positive = row_lower end goes.untorn r.0 t.0 in
      let n = goes.newest in
      omega arith
