-- Calls that were made, each meeting its promise on what the one before left, and all that demand 3 says of a list of them.
use Rattle.std.specs.Prelude.{◌≡◌, ◌↔◌, ℕ, ◌+◌, ◌-◌, ◌≤◌, ◌<◌, Bool, true, false, ◌&&◌, ◌||◌, not, cond, leb, eqb, length, take, drop}
use mathlib.Core.List.{List, [], ◌∷◌, map, Memᴰ}
use Rattle.head.specs.declared.Head.{Head}
use Rattle.head.specs.declared.Desk.{Desk}
use Rattle.head.specs.declared.replies.Reply.{Reply}
use Rattle.head.specs.declared.replies.Effect.{Effect}
use Rattle.head.specs.declared.replies.BothReply.{BothReply}
use Rattle.head.specs.Heads.{fresh_head, last_position}
use Rattle.refusals.specs.declared.Refusal.TheVariants.{Settings}
use Rattle.refusals.specs.Refusals.{number, granted}
use Rattle.head.specs.Replies.{outcome, yes, refused}
use Rattle.model.specs.Rows.{Row, Tables, joins_after}
use Rattle.model.specs.Changes.{change_room}
use Rattle.model.specs.Reference.{Reference, newest, skyline_of, past_of, due_of, head_of, is_open, with_quotes}
use Rattle.model.specs.Calls.{Call, Open, Quote, Look, Watch, End, Past, Pair, Unpair, Due, Preview, Both, Outputs, Lending, Lent, Seen, World, head_after, world_after, shown, expected_step, runs, expected_first, expected_at_end, reference_at_end, positions_in, live_positions_in}
use Rattle.model.specs.Promises.{world, Opened, Quoted, Looked, PastLooked, Watched, Ended, Paired, Unpaired, DueLooked, Previewed, QuotedLooked}
use Rattle.model_watcher.specs.Watcher.{Nothing, OfSize, OfPair, watcher, held_by}
use Rattle.model_audit.specs.Audit.{audit_finding}

-- what is seen of a call that left this reply, these outputs, these tables and these watches
abbrev pub seen : Reply → Outputs → Tables → List ℕ → Seen
seen r o t ws = record { outcome = outcome r; counts = []; outputs = o; lent = record { tables = t; watches = ws } }

-- what is seen of a preview that left this effect and these outputs
abbrev pub foreseen : Effect → Outputs → Tables → List ℕ → Seen
foreseen e o t ws =
    record { outcome = outcome e.reply; counts = e.live ∷ e.held ∷ []; outputs = o; lent = record { tables = t; watches = ws } }

-- what is seen of a quote and look in one that left this reply, these outputs and these tables
abbrev pub both_seen : BothReply → Outputs → Tables → List ℕ → Seen
both_seen r o t ws =
    record { outcome = outcome r.reply; counts = r.listed ∷ []; outputs = o; lent = record { tables = t; watches = ws } }

-- a call was made on a book, met its promise, and left this to be seen
pub data Made : Call → Outputs → World → Seen → Type 0 where
  opened : {d N directions : ℕ} {o : Outputs} {h : Head} {t : Tables} {ws : List ℕ} {r : Reply} {t' : Tables} {ws' : List ℕ}
      → Opened d N directions t ws r t' ws' → Made (Open d N directions) o (world h t ws) (seen r o t' ws')
  quoted : {x : List ℕ} {o : Outputs} {h : Head} {t : Tables} {ws : List ℕ} {r : Reply} {t' : Tables} {bytes : List ℕ}
      → Quoted h x t ws o.bytes r t' bytes → Made (Quote x) o (world h t ws) (seen r (record { bytes = bytes; cells = o.cells }) t' ws)
  looked : {n : ℕ} {o : Outputs} {h : Head} {t : Tables} {ws : List ℕ} {r : Reply} {cells : List ℕ}
      → Looked h n t o.cells r cells → Made (Look n) o (world h t ws) (seen r (record { bytes = o.bytes; cells = cells }) t ws)
  watched : {desk : Desk} {n : ℕ} {o : Outputs} {h : Head} {t : Tables} {ws : List ℕ} {r : Reply} {ws' bytes : List ℕ}
      → Watched h desk n t ws o.bytes r ws' bytes → Made (Watch desk n) o (world h t ws) (seen r (record { bytes = bytes; cells = o.cells }) t ws')
  ended : {desk : Desk} {n : ℕ} {o : Outputs} {h : Head} {t : Tables} {ws : List ℕ} {r : Reply} {ws' : List ℕ}
      → Ended h desk n t ws r ws' → Made (End desk n) o (world h t ws) (seen r o t ws')
  past_looked : {n1 n2 : ℕ} {o : Outputs} {h : Head} {t : Tables} {ws : List ℕ} {r : Reply} {cells : List ℕ}
      → PastLooked h n1 n2 t o.cells r cells → Made (Past n1 n2) o (world h t ws) (seen r (record { bytes = o.bytes; cells = cells }) t ws)
  paired : {n1 n2 : ℕ} {o : Outputs} {h : Head} {t : Tables} {ws : List ℕ} {r : Reply} {bytes : List ℕ}
      → Paired h n1 n2 t ws o.bytes r bytes → Made (Pair n1 n2) o (world h t ws) (seen r (record { bytes = bytes; cells = o.cells }) t ws)
  unpaired : {o : Outputs} {h : Head} {t : Tables} {ws : List ℕ} {r : Reply} → Unpaired h t ws r → Made Unpair o (world h t ws) (seen r o t ws)
  due_looked : {o : Outputs} {h : Head} {t : Tables} {ws : List ℕ} {r : Reply} {cells : List ℕ}
      → DueLooked h t o.cells r cells → Made Due o (world h t ws) (seen r (record { bytes = o.bytes; cells = cells }) t ws)
  previewed : {x : List ℕ} {o : Outputs} {h : Head} {t : Tables} {ws : List ℕ} {e : Effect} {bytes : List ℕ}
      → Previewed h x t ws o.bytes e bytes → Made (Preview x) o (world h t ws) (foreseen e (record { bytes = bytes; cells = o.cells }) t ws)
  both : {x : List ℕ} {n : ℕ} {o : Outputs} {h : Head} {t : Tables} {ws : List ℕ} {r : BothReply} {t' : Tables} {bytes cells : List ℕ}
      → QuotedLooked h x n t ws o.bytes o.cells r t' bytes cells → Made (Both x n) o (world h t ws) (both_seen r (record { bytes = bytes; cells = cells }) t' ws)

-- a list of calls was made on a book, each on what the one before left (it gets the head handed back, unless by a refused opening), and
-- left this to be seen after each, and this book at the end
pub data AllMade : List Lending → World → List Seen → World → Type 0 where
  none : {w : World} → AllMade [] w [] w
  next : {c : Lending} {cs : List Lending} {w : World} {s : Seen} {ss : List Seen} {end : World}
      → Made c.call c.outputs w s → AllMade cs (world_after c.call s w) ss end → AllMade (c ∷ cs) w (s ∷ ss) end

-- the head handed back by the last call that was no refused opening, or this one where there was none
unfoldable pub last_head : List Lending → List Seen → Head → Head
last_head [] ss h = h
last_head (c ∷ cs) [] h = h
last_head (c ∷ cs) (s ∷ ss) h = last_head cs ss (head_after c.call s.outcome h)

-- what is lent after the last call, or this where there was none
unfoldable pub last_lent : List Seen → Lent → Lent
last_lent [] l = l
last_lent (s ∷ ss) l = last_lent ss s.lent

-- what is seen of a preview, by what is seen of the quote on the same book: its answer, its count of bytes, every byte of its output, and
-- the live and the held rows of the head that it hands back
pub record AsQuoted (quote preview : Seen) : Type 0 where
  pub number : preview.outcome.number ≡ quote.outcome.number
  pub count : preview.outcome.count ≡ quote.outcome.count
  pub bytes : preview.outputs.bytes ≡ quote.outputs.bytes
  pub counts : preview.counts ≡ quote.outcome.head.live ∷ quote.outcome.head.held ∷ []

-- a quote and look in one is accepted: it shows the quote's outcome, bytes and tables, the look's positions, and both counts
pub record BothTaken (quote look both : Seen) : Type 0 where
  pub outcome : both.outcome ≡ quote.outcome
  pub counts : both.counts ≡ look.outcome.count ∷ []
  pub bytes : both.outputs.bytes ≡ quote.outputs.bytes
  pub cells : both.outputs.cells ≡ look.outputs.cells
  pub lent : both.lent ≡ quote.lent

-- a quote and look in one is refused: it hands back the head as it came and 0 for both counts, and leaves everything lent as it was
pub record BothLeft (o : Outputs) (w : World) (both : Seen) : Type 0 where
  pub head : both.outcome.head ≡ w.head
  pub count : both.outcome.count ≡ 0
  pub counts : both.counts ≡ 0 ∷ []
  pub outputs : both.outputs ≡ o
  pub lent : both.lent ≡ w.lent

-- what is seen of a quote and look in one, by what is seen of the quote on the same book, and of the look on the book after that: it is refused
-- as the quote, then as the look, and if either is refused neither happens (02, 8/13)
pub record InOne (o : Outputs) (w : World) (quote look both : Seen) : Type 0 where
  pub number : both.outcome.number ≡ granted quote.outcome.number look.outcome.number quote.outcome.number
  pub both_accepted : both.outcome.number ≡ 0 → BothTaken quote look both
  pub both_refused : 1 ≤ both.outcome.number → BothLeft o w both

-- the call is a quote, by itself or with a look behind it, in one
unfoldable pub is_quote : Call → Bool
is_quote (Open d N directions) = false
is_quote (Quote x) = true
is_quote (Look n) = false
is_quote (Watch desk n) = false
is_quote (End desk n) = false
is_quote (Past n1 n2) = false
is_quote (Pair n1 n2) = false
is_quote Unpair = false
is_quote Due = false
is_quote (Preview x) = false
is_quote (Both x n) = true

-- the call is an opening
unfoldable pub is_opening : Call → Bool
is_opening (Open d N directions) = true
is_opening (Quote x) = false
is_opening (Look n) = false
is_opening (Watch desk n) = false
is_opening (End desk n) = false
is_opening (Past n1 n2) = false
is_opening (Pair n1 n2) = false
is_opening Unpair = false
is_opening Due = false
is_opening (Preview x) = false
is_opening (Both x n) = false

-- how many calls of this sort were accepted, of calls of which this was seen
unfoldable pub accepted_in : (Call → Bool) → List Lending → List Seen → ℕ
accepted_in sort [] ss = 0
accepted_in sort (c ∷ cs) [] = 0
accepted_in sort (c ∷ cs) (s ∷ ss) = cond (sort c.call && eqb s.outcome.number 0) 1 0 + accepted_in sort cs ss

-- how many calls are of this sort
unfoldable pub count_in : (Call → Bool) → List Lending → ℕ
count_in sort [] = 0
count_in sort (c ∷ cs) = cond (sort c.call) 1 0 + count_in sort cs

-- a call that is a quote has d columns and an output that always suffices; with a look behind it, in one, also an n from 1 to N, and a cell for
-- each of n positions
unfoldable pub fits : ℕ → ℕ → Call → Outputs → Bool
fits d N (Open d' N' directions) o = true
fits d N (Quote x) o = eqb (length x) d && leb change_room (length o.bytes)
fits d N (Look n) o = true
fits d N (Watch desk n) o = true
fits d N (End desk n) o = true
fits d N (Past n1 n2) o = true
fits d N (Pair n1 n2) o = true
fits d N Unpair o = true
fits d N Due o = true
fits d N (Preview x) o = true
fits d N (Both x n) o = (eqb (length x) d && leb change_room (length o.bytes)) && ((leb 1 n && leb n N) && leb n (length o.cells))

-- every quote of a list fits
unfoldable pub fit_quotes : ℕ → ℕ → List Lending → Bool
fit_quotes d N [] = true
fit_quotes d N (c ∷ cs) = fits d N c.call c.outputs && fit_quotes d N cs

-- those behind the first i, of the first j
abbrev pub stretch : {A : Type 0} → ℕ → ℕ → List A → List A
stretch i j xs = drop i (take j xs)

-- the row at position p is due for the pair that is watched
abbrev pub IsDue : Reference → ℕ → Type 0
IsDue s p = Memᴰ p (map Row.position (due_of s))

-- after how many more quotes the row at position p joins the past list of the pair that is watched
abbrev pub due_after : Reference → ℕ → ℕ
due_after s p = joins_after (newest s) s.n1 p

-- position p is the past list with n1 and n2 at its own place, counted back from the newest: an n from 1 to N
pub record ListedAlone (s : Reference) (p : ℕ) : Type 0 where
  pub some : 1 ≤ newest s + 1 - p
  pub most : newest s + 1 - p ≤ s.capacity
  pub alone : past_of s (newest s + 1 - p) (newest s + 1 - p) ≡ p ∷ []

-- all that demand 3 says of a list of calls from a head of zeros on anything lent, of what was seen after each, and of the book at the end
pub record Refines (cs : List Lending) (l : Lent) (ss : List Seen) (end : World) : Type 0 where
  -- refusal, count, head, every byte and cell of the outputs, tables, records and all else lent: after each call as the reference
  -- model shows
  pub seen_alike : ss ≡ (runs expected_step cs (expected_first l)).0
  -- the head that stands at the end is the reference model's: its settings, M, live and held rows, or zeros where no opening was accepted
  pub head_alike : end.head ≡ head_of (reference_at_end cs l)
  -- and the one last handed back by a call that was no refused opening, or the zeros where there was none
  pub head_last : end.head ≡ last_head cs ss (fresh_head 0 0 0)
  -- everything lent is at the end as the reference model shows
  pub lent_alike : end.lent ≡ (expected_at_end cs l).lent
  -- from the first accepted opening on the N places of each table are filled from its rows, and the eight records from its watches
  pub lent_filled : shown (reference_at_end cs l) end.lent ≡ end.lent
  -- a position has a live row at the end exactly if some n from 1 to N lists it
  pub live_iff_listed : (p : ℕ)
      → Memᴰ p (live_positions_in end) ↔ ((n : ℕ) × (1 ≤ n) × (n ≤ (reference_at_end cs l).capacity) × Memᴰ p (skyline_of (reference_at_end cs l) n))
  -- one without a live row is listed by no n up to N, then or after any further quotes
  pub retired_never_listed : (more : List (List ℕ)) (p n : ℕ) → p ≤ newest (reference_at_end cs l) → n ≤ (reference_at_end cs l).capacity
      → (Memᴰ p (live_positions_in end) → ⊥) → Memᴰ p (skyline_of (with_quotes (reference_at_end cs l) more) n) → ⊥
  -- every position held at the end is the past list with n1 and n2 at its own place, an n from 1 to N
  pub held_listed_alone : (p : ℕ) → Memᴰ p (positions_in end) → ListedAlone (reference_at_end cs l) p
  -- a position has a row at the end, live or retired, exactly if some n1 and n2 with 1 ≤ n1 ≤ n2 ≤ N have it on their past list
  pub held_iff_past : (p : ℕ)
      → Memᴰ p (positions_in end) ↔ ((n1 : ℕ) × (n2 : ℕ) × (1 ≤ n1) × (n1 ≤ n2) × (n2 ≤ (reference_at_end cs l).capacity) × Memᴰ p (past_of (reference_at_end cs l) n1 n2))
  -- after each call a desk's watcher of n who applied the changes holds the list of n, and nothing while the desk does not watch n
  pub watcher_holds_list : (desk : Desk) (n k : ℕ)
      → watcher (OfSize desk n) (take k cs) (take k ss) Nothing ≡ held_by (OfSize desk n) (reference_at_end (take k cs) l)
  -- and a watcher of the pair its past list, and nothing while no pair is watched
  pub pair_holds_past : (k : ℕ) → watcher OfPair (take k cs) (take k ss) Nothing ≡ held_by OfPair (reference_at_end (take k cs) l)
  -- a row that is due after i calls is on the past list of the pair watched then after exactly its number of further accepted quotes
  pub due_joins : (i j p : ℕ) → IsDue (reference_at_end (take i cs) l) p → i ≤ j
      → accepted_in is_opening (stretch i j cs) (stretch i j ss) ≡ 0
      → accepted_in is_quote (stretch i j cs) (stretch i j ss) ≡ due_after (reference_at_end (take i cs) l) p
      → Memᴰ p (past_of (reference_at_end (take j cs) l) (reference_at_end (take i cs) l).n1 (reference_at_end (take i cs) l).n2)
  -- and not before
  pub due_not_before : (i j p : ℕ) → IsDue (reference_at_end (take i cs) l) p → i ≤ j
      → accepted_in is_opening (stretch i j cs) (stretch i j ss) ≡ 0
      → accepted_in is_quote (stretch i j cs) (stretch i j ss) < due_after (reference_at_end (take i cs) l) p
      → Memᴰ p (past_of (reference_at_end (take j cs) l) (reference_at_end (take i cs) l).n1 (reference_at_end (take i cs) l).n2) → ⊥
  -- if the tape has space for them the quotes of a stretch are accepted, each with d columns and outputs that always suffice, once an
  -- opening was accepted and while no other one is
  pub due_space : (i j : ℕ) → i ≤ j → is_open (reference_at_end (take i cs) l) ≡ true
      → accepted_in is_opening (stretch i j cs) (stretch i j ss) ≡ 0 → fit_quotes (reference_at_end (take i cs) l).dimensions (reference_at_end (take i cs) l).capacity (stretch i j cs) ≡ true
      → newest (reference_at_end (take i cs) l) + count_in is_quote (stretch i j cs) ≤ last_position
      → accepted_in is_quote (stretch i j cs) (stretch i j ss) ≡ count_in is_quote (stretch i j cs)
  -- a preview and a quote of the same columns that are made on the book at the end, each with the same outputs, show the same
  pub preview_is_quote : (x : List ℕ) (o : Outputs) (quote preview : Seen) → Made (Quote x) o end quote → Made (Preview x) o end preview
      → AsQuoted quote preview
  -- a quote and look in one that is made on the book at the end shows what the quote, and then the look on the book that it leaves, show
  pub both_in_one : (x : List ℕ) (n : ℕ) (o : Outputs) (quote look both : Seen) → Made (Quote x) o end quote → Made (Look n) o (world_after (Quote x) quote end) look
      → Made (Both x n) o end both → InOne o end quote look both
  -- after each call the book, with the head and the tables that were seen, passes the audit once an opening was accepted; before that its head
  -- of zeros is refused with 3
  pub audit_says : (k : ℕ)
      → audit_finding (last_head (take k cs) (take k ss) (fresh_head 0 0 0)) (last_lent (take k ss) l).tables
      ≡ cond (is_open (reference_at_end (take k cs) l)) yes (refused (number Settings))
