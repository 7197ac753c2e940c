-- What is wanted, made: a call that leaves the tables as they are, one that moves its rows, and a quote.
use Rattle.std.specs.Prelude.{Option, Result, Ok}
use mathlib.Core.Path.{◌≡◌, refl, sym, ap, ◌∙◌}
use Prim.Native.Nat.{ℕ}
use mathlib.Core.Bool.{Bool}
use mathlib.Core.List.{List}
use lib.ListN.{length, take}
use Rattle.lists.specs.Lists.{laid}
use Rattle.head.specs.declared.Head.{Head}
use Rattle.head.specs.Replies.{Outcome}
use Rattle.model.specs.Rows.{Tables}
use Rattle.model.specs.Book.{quote_tables, quote_reply}
use Rattle.model.specs.Calls.{Call, book_seen, head_after, world_after, book_step}
use Rattle.call_quoting.specs.declared.Entered.{Entered}
use Rattle.call_quoting.specs.Entered.{stayed, QuoteEntered}
use Rattle.tape_asking.specs.declared.Wanted.{Wanted}
use Rattle.tape_asking.specs.declared.Wanted.TheVariants.{Quote}
use Rattle.tape_model.specs.Play.{Player, book_make}
use Rattle.refusals.specs.declared.Refusal.{Refusal}
use Rattle.line_answers.specs.declared.Turn.{Turn}
use Rattle.tape_turns.specs.declared.TurnMade.{TurnMade}
use Rattle.line_answers.specs.Turns.{player, Effect, made, Turned}
use Rattle.tape_turns.specs.Making.{nothing, frame_taken, taken, tables_of, Makes}

-- on the tables that the book model leaves
turned_there : {one : Effect} {before : List ℕ} {r : Turn} {t' : Tables} {bytes' after : List ℕ} → Turned one before r t' bytes' after → Turned one before r (tables_of one) bytes' after
turned_there u = record { answer = u.answer; count = u.count; head = u.head; watches = u.watches; lent = refl; bytes = u.bytes; text = u.text }

-- a call that leaves the tables so, in a reachable book too
pub made_there : {reachable : Bool} {one : Effect} {before : List ℕ} {r : Turn} {t' : Tables} {bytes' after : List ℕ} → Turned one before r t' bytes' after
    → Makes reachable one before (record { turn = r; by = 0 }) t' bytes' after
made_there u = record { turned = turned_there u; moved = λ e. u.lent; slides = λ e. stayed u.lent }

-- what is wanted of the player, once it is known
pub wanted_made : {reachable : Bool} (x : List ℕ) (k : Player) {before : List ℕ} {w v : Wanted} {r : Turn} {t' : Tables} {bytes' after : List ℕ} → w ≡ v
    → Turned (frame_taken v x k) before r t' bytes' after → Makes reachable (frame_taken w x k) before (record { turn = r; by = 0 }) t' bytes' after
wanted_made x k e u = rw e (made_there u)

-- what stands at a place, once it is known
pub stands_made : {reachable : Bool} (x : List ℕ) (k : Player) {before : List ℕ} {w v : Result (Option Wanted) Refusal} {r : TurnMade} {t' : Tables} {bytes' after : List ℕ} → w ≡ v
    → Makes reachable (taken v x k) before r t' bytes' after → Makes reachable (taken w x k) before r t' bytes' after
stands_made x k e m = rw e m

-- nothing
pub nothing_turned : (h : Head) (t : Tables) (ws bytes before : List ℕ)
    → Turned (nothing (player h t ws bytes)) before (record { answer = Ok tt; count = 0; head = h; watches = ws }) t bytes before
unfolding laid
nothing_turned h t ws bytes before = record { answer = refl; count = refl; head = refl; watches = refl; lent = refl; bytes = refl; text = refl }

-- the head that a quote hands back is that of its turn, and so are the tables
quoted_head : (h : Head) (x : List ℕ) (t : Tables) (ws bytes : List ℕ) {before : List ℕ} {turn : Turn} {t' : Tables} {bytes' after : List ℕ}
    → Turned (made (Call.Quote x) (player h t ws bytes)) before turn t' bytes' after → turn.head ≡ (quote_reply h x t ws (length bytes)).head
unfolding made book_make book_step world_after head_after book_seen
quoted_head h x t ws bytes u = u.head

-- a quote
pub quote_made : {reachable : Bool} (x : List ℕ) (h : Head) (t : Tables) (ws bytes : List ℕ) {before : List ℕ} {w : Wanted} {n : ℕ} {r : Turn} {s : Entered} {t' : Tables} {bytes' after : List ℕ} → w ≡ Quote n
    → QuoteEntered reachable h (take n x) t ws bytes s t' bytes'
    → Turned (made (Call.Quote (take n x)) (player h t ws bytes)) before r (quote_tables h (take n x) t ws (length bytes)) bytes' after
    → Makes reachable (frame_taken w x (player h t ws bytes)) before (record { turn = r; by = s.by }) t' bytes' after
unfolding frame_taken
quote_made x h t ws bytes {n = n} {r = r} q s u =
    let same : r.head ≡ _ = quoted_head h (take n x) t ws bytes u ∙ sym (ap Outcome.head s.quoted.reply) in
    rw q record { turned = turned_there u; moved = λ e. s.moved e ∙ u.lent; slides = λ e. rw (same, ← u.lent) (s.slides e) }
