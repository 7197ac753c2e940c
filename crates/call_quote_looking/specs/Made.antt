-- What a quote and look in one hands back and leaves: in a reachable book no row is moved, and where the oldest one expires the rows are those
-- from one place later on.
use Rattle.std.specs.Prelude.{Result}
use Rattle.std.specs.Prelude.{◌≡◌, ℕ, Bool, true, false, List, length}
use Rattle.head.specs.declared.Head.{Head}
use Rattle.refusals.specs.declared.Refusal.{Refusal}
use Rattle.refusals.specs.Refusals.{granted}
use Rattle.model.specs.Rows.{Tables}
use Rattle.model.specs.Book.{both_answer, both_tables}
use Rattle.model.specs.Promises.{QuotedLooked}
use Rattle.call_settling.specs.Findings.{expired_places}
use Rattle.call_quoting.specs.declared.Entered.{Entered}
use Rattle.call_quoting.specs.Entered.{Slid, row_behind}
use Rattle.call_quote_looking.specs.declared.BothEntered.{BothEntered}

-- what is handed back where neither is taken
abbrev pub refusal : Head → Result (Unit {0}) Refusal → BothEntered
refusal h a = record { both = record { reply = record { answer = a; head = h; count = 0 }; listed = 0 }; by = 0 }

-- what is handed back where both are taken, once the quote is entered and so many positions are written
abbrev pub acceptance : Entered → ℕ → BothEntered
acceptance s count = record { both = record { reply = s.reply; listed = count }; by = s.by }

-- what quote x and a look at the list of n hand back and leave on tables t: where nothing is known of them, what the book model says; in a
-- reachable book the quote's row behind the others, so that the book which they leave stands in the tables so many places on. Refused, all
-- is as it was
pub record BothMade (reachable : Bool) (h : Head) (x : List ℕ) (n : ℕ) (t : Tables) (ws before cells : List ℕ) (s : BothEntered) (t' : Tables) (after cells' : List ℕ) : Type 0 where
  pub made : QuotedLooked h x n t ws before cells s.both (both_tables h x n t ws (length before) (length cells)) after cells'
  pub moved : reachable ≡ false → t' ≡ both_tables h x n t ws (length before) (length cells)
  pub behind : reachable ≡ true → t' ≡ granted (both_answer h x n t ws (length before) (length cells)) (row_behind h x t) t
  pub later_by : reachable ≡ true → s.by ≡ granted (both_answer h x n t ws (length before) (length cells)) (expired_places h) 0
  pub slides : reachable ≡ true → Slid s.both.reply.head (both_tables h x n t ws (length before) (length cells)) t' s.by
