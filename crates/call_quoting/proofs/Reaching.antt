-- What is known of a quote's book: what a quote on a reachable one answers, and that its rows' ends are as calls leave them.
use mathlib.Core.Path.{◌≡◌, sym, ◌∙◌}
use Prim.Native.Nat.{ℕ, ◌≤◌}
use mathlib.Core.Bool.{Bool, false}
use mathlib.Core.List.{List}
use Rattle.lists.proofs.Booleans.{clash}
use Rattle.head.specs.declared.Head.{Head}
use Rattle.model.specs.Rows.{Tables}
use Rattle.model.specs.Book.{quote_answer}
use Rattle.model.specs.Calls.{Reached}
use Rattle.model.specs.Promises.{world}
use Rattle.model.proofs.Reached.{reached_judged}
use Rattle.table_finding.specs.Found.{Rows}
use Rattle.call_settling.specs.Findings.{held_rows}
use Rattle.call_settling.proofs.Reaching.{reached_live, reached_lasting, reached_behind}
use Rattle.call_writing.specs.Bytes.{SoundIf}
use Rattle.call_quoting.specs.Answers.{quote_tests, reached_answer}
use Rattle.call_quoting.specs.Known.{Known}

-- a quote on a reachable book is answered by its settings and the quote's own tests
pub reached_answers : {h : Head} (x : List ℕ) {t : Tables} {ws : List ℕ} (room : ℕ) {a : ℕ} → Reached (world h t ws) → a ≡ reached_answer h x room → a ≡ quote_answer h x t ws room
unfolding quote_answer reached_answer
reached_answers {h} x room r e = e ∙ sym (reached_judged (quote_tests h x room) r)

-- there the rows' ends are as calls leave them
pub known_sound : (reachable : Bool) {h : Head} (x : List ℕ) {t : Tables} {ws : List ℕ} → Known reachable h t ws → 1 ≤ h.capacity
    → SoundIf reachable h t.lower_ends (held_rows h x t.columns t.upper_ends)
known_sound reachable x w k = record {
  named = λ e. record { names = reached_live (w.reached e) k };
  ends = λ e. record { lasting = reached_lasting (w.reached e) k; behind = reached_behind (w.reached e) k };
}

-- of any tables nothing is known
pub unknown : {reachable : Bool} {h : Head} {t : Tables} {ws : List ℕ} → reachable ≡ false → Known reachable h t ws
unknown {reachable} f = record { reached = λ e. absurd (clash reachable e f); roomy = λ e. absurd (clash reachable e f) }

-- and nothing is said of their rows' ends
pub unknown_sound : {reachable : Bool} {h : Head} {lowers : List ℕ} {rows : Rows} → reachable ≡ false → SoundIf reachable h lowers rows
unknown_sound {reachable} f = record { named = λ e. absurd (clash reachable e f); ends = λ e. absurd (clash reachable e f) }
