-- A quote and look in one, tried: whether the call takes both, and what it leaves.
use Rattle.std.specs.Prelude.{◌≡◌, ℕ, ◌+◌, Bool, true, false, ◌&&◌, List, eqb}
use Rattle.head.specs.Heads.{max_capacity}
use Rattle.model.specs.Rows.{Tables}
use Rattle.tape_model.specs.Play.{Player}
use Rattle.tape_model.specs.InOne.{seen_both}
use Rattle.line_answers.specs.Turns.{line_bytes, text_bytes, made_two}
use Rattle.tape_turns.specs.Making.{Makes}
use Rattle.tape_both.specs.declared.BothTurn.{BothTurn}

-- how many bytes the lines of a step have room in: those of any frame, and a look's line behind them
abbrev pub step_bytes : ℕ
step_bytes = text_bytes + line_bytes (1 + max_capacity)

-- the call takes both
unfoldable pub takes_both : List ℕ → ℕ → Player → Bool
takes_both x n k = eqb (seen_both x n k).outcome.number 0

-- what it hands back, and leaves of tables, bytes and text: both are taken if they stand there and the call takes them, and then it is made as
-- the quote and the look behind it; else all is as it was
pub record BothTried (found : Bool) (x : List ℕ) (n : ℕ) (k : Player) (before : List ℕ) (r : BothTurn) (t' : Tables) (bytes' after : List ℕ) : Type 0 where
  pub taken : r.taken ≡ (found && takes_both x n k)
  pub turn : r.taken ≡ true → Makes true (made_two x n k) before r.made t' bytes' after
  pub left : r.taken ≡ false → (t' ≡ k.world.lent.tables) × (bytes' ≡ k.outputs.bytes) × (after ≡ before)
