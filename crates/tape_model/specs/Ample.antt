-- Where a tape comes to, and how long everything lent has to be so that no call of any tape is refused for its length.
use Rattle.std.specs.Prelude.{◌≡◌, ℕ, ◌≤◌, Bool, false, List}
use Rattle.refusals.specs.declared.Refusal.TheVariants.{ShortLoan, ShortOutput}
use Rattle.refusals.specs.Refusals.{number}
use Rattle.head.specs.Heads.{max_capacity}
use Rattle.model.specs.Reference.{Lengths, ample}
use Rattle.model.specs.Calls.{Call}
use Rattle.tape_model.specs.Print.{Answered}
use Rattle.tape_model.specs.Play.{play_at}

-- the places that a tape comes to, and who then makes the calls: its start, and the place behind each frame that does not end it
pub data Reaches {S : Type 0} (begun : S → Bool) (make : Call → S → Answered × S) (tape : List ℕ) (s₀ : S) : ℕ → S → Type 0 where
  start : Reaches begun make tape s₀ 0 s₀
  onward : {place : ℕ} {s : S} → Reaches begun make tape s₀ place s → (play_at begun make tape place s).over ≡ false
      → Reaches begun make tape s₀ (play_at begun make tape place s).next (play_at begun make tape place s).state

-- lengths of at least 1,024 rows of six columns, eight watch records, 62,520 bytes for changes and 1,024 cells for positions: a tape does
-- not ask for what is due, which takes twice as many
pub record Ample (lengths : Lengths) : Type 0 where
  pub columns : ample.columns ≤ lengths.columns
  pub positions : ample.positions ≤ lengths.positions
  pub lower_ends : ample.lower_ends ≤ lengths.lower_ends
  pub upper_ends : ample.upper_ends ≤ lengths.upper_ends
  pub watches : ample.watches ≤ lengths.watches
  pub bytes : ample.bytes ≤ lengths.bytes
  pub cells : max_capacity ≤ lengths.cells

-- the answer is neither 11 nor 13
abbrev pub Unshort : ℕ → Type 0
Unshort answer = (answer ≡ number ShortLoan → ⊥) × (answer ≡ number ShortOutput → ⊥)
