-- Fields that are so many numbers, and those that are not.
use Rattle.std.proofs.Common.{◌≡◌, ℕ, Bool, true, false, List, ◌&&◌, not, cond, refl, sym}
use Rattle.std.specs.Prelude.{Option, Some, None, eqb}
use Rattle.line_fields.specs.declared.Fields.{Fields}
use Rattle.line_fields.specs.Fields.{numbers_if}

-- these are the numbers of fields that are so many
pub counted : (f : Fields) (count : ℕ) {numbers : List ℕ} → Some numbers ≡ numbers_if f count → ((f.valid && not f.empty) && eqb f.count count ≡ true) × (numbers ≡ f.numbers)
counted f count e = go ((f.valid && not f.empty) && eqb f.count count) e
  where
    go : (b : Bool) {numbers : List ℕ} → Some numbers ≡ cond b (Some f.numbers) None → (b ≡ true) × (numbers ≡ f.numbers)
    go true e = (refl, cc)
    go false e = absurd (cc)

-- none are given of other fields
pub uncounted : (f : Fields) (count : ℕ) → None ≡ numbers_if f count → (f.valid && not f.empty) && eqb f.count count ≡ false
uncounted f count e = go ((f.valid && not f.empty) && eqb f.count count) e
  where
    go : (b : Bool) → None ≡ cond b (Some f.numbers) None → b ≡ false
    go true e = absurd (cc)
    go false e = refl
