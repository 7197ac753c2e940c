-- Where the ends of a book that calls left need not be sought: which rows can name a position as their end, and on which lists.
use mathlib.Core.Path.{◌≡◌}
use mathlib.Core.Logic.{◌⊎◌}
use Prim.Native.Nat.{ℕ, ◌≤◌, ◌<◌}
use mathlib.Core.Bool.{true, false}
use Rattle.dominance.proofs.Renewal.{renewed_irreflexive, renewed_transitive}
use Rattle.skyline.specs.Skyline.{window_start}
use Rattle.skyline.proofs.Sought.{lower_before_upper, gained_from_live, upper_behind_lower}
use Rattle.model.specs.Reference.{Reference, newest, over, row_of}

module _ (s : Reference) where
  abbrev own_irr : (p : ℕ) → over s p p ≡ false
  own_irr = renewed_irreflexive s.dimensions s.directions s.quotes

  abbrev own_tra : (p q r : ℕ) → over s p q ≡ true → over s q r ≡ true → over s p r ≡ true
  own_tra = renewed_transitive s.dimensions s.directions s.quotes

  -- a row whose lower end is p lies before p's upper end, if p has one
  pub named_before_upper : (p q : ℕ) → 0 < p → (row_of s q).lower_end ≡ p → 0 < (row_of s p).upper_end → q < (row_of s p).upper_end
  unfolding row_of
  named_before_upper p q = lower_before_upper (over s) own_tra own_irr (window_start (newest s) s.capacity) (newest s) p q

  -- a row whose upper end is p lies behind p's lower end
  pub named_behind_lower : (p q : ℕ) → 1 ≤ q → 0 < p → (row_of s q).upper_end ≡ p → (row_of s p).lower_end < q
  unfolding row_of
  named_behind_lower p q = upper_behind_lower (over s) own_tra own_irr (window_start (newest s) s.capacity) (newest s) p q

  -- the lower end of a row that is on a list up to b is live on it: a list gains rows as p leaves its window only if p is live on it
  pub named_live_on : (b p q : ℕ) → 0 < p → (row_of s q).lower_end ≡ p → q ≤ b → ((row_of s q).upper_end ≡ 0) ⊎ (b < (row_of s q).upper_end)
      → ((row_of s p).upper_end ≡ 0) ⊎ (b < (row_of s p).upper_end)
  unfolding row_of
  named_live_on b p q = gained_from_live (over s) own_tra own_irr (window_start (newest s) s.capacity) (newest s) b p q
