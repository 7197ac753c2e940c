-- Watches with room for one more.
use Rattle.std.specs.Prelude.{◌≡◌, false, ℕ, ◌<◌, List, length}
use Rattle.model.specs.Book.{standing, torn_watches}

-- watches that are not torn, of which one is empty
pub record Vacant (ws : List ℕ) : Type 0 where
  pub capacity : ℕ
  pub untorn : torn_watches capacity ws ≡ false
  pub free : length (standing ws) < 8
