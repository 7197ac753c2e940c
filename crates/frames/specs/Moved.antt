-- What reading by a lent place gives: what is read there, and the place past its frame.
use Rattle.std.specs.Prelude.{◌≡◌, ℕ, List}
use Rattle.frames.specs.declared.Place.{Place}
use Rattle.frames.specs.declared.Read.{Read}
use Rattle.frames.specs.Frames.{reading, read_at}

-- what the reader promises of its result and of where it leaves the place
pub record Moved (tape : List ℕ) (before : Place) (r : Read) (after : Place) : Type 0 where
  pub found : reading r ≡ read_at tape before.at
  pub moved : after ≡ record { at = (read_at tape before.at).next }
