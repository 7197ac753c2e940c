-- A book that is not torn, whether calls left it or not, and further quotes on it.
use Rattle.std.specs.Prelude.{◌≡◌, ℕ, ◌+◌, ◌-◌, ◌≤◌, Bool, true, false, ◌&&◌, List, [], ◌∷◌, leb, eqb, length}
use Rattle.head.specs.Heads.{settings_hold, torn_pair}
use Rattle.model.specs.Changes.{change_room}
use Rattle.model.specs.Book.{short_loan, torn_rows, torn_watches, book_rows, past_cells}
use Rattle.model.specs.Calls.{Quote, Outputs, Lending, World}

-- a book of which none of 3, 11 and 12 is said
pub record Untorn (w : World) : Type 0 where
  pub settings : settings_hold w.head.dimensions w.head.capacity w.head.directions ≡ true
  pub long : short_loan w.lent.tables w.lent.watches w.head.dimensions w.head.capacity ≡ false
  pub rows : torn_rows w.head (book_rows w.head w.lent.tables) ≡ false
  pub pair : torn_pair w.head ≡ false
  pub watches : torn_watches w.head.capacity w.lent.watches ≡ false

-- position p of a book is the past list with n1 and n2 at its own place, counted back from the newest: an n from 1 to N
pub record AloneInBook (w : World) (p : ℕ) : Type 0 where
  pub some : 1 ≤ w.head.newest + 1 - p
  pub most : w.head.newest + 1 - p ≤ w.head.capacity
  pub alone : past_cells w.head (w.head.newest + 1 - p) (w.head.newest + 1 - p) w.lent.tables ≡ p ∷ []

-- calls of quotes, each by its columns and what its outputs hold
abbrev pub quotes_of : List (List ℕ × Outputs) → List Lending
quotes_of [] = []
quotes_of (q ∷ qs) = record { call = Quote q.0; outputs = q.1 } ∷ quotes_of qs

-- every quote has d columns, and an output that always suffices
unfoldable pub all_fit : ℕ → List (List ℕ × Outputs) → Bool
all_fit d [] = true
all_fit d (q ∷ qs) = eqb (length q.0) d && leb change_room (length q.1.bytes) && all_fit d qs
