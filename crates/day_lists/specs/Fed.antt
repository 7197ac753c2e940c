-- A day fed to a book: the list of calls, and what the book's look then shows.
use Rattle.std.specs.Prelude.{◌≡◌, ℕ, ◌≤◌, max, true, false, List, ◌∷◌, map, length}
use Rattle.head.specs.Heads.{max_capacity}
use Rattle.model.specs.Changes.{change_room}
use Rattle.model.specs.Reference.{too_short}
use Rattle.model.specs.Calls.{Call, Open, Quote, Look, Outputs, Lending, Lent, Seen, lengths_of, book_seen, world_at_end}
use Rattle.day_skyline.specs.Sheet.{columns_hold, quotes_in}

-- a call that is lent these outputs
abbrev pub lending : Outputs → Call → Lending
lending o c = record { call = c; outputs = o }

-- an opening with these settings, then the quotes of the day, one after the other
unfoldable pub fed : ℕ → ℕ → ℕ → List (List ℕ) → Outputs → List Lending
fed d N directions quotes o = lending o (Open d N directions) ∷ map (λ x. lending o (Quote x)) quotes

-- what the look at the list of N shows on the book that this day leaves, by the book model
unfoldable pub look_after : ℕ → ℕ → ℕ → ℕ → List ℕ → Outputs → Lent → Outputs → Seen
look_after d N directions count columns o l out = book_seen (Look N) out (world_at_end (fed d N directions (quotes_in d count columns) o) l)

-- a day that a book of N can be fed with: the settings are in range, N is no less than the count, and what is lent is long enough
pub record Feeds (d N directions count : ℕ) (columns : List ℕ) (o : Outputs) (l : Lent) : Type 0 where
  pub columns_hold_lem : columns_hold d directions ≡ true
  pub within : max 1 count ≤ N
  pub bounded : N ≤ max_capacity
  pub table : too_short (lengths_of l o) d N ≡ false
  pub bytes : change_room ≤ length o.bytes
