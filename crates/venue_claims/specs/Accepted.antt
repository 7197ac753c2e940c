-- Which of the quotes that a book is fed are accepted, in their order.
use Rattle.std.specs.Prelude.{ℕ, List, [], ◌∷◌, map, eqb}
use Rattle.lists.specs.Lists.{keep}
use Rattle.model.specs.Reference.{Reference, ample, reference_step}
use Rattle.model.specs.Calls.{Quote}
use Rattle.venue_claims.specs.Merging.{StampedQuote}

-- the columns of stamped quotes, as the book is fed them
unfoldable pub quotes_of : List StampedQuote → List (List ℕ)
quotes_of qs = map StampedQuote.columns qs

-- the quotes that the reference model accepts, of those that it is fed
unfoldable pub accepted_of : List (List ℕ) → Reference → List (List ℕ)
accepted_of [] s = []
accepted_of (x ∷ xs) s = let told = reference_step (Quote x) ample s in keep (eqb told.number 0) x (accepted_of xs told.next)
