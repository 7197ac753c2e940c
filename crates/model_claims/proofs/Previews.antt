-- A preview of a quote: it leaves everything but the output, and shows what the quote would.
use mathlib.Core.Path.{◌≡◌, refl}
use Prim.Native.Nat.{ℕ}
use mathlib.Core.List.{List, []}
use Rattle.model_claims.specs.Claims.{AsQuoted}
use Rattle.model.specs.Reference.{Reference, Lengths, head_of, foretells, reference_step}
use Rattle.model.specs.Book.{reply_of, quote_reply, preview_reply, preview_counts, preview_out}
use Rattle.model.specs.Calls.{Quote, Preview, Outputs, World, book_seen, head_after, world_after, book_step, Expected, expected_step}

-- ---- what a preview leaves

-- by the book model: the book with its head, tables and records, what is seen of them, and the cells for positions
pub record BookLeft (x : List ℕ) (o : Outputs) (w : World) : Type 0 where
  pub book : (book_step (Preview x) o w).1 ≡ w
  pub head : (book_step (Preview x) o w).0.outcome.head ≡ w.head
  pub lent : (book_step (Preview x) o w).0.lent ≡ w.lent
  pub cells : (book_step (Preview x) o w).0.outputs.cells ≡ o.cells

-- by the reference model: all that it holds, and its head; no cell is written
pub record ReferenceLeft (x : List ℕ) (l : Lengths) (s : Reference) : Type 0 where
  pub next : (reference_step (Preview x) l s).next ≡ s
  pub head : (reference_step (Preview x) l s).head ≡ head_of s
  pub cells : (reference_step (Preview x) l s).cells ≡ []

-- a preview leaves everything but the output
pub preview_leaves : (x : List ℕ) (o : Outputs) (w : World) → BookLeft x o w
unfolding book_seen head_after world_after book_step preview_reply
preview_leaves x o w = record { book = refl; head = refl; lent = refl; cells = refl }

-- and the reference model as it is
pub preview_leaves_reference : (x : List ℕ) (l : Lengths) (s : Reference) → ReferenceLeft x l s
unfolding reference_step foretells
preview_leaves_reference x l s = record { next = refl; head = refl; cells = refl }

-- ---- what a preview shows

-- a preview shows what the quote would, by the book model
pub preview_is_quote : (x : List ℕ) (o : Outputs) (w : World) → AsQuoted (book_step (Quote x) o w).0 (book_step (Preview x) o w).0
unfolding book_seen book_step preview_reply preview_counts preview_out quote_reply reply_of
preview_is_quote x o w = record { number = refl; count = refl; bytes = refl; counts = refl }

-- and by the reference model
pub preview_is_quote_reference : (x : List ℕ) (o : Outputs) (k : Expected) → AsQuoted (expected_step (Quote x) o k).0 (expected_step (Preview x) o k).0
unfolding expected_step reference_step foretells
preview_is_quote_reference x o k = record { number = refl; count = refl; bytes = refl; counts = refl }
