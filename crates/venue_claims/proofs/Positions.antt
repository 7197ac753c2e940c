-- Joined quotes get positions and stamps get none: the k-th joined quote that is accepted is position k.
use mathlib.Core.Path.{◌≡◌, refl, sym, ap, ◌∙◌}
use Prim.Native.Nat.{ℕ, zero, suc, ◌+◌, ◌-◌, ◌≤◌, ◌<◌}
use native.Mathlib.Omega.{arith}
use mathlib.Core.Bool.{true, false}
use mathlib.Core.List.{List, [], ◌∷◌, ◌++◌, map, append_assoc, append-nil}
use lib.Dec.{eqb}
use lib.ListN.{length, get_or, take, replicate, length-map}
use lib.Seq.{take_at, take_all}
use borrow.Author.Tests.{ne_eqb}
use Rattle.lists.specs.Lists.{keep}
use Rattle.refusals.specs.Refusals.{first_of, granted}
use Rattle.head.specs.Heads.{last_position}
use Rattle.dominance.specs.Renewal.{quote_at}
use Rattle.frame_kinds.specs.Kinds.{stamp_kind}
use Rattle.frames.specs.declared.Message.TheVariants as Message
use Rattle.frames.specs.Frames.{Reading, read_at}
use Rattle.frames.proofs.RoundTrips.{read_after_write}
use Rattle.model.specs.Reference.{Reference, newest, is_open, with_quote, with_quotes, ample, tells, reference_step}
use Rattle.model.specs.Calls.{Quote}
use Rattle.model_audit.specs.Audit.{plays}
use Rattle.model_audit.proofs.Plays.{WideAll, plays_on}
use Rattle.tape_asking.specs.Asking.{misplaced, request, asks, in_place, placed, asked}
use Rattle.venue_claims.specs.Merging.{StampedQuote, quote_frame, Fits}
use Rattle.venue_claims.proofs.StampedQuotes.{quote_writable}
use Rattle.venue_claims.specs.Accepted.{quotes_of, accepted_of}

-- ---- what the frames of a pair ask for

-- a stamp has no place on a tape that is played: it asks for no call, so it gets no position
pub stamp_misplaced : (ms : ℕ) (columns : List ℕ) → asks (Message.Position stamp_kind ms) columns ≡ misplaced
unfolding asks
stamp_misplaced ms columns = refl

-- the frame of its quote asks for the call with its columns, wherever it stands on a tape behind an accepted opening
pub quote_asked : (before after : List ℕ) (q : StampedQuote) → Fits q
    → asked true (read_at (before ++ (quote_frame q ++ after)) (length before)).says (read_at (before ++ (quote_frame q ++ after)) (length before)).columns
    ≡ request (Quote q.columns)
unfolding quote_frame asked asks placed in_place
quote_asked before after q f =
    let k = length q.columns in
    let front : take k q.columns ≡ q.columns = take_all k q.columns (omega arith) in
    ap (λ (r : Reading). asked true r.says r.columns) (read_after_write before after (Message.Quote k) q.columns (quote_writable q f))
    ∙ ap (λ (l : List ℕ). request (Quote l)) (take_at (take k q.columns) (replicate (6 - k) 0) k (ap length front) ∙ front)

-- ---- the positions

module _ (s : Reference) (x : List ℕ) where
  -- an accepted quote goes behind the others, a refused one leaves them
  quotes_next : (reference_step (Quote x) ample s).next.quotes ≡ s.quotes ++ keep (eqb (reference_step (Quote x) ample s).number 0) x []
  unfolding reference_step tells with_quote granted
  quotes_next = go (first_of _)
    where
      go : (n : ℕ) → (granted n (with_quote s x) s).quotes ≡ s.quotes ++ keep (eqb n 0) x []
      go zero = refl
      go (suc n) = rw (ne_eqb (suc n) 0 (λ e. omega arith)) (sym (append-nil s.quotes))

-- the quotes that are held are those that were, and those that are accepted behind them
pub accepted_behind : (xs : List (List ℕ)) (s : Reference) → (plays xs s).quotes ≡ s.quotes ++ accepted_of xs s
unfolding plays accepted_of
accepted_behind [] s = sym (append-nil s.quotes)
accepted_behind (x ∷ xs) s =
    accepted_behind xs (reference_step (Quote x) ample s).next
    ∙ ap (λ (l : List (List ℕ)). l ++ accepted_of xs (reference_step (Quote x) ample s).next) (quotes_next s x)
    ∙ append_assoc s.quotes (keep (eqb (reference_step (Quote x) ample s).number 0) x []) (accepted_of xs (reference_step (Quote x) ample s).next)
    ∙ ap (λ (l : List (List ℕ)). s.quotes ++ l) (kept (eqb (reference_step (Quote x) ample s).number 0))
  where
    kept : (b : _) → keep b x [] ++ accepted_of xs (reference_step (Quote x) ample s).next ≡ keep b x (accepted_of xs (reference_step (Quote x) ample s).next)
    kept true = refl
    kept false = refl

-- the quote at a position, counted from 1
at_position : (quotes : List (List ℕ)) (k : ℕ) → quote_at quotes (k + 1) ≡ get_or quotes k []
unfolding quote_at
at_position quotes k = let e : k + 1 - 1 ≡ k = omega arith in ap (λ (n : ℕ). get_or quotes n []) e

-- on a book with no quotes yet, the k-th joined quote that is accepted, counted from 1, is position k
pub joined_accepted : (qs : List StampedQuote) (s : Reference) → s.quotes ≡ [] → (k : ℕ)
    → quote_at (plays (quotes_of qs) s).quotes (k + 1) ≡ get_or (accepted_of (quotes_of qs) s) k []
joined_accepted qs s e k =
    ap (λ (l : List (List ℕ)). quote_at l (k + 1)) (accepted_behind (quotes_of qs) s ∙ ap (λ (l : List (List ℕ)). l ++ accepted_of (quotes_of qs) s) e)
    ∙ at_position (accepted_of (quotes_of qs) s) k

-- if the book is open, all have d columns and the tape has space for them, all are accepted: the k-th joined quote is position k
pub joined_positions : (qs : List StampedQuote) (s : Reference) → is_open s ≡ true → s.quotes ≡ [] → WideAll s.dimensions (quotes_of qs)
    → length qs ≤ last_position → (k : ℕ)
    → quote_at (plays (quotes_of qs) s).quotes (k + 1) ≡ get_or (quotes_of qs) k []
unfolding quotes_of
joined_positions qs s hold e wide room k =
    let none : newest s ≡ 0 = ap length e in
    let fits : newest s + length (quotes_of qs) ≤ last_position = omega (arith, length-map qs StampedQuote.columns) in
    ap (λ (r : Reference). quote_at r.quotes (k + 1)) (plays_on s hold (quotes_of qs) wide fits)
    ∙ ap (λ (l : List (List ℕ)). quote_at (l ++ quotes_of qs) (k + 1)) e
    ∙ at_position (quotes_of qs) k
