-- A venue's tape as a whole list of stamped quotes, and the stable merge of two such lists.
use Rattle.std.specs.Prelude.{◌≡◌, ℕ, ◌≤◌, ◌<◌, cond, List, [], ◌∷◌, ◌++◌, map, ltb, length, get_or}
use Rattle.lists.specs.Lists.{flat}
use Rattle.frame_kinds.specs.Kinds.{stamp_kind}
use Rattle.frames.specs.declared.Message.TheVariants.{Quote, Position}
use Rattle.frames.specs.Frames.{frame}
use Rattle.venue_tapes.specs.VenueTapes.{last_millisecond}

-- a stamped quote (02: a pair): its milliseconds of the day, and its columns
pub record StampedQuote : Type 0 where
  pub stamp : ℕ
  pub columns : List ℕ

-- the frame of its quote
unfoldable pub quote_frame : StampedQuote → List ℕ
quote_frame q = frame (Quote (length q.columns)) q.columns

-- both its frames: the stamp, and the quote directly behind it
unfoldable pub frames_of : StampedQuote → List ℕ
frames_of q = frame (Position stamp_kind q.stamp) [] ++ quote_frame q

-- the quote has one to six columns of 32 bits
pub record Fits (q : StampedQuote) : Type 0 where
  pub some : 1 ≤ length q.columns
  pub bounded : length q.columns ≤ 6
  pub cells : (i : ℕ) → i < length q.columns → get_or q.columns i 0 < 4294967296

-- stamped quotes in order: no stamp is below the one before it, the first not below this last stamp, and none is above the last
-- millisecond of a day
pub data InOrder : ℕ → List StampedQuote → Type 0 where
  none : {last : ℕ} → InOrder last []
  next : {last : ℕ} {q : StampedQuote} {qs : List StampedQuote} → Fits q → last ≤ q.stamp → q.stamp ≤ last_millisecond → InOrder q.stamp qs
      → InOrder last (q ∷ qs)

-- the bytes are the frames of these stamped quotes and nothing else, and they are in order from this last stamp on: a sound venue's tape
pub record Whole (bytes : List ℕ) (last : ℕ) (qs : List StampedQuote) : Type 0 where
  pub frames : bytes ≡ flat (map frames_of qs)
  pub ordered : InOrder last qs

-- x among the others, behind those whose stamp is below its own; the rest is merged with what is left of them
unfoldable pub merge_at : StampedQuote → (List StampedQuote → List StampedQuote) → List StampedQuote → List StampedQuote
merge_at x rest [] = x ∷ rest []
merge_at x rest (y ∷ ys) = cond (ltb y.stamp x.stamp) (y ∷ merge_at x rest ys) (x ∷ rest (y ∷ ys))

-- the stable merge: the lower stamp first, the first list's on equal stamps
unfoldable pub merge : List StampedQuote → List StampedQuote → List StampedQuote
merge [] ys = ys
merge (x ∷ xs) ys = merge_at x (merge xs) ys

-- the last list has every element of both others once, each list's in its own order
pub data Interleaved : List StampedQuote → List StampedQuote → List StampedQuote → Type 0 where
  none : Interleaved [] [] []
  first : {x : StampedQuote} {xs ys zs : List StampedQuote} → Interleaved xs ys zs → Interleaved (x ∷ xs) ys (x ∷ zs)
  second : {y : StampedQuote} {xs ys zs : List StampedQuote} → Interleaved xs ys zs → Interleaved xs (y ∷ ys) (y ∷ zs)

-- no stamp is below the one before it, nor below this one
pub data NotFalling : ℕ → List StampedQuote → Type 0 where
  none : {low : ℕ} → NotFalling low []
  next : {low : ℕ} {q : StampedQuote} {qs : List StampedQuote} → low ≤ q.stamp → NotFalling q.stamp qs → NotFalling low (q ∷ qs)
