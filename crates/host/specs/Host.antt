-- What the two functions for a C host answer: the check of a frame, and the comparison of two quote frames.
use Rattle.std.specs.Prelude.{ℕ, ◌+◌, ◌/◌, ◌^◌, ◌||◌, not, cond, List, ltb, eqb, length, get_or, take}
use Rattle.frame_kinds.specs.Kinds.{within, body_length}
use Rattle.frames.specs.Frames.{columns_at}
use Rattle.host_standing.specs.Standing.{standing, number, comparison}

-- the kind of the frame at the start of the bytes
abbrev pub kind_of : List ℕ → ℕ
kind_of bytes = get_or bytes 0 0

-- 0 if a whole frame stands at the start of the bytes, else 1 for an unknown kind or 2 for a cut frame; no byte is a cut frame
unfoldable pub check_of : List ℕ → ℕ
check_of bytes =
    cond (eqb (length bytes) 0) 2
    (cond (eqb (body_length (kind_of bytes)) 255) 1
    (cond (ltb (length bytes) (1 + body_length (kind_of bytes))) 2 0))

-- how many columns a frame of this kind has: a quote as many as its kind says, any other none
unfoldable pub column_count : ℕ → ℕ
column_count kind = cond (within 1 6 kind) kind 0

-- the columns of the frame at the start of the bytes
unfoldable pub columns_of : List ℕ → List ℕ
columns_of bytes = take (column_count (kind_of bytes)) (columns_at bytes 1 (kind_of bytes))

-- 2 if either frame is cut, else the comparison of their columns: 4, then 3, else 100 to 103
unfoldable pub compare_of : List ℕ → List ℕ → ℕ → ℕ
compare_of a b directions =
    cond (eqb (check_of a) 2 || eqb (check_of b) 2) 2 (comparison directions (columns_of a) (columns_of b))

-- the same by the frames' kinds, in 01's words: 2 if either frame is cut, 4 if the kinds differ or are not 1 to 6, 3 if a direction bit
-- is at the kind or above, else the number of how the quotes stand
unfoldable pub by_kinds : List ℕ → List ℕ → ℕ → ℕ
by_kinds a b directions =
    cond (eqb (check_of a) 2 || eqb (check_of b) 2) 2
    (cond (not (within 1 6 (kind_of a)) || not (eqb (kind_of a) (kind_of b))) 4
    (cond (not (eqb (directions / 2 ^ kind_of a) 0)) 3
    (number (standing (kind_of a) directions (columns_of a) (columns_of b)))))
