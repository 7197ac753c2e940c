-- The kinds of frames: each named once, with the shape of its body, and the body length that the shape gives.
use Rattle.std.specs.Prelude.{ℕ, ◌*◌, Bool, ◌&&◌, cond, List, [], ◌∷◌, leb, eqb}
use Rattle.frame_kinds.specs.declared.Shape.{Shape}
use Rattle.frame_kinds.specs.declared.Shape.TheVariants.{Columns, Size, SizePosition, SizePair, Bare, Position, Settings, Unknown}

-- a number from a to b
abbrev pub within : ℕ → ℕ → ℕ → Bool
within a b k = leb a k && leb k b

-- a look: the list of n
abbrev pub look_kind : ℕ
look_kind = 16

-- desk one's watch of n is set
abbrev pub watch_kind : ℕ
watch_kind = 17

-- desk one's watch of n is ended
abbrev pub unwatch_kind : ℕ
unwatch_kind = 18

-- desk two's watch of n is set
abbrev pub watch_two_kind : ℕ
watch_two_kind = 19

-- desk two's watch of n is ended
abbrev pub unwatch_two_kind : ℕ
unwatch_two_kind = 20

-- the pair of n1 and n2 is set
abbrev pub pair_kind : ℕ
pair_kind = 21

-- the pair is ended
abbrev pub unpair_kind : ℕ
unpair_kind = 22

-- a look at the past list of n1 and n2
abbrev pub past_kind : ℕ
past_kind = 23

-- a position leaves the list of n that desk one watches
abbrev pub leave_kind : ℕ
leave_kind = 32

-- a position joins the list of n that desk one watches
abbrev pub join_kind : ℕ
join_kind = 33

-- a position leaves the list of n that desk two watches
abbrev pub leave_two_kind : ℕ
leave_two_kind = 34

-- a position joins the list of n that desk two watches
abbrev pub join_two_kind : ℕ
join_two_kind = 35

-- a position leaves the past list of the pair
abbrev pub pair_leave_kind : ℕ
pair_leave_kind = 36

-- a position joins the past list of the pair
abbrev pub pair_join_kind : ℕ
pair_join_kind = 37

-- a stamp of a venue's tape: milliseconds of the day
abbrev pub stamp_kind : ℕ
stamp_kind = 40

-- a book is opened
abbrev pub open_kind : ℕ
open_kind = 48

-- the kinds above the quotes', each with its shape
unfoldable pub kinds : List (ℕ × Shape)
kinds =
    (look_kind, Size)
    ∷ (watch_kind, Size)
    ∷ (unwatch_kind, Size)
    ∷ (watch_two_kind, Size)
    ∷ (unwatch_two_kind, Size)
    ∷ (pair_kind, SizePair)
    ∷ (unpair_kind, Bare)
    ∷ (past_kind, SizePair)
    ∷ (leave_kind, SizePosition)
    ∷ (join_kind, SizePosition)
    ∷ (leave_two_kind, SizePosition)
    ∷ (join_two_kind, SizePosition)
    ∷ (pair_leave_kind, Position)
    ∷ (pair_join_kind, Position)
    ∷ (stamp_kind, Position)
    ∷ (open_kind, Settings)
    ∷ []

-- the shape that a table of kinds gives a kind; unknown where it has none
unfoldable pub shape_in : List (ℕ × Shape) → ℕ → Shape
shape_in [] kind = Unknown
shape_in (k ∷ ks) kind = cond (eqb kind k.0) k.1 (shape_in ks kind)

-- the shape of a kind: 1 to 6 are quotes of that many columns
unfoldable pub shape_of : ℕ → Shape
shape_of kind = cond (within 1 6 kind) Columns (shape_in kinds kind)

-- a number for each shape, by which two are compared
abbrev pub code_of : Shape → ℕ
code_of Columns = 0
code_of Size = 1
code_of SizePosition = 2
code_of SizePair = 3
code_of Bare = 4
code_of Position = 5
code_of Settings = 6
code_of Unknown = 7

-- a kind has this shape
unfoldable pub has_shape : Shape → ℕ → Bool
has_shape shape kind = eqb (code_of (shape_of kind)) (code_of shape)

-- how many bytes a body of this shape has; 255 for an unknown kind
unfoldable pub length_of : Shape → ℕ → ℕ
length_of Columns kind = 4 * kind
length_of Size kind = 2
length_of SizePosition kind = 6
length_of SizePair kind = 4
length_of Bare kind = 0
length_of Position kind = 4
length_of Settings kind = 4
length_of Unknown kind = 255

-- how many bytes the body of a frame of this kind has; 255 for an unknown kind
unfoldable pub body_length : ℕ → ℕ
body_length kind = length_of (shape_of kind) kind
