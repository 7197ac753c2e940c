-- Eight records as numbers, stored in sixteen cells, are what the cells hold; and a step at what cells hold.
use mathlib.Core.Path.{◌≡◌, refl, sym, subst, ◌∙◌, ap}
use Prim.Native.Nat.{ℕ, ◌/◌, ◌%◌}
use native.Mathlib.Omega.{arith}
use mathlib.Core.Bool.{Bool, true, false}
use mir.Val.{bool_byte}
use mathlib.Core.List.{List, [], ◌∷◌, map}
use Rattle.host_plays.specs.Plays.{flag_of}
use lib.ListN.{length, get_or}
use lib.Seq.{take_all}
use Rattle.lists.specs.Lists.{run}
use Rattle.lists.proofs.Places.{map_places}
use Rattle.head.specs.declared.Head.{Head}
use Rattle.head.specs.Desks.{desk_in, size_in, record_of}
use Rattle.watch_numbers.proofs.RecordNumbers.{made_up}
use Rattle.model.specs.Rows.{Tables}
use Rattle.line_answers.specs.Turns.{player}
use Rattle.line_answers.specs.declared.Step.{Step}
use Rattle.tape.specs.Steps.{Stepped}
use Rattle.host_cells.specs.Cells.{record_at, eight_records}

-- a number made up of its desk and its size
pub parts : (w : ℕ) → record_of (desk_in w) (size_in w) ≡ w
unfolding desk_in size_in
parts w = made_up w

-- the cells of a number
abbrev pub cells_of : ℕ → List ℕ → List ℕ
cells_of w rest = size_in w ∷ desk_in w ∷ rest

pub stored_numbers : (l : List ℕ) → length l ≡ 8
    → eight_records (cells_of (get_or l 0 0) (cells_of (get_or l 1 0) (cells_of (get_or l 2 0) (cells_of (get_or l 3 0)
    (cells_of (get_or l 4 0) (cells_of (get_or l 5 0) (cells_of (get_or l 6 0) (cells_of (get_or l 7 0) [])))))))) ≡ l
unfolding eight_records run
stored_numbers l e =
    rw (parts (get_or l 0 0), parts (get_or l 1 0), parts (get_or l 2 0), parts (get_or l 3 0), parts (get_or l 4 0), parts (get_or l 5 0), parts (get_or l 6 0), parts (get_or l 7 0))
    (map_places 0 8 l (omega arith) ∙ take_all 8 l (omega arith))

-- eight numbers, each made of two cells
pub numbers_are : (cells : List ℕ) {a b c d e f g h : ℕ}
    → a ≡ record_at cells 0
    → b ≡ record_at cells 1
    → c ≡ record_at cells 2
    → d ≡ record_at cells 3
    → e ≡ record_at cells 4
    → f ≡ record_at cells 5
    → g ≡ record_at cells 6
    → h ≡ record_at cells 7
    → a ∷ b ∷ c ∷ d ∷ e ∷ f ∷ g ∷ h ∷ [] ≡ eight_records cells
unfolding eight_records run
numbers_are cells p0 p1 p2 p3 p4 p5 p6 p7 = rw (p0, p1, p2, p3, p4, p5, p6, p7)

-- sixteen cells, two made of each number
pub stored_are : (l : List ℕ) → length l ≡ 8 → {s0 d0 s1 d1 s2 d2 s3 d3 s4 d4 s5 d5 s6 d6 s7 d7 : ℕ}
    → s0 ≡ size_in (get_or l 0 0) → d0 ≡ desk_in (get_or l 0 0)
    → s1 ≡ size_in (get_or l 1 0) → d1 ≡ desk_in (get_or l 1 0)
    → s2 ≡ size_in (get_or l 2 0) → d2 ≡ desk_in (get_or l 2 0)
    → s3 ≡ size_in (get_or l 3 0) → d3 ≡ desk_in (get_or l 3 0)
    → s4 ≡ size_in (get_or l 4 0) → d4 ≡ desk_in (get_or l 4 0)
    → s5 ≡ size_in (get_or l 5 0) → d5 ≡ desk_in (get_or l 5 0)
    → s6 ≡ size_in (get_or l 6 0) → d6 ≡ desk_in (get_or l 6 0)
    → s7 ≡ size_in (get_or l 7 0) → d7 ≡ desk_in (get_or l 7 0)
    → eight_records (s0 ∷ d0 ∷ s1 ∷ d1 ∷ s2 ∷ d2 ∷ s3 ∷ d3 ∷ s4 ∷ d4 ∷ s5 ∷ d5 ∷ s6 ∷ d6 ∷ s7 ∷ d7 ∷ []) ≡ l
stored_are l e p0 q0 p1 q1 p2 q2 p3 q3 p4 q4 p5 q5 p6 q6 p7 q7 = rw (p0, q0, p1, q1, p2, q2, p3, q3, p4, q4, p5, q5, p6, q6, p7, q7) (stored_numbers l e)

-- what a turn says
pub turned_is : {next count k flag : ℕ} → k ≡ flag → next ∷ count ∷ k ∷ [] ≡ next ∷ count ∷ flag ∷ []
turned_is e = rw e

pub step_at : (tape : List ℕ) (place : ℕ) (t : Tables) (bytes : List ℕ) {h at : Head} {t' : Tables} {numbers ws text bytes' text' : List ℕ} {r : Step} → h ≡ at → numbers ≡ ws
    → Stepped tape place (player h t numbers bytes) text r t' bytes' text' → Stepped tape place (player at t ws bytes) text r t' bytes' text'
step_at tape place t bytes {h} {at} {t'} {numbers} {ws} {text} {bytes'} {text'} {r} e f p =
    subst (λ (g : Head). Stepped tape place (player g t ws bytes) text r t' bytes' text') e
    (subst (λ (l : List ℕ). Stepped tape place (player h t l bytes) text r t' bytes' text') f p)

-- what a test counts for is its flag
pub flag_counts : (b : Bool) → bool_byte b ≡ flag_of b
unfolding flag_of
flag_counts true = refl
flag_counts false = refl
