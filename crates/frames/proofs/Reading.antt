-- Laws of reading: what is read at a place as what is read at the front of the rest, the columns of a quote, what a place of a
-- tape holds, and the messages from a place on.
use mathlib.Core.Path.{◌≡◌, refl, ap, ap₂, ◌∙◌}
use Prim.Native.Nat.{ℕ, zero, suc, ◌+◌, ◌-◌, ◌*◌, ◌≤◌, ◌<◌}
use native.Mathlib.Nat.{add-zero, zero-add, add_assoc}
use native.Mathlib.Omega.{arith}
use mathlib.Core.Bool.{Bool, true, false, ◌&&◌, cond}
use mathlib.Core.List.{List, [], ◌∷◌, ◌++◌, map}
use lib.Dec.{ltb, eqb}
use lib.ListN.{length, get_or, drop, replicate}
use lib.Seq.{get_or-drop}
use borrow.Author.Tests.{le-leb, ltb-true, ltb-false, lt-ltb, le-ltb, eqb-true, eqb-false}
use Rattle.lists.specs.Lists.{run}
use Rattle.lists.proofs.Booleans.{and_false}
use Rattle.lists.proofs.Filters.{map-append}
use Rattle.lists.proofs.Runs.{run_append}
use Rattle.lists.proofs.Cells.{map_run, map_one}
use Rattle.octets.specs.Bytes.{number2, number4}
use Rattle.frame_kinds.specs.declared.Shape.{Shape}
use Rattle.frame_kinds.specs.declared.Shape.TheVariants.{Columns, Size, SizePosition, SizePair, Bare, Position, Settings, Unknown}
use Rattle.frames.specs.declared.Read.{Read}
use Rattle.frame_kinds.specs.Kinds.{within, shape_of, body_length}
use Rattle.frames.specs.Frames.{message_by, message_at, columns_at, told, ended, refused, saying, Reading, reading, stays, read_at, told_first, messages_from}
use Rattle.frame_kinds.proofs.Shapes.{Known, kind_known}

-- ---- the parts of what was read

module _ (r : Read) {found : Reading} (e : reading r ≡ found) where
  -- what it says
  pub read_says : saying r.message ≡ found.says
  unfolding reading
  read_says = ap (λ (g : Reading). g.says) e

  -- its columns
  pub read_columns : r.columns ≡ found.columns
  unfolding reading
  read_columns = ap (λ (g : Reading). g.columns) e

  -- the place behind it
  pub read_next : r.next ≡ found.next
  unfolding reading
  read_next = ap (λ (g : Reading). g.next) e

-- ---- what is read at a place is what is read at the front of the rest

-- the message
pub message_drop : (tape : List ℕ) (at kind : ℕ) → message_at tape at kind ≡ message_at (drop at tape) 0 kind
unfolding message_at message_by number2 number4
message_drop tape at kind = go (shape_of kind)
  where
    go : (shape : Shape) → message_by shape tape at kind ≡ message_by shape (drop at tape) 0 kind
    go Columns = refl
    go Size = simp (get_or-drop, add-zero, add_assoc)
    go SizePosition = simp (get_or-drop, add-zero, add_assoc)
    go SizePair = simp (get_or-drop, add-zero, add_assoc)
    go Bare = refl
    go Position = simp (get_or-drop, add-zero, add_assoc)
    go Settings = simp (get_or-drop, add-zero, add_assoc)
    go Unknown = refl

-- the columns
pub columns_drop : (tape : List ℕ) (at kind : ℕ) → columns_at tape at kind ≡ columns_at (drop at tape) 0 kind
unfolding columns_at number4
columns_drop tape at kind = simp (get_or-drop, zero-add, add_assoc)

-- ---- the columns of a quote

-- the columns read at the front of the rest: those of the quote, then zeros
pub quote_columns : (l : List ℕ) (k : ℕ) → 1 ≤ k → k ≤ 6 → columns_at l 0 k ≡ map (λ i. number4 l (4 * i)) (run 0 k) ++ replicate (6 - k) 0
unfolding columns_at
quote_columns l k u v =
    ap (λ (n : ℕ). map cell (run 0 n)) e
    ∙ ap (map cell) (run_append 0 k (6 - k))
    ∙ map-append cell (run 0 k) (run (0 + k) (6 - k))
    ∙ ap₂ {C = List ℕ} (λ (x y : List ℕ). x ++ y) (map_run cell (λ i. number4 l (4 * i)) 0 k (λ i p q. here i (omega arith)))
    (map_run cell (λ i. 0) (0 + k) (6 - k) (λ i p q. there i (omega arith)) ∙ map_one 0 (0 + k) (6 - k))
  where
    cell : ℕ → ℕ
    cell i = cond (within 1 6 k && ltb i k) (number4 l (0 + 4 * i)) 0

    e : 6 ≡ k + (6 - k)
    e = omega arith

    here : (i : ℕ) → i < k → cell i ≡ number4 l (4 * i)
    here i h = simp (le-leb 1 k u, le-leb k 6 v, lt-ltb i k h, zero-add)

    there : (i : ℕ) → k ≤ i → cell i ≡ 0
    there i h = simp (le-ltb i k h, and_false)

-- ---- what a place holds

-- what can be read at a place: nothing beyond the end, the end, an unknown kind, a cut frame, or a whole frame
pub data Found (tape : List ℕ) (place : ℕ) : Reading → Type 0 where
  beyond : length tape < place → Found tape place (stays (refused 2) place)
  at_end_lem : place ≡ length tape → Found tape place (stays ended place)
  unknown : Found tape place (stays (refused 1) place)
  cut : Found tape place (stays (refused 2) place)
  whole : Known (get_or tape place 0) → place + 1 + body_length (get_or tape place 0) ≤ length tape
      → Found tape place
      (record {
        says = told (message_at tape (place + 1) (get_or tape place 0));
        columns = columns_at tape (place + 1) (get_or tape place 0);
        next = place + 1 + body_length (get_or tape place 0);
      })

-- what is read at a place is what it holds
pub found : (tape : List ℕ) (place : ℕ) → Found tape place (read_at tape place)
unfolding read_at
found tape place =
    go
    (ltb (length tape) place)
    (eqb place (length tape))
    (eqb (body_length kind) 255)
    (ltb (length tape) next)
    (ltb-true (length tape) place)
    (eqb-true place (length tape))
    (λ e. kind_known kind (eqb-false (body_length kind) 255 e))
    (ltb-false (length tape) next)
  where
    kind : ℕ
    kind = get_or tape place 0

    next : ℕ
    next = place + 1 + body_length kind

    go : (a b c d : Bool) → (a ≡ true → length tape < place) → (b ≡ true → place ≡ length tape) → (c ≡ false → Known kind) → (d ≡ false → next ≤ length tape)
        → Found tape place
        (cond a (stays (refused 2) place)
        (cond b (stays ended place)
        (cond c (stays (refused 1) place)
        (cond d (stays (refused 2) place)
        (record { says = told (message_at tape (place + 1) kind); columns = columns_at tape (place + 1) kind; next = next })))))
    go true b c d p q r s = beyond (p refl)
    go false true c d p q r s = at_end_lem (q refl)
    go false false true d p q r s = unknown
    go false false false true p q r s = cut
    go false false false false p q r s = whole (r refl) (s refl)

-- ---- the messages from a place on

-- a whole frame is read at a place
pub record Told (tape : List ℕ) (place : ℕ) : Type 0 where
  pub known : Known (get_or tape place 0)
  pub says : (read_at tape place).says ≡ told (message_at tape (place + 1) (get_or tape place 0))
  pub next : (read_at tape place).next ≡ place + 1 + body_length (get_or tape place 0)
  pub inside : (read_at tape place).next ≤ length tape

-- where the place is moved, a whole frame is read
pub told_at : (tape : List ℕ) (place : ℕ) → place < (read_at tape place).next → Told tape place
unfolding stays
told_at tape place h = go (read_at tape place) (found tape place) refl h
  where
    go : (read : Reading) → Found tape place read → read_at tape place ≡ read → place < read.next → Told tape place
    go _ (beyond t) e l = absurd (omega arith)
    go _ (at_end_lem t) e l = absurd (omega arith)
    go _ unknown e l = absurd (omega arith)
    go _ cut e l = absurd (omega arith)
    go _ (whole k t) e l = record { known = k; says = ap (λ (g : Reading). g.says) e; next = ap (λ (g : Reading). g.next) e; inside = rw e t }

-- its message is the first from there on
pub messages_on : (tape : List ℕ) (place most : ℕ) → Told tape place
    → messages_from (suc most) tape place ≡ message_at tape (place + 1) (get_or tape place 0) ∷ messages_from most tape (read_at tape place).next
unfolding messages_from told_first
messages_on tape place most t = rw t.says

-- where the place is not moved, there is no message
pub messages_none : (tape : List ℕ) (place most : ℕ) → (read_at tape place).next ≤ place → messages_from most tape place ≡ []
unfolding messages_from told_first stays
messages_none tape place zero h = refl
messages_none tape place (suc most) h = go (read_at tape place) (found tape place) h
  where
    go : (read : Reading) → Found tape place read → read.next ≤ place → told_first read.says (messages_from most tape read.next) ≡ []
    go _ (beyond t) l = refl
    go _ (at_end_lem t) l = refl
    go _ unknown l = refl
    go _ cut l = refl
    go _ (whole k t) l = absurd (omega arith)
