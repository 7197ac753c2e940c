-- What stands at a place of bytes: where the frame there ends, and its line, if it is a change.
use mathlib.Core.Path.{◌≡◌, refl, sym, ap, ◌∙◌}
use mathlib.Core.Logic.{◌⊎◌, inl, inr}
use Prim.Native.Nat.{ℕ, ◌+◌, ◌-◌, ◌*◌, ◌≤◌, ◌<◌}
use native.Mathlib.Nat.{add_assoc}
use native.Mathlib.Omega.{arith}
use mathlib.Core.Bool.{Bool, true, false, ◌||◌, cond}
use mathlib.Core.List.{List, [], ◌∷◌}
use lib.Dec.{eqb}
use lib.ListN.{length, get_or}
use borrow.Author.Tests.{eq-eqb, ne_eqb}
use Rattle.lists.specs.Lists.{run, laid}
use Rattle.lists.proofs.Booleans.{or_right}
use Rattle.lists.proofs.Runs.{order}
use Rattle.octets.specs.Bytes.{number2, number4}
use Rattle.frame_kinds.specs.declared.Shape.{Shape}
use Rattle.frame_kinds.specs.declared.Shape.TheVariants.{Columns, Size, SizePosition, SizePair, Bare, Position, Settings, Unknown}
use Rattle.frames.specs.declared.Message.{Message}
use Rattle.frame_kinds.specs.Kinds.{leave_kind, join_kind, leave_two_kind, join_two_kind, pair_leave_kind, pair_join_kind, kinds, shape_in, shape_of, body_length}
use Rattle.frames.specs.Frames.{message_by, message_at, Reading, stays, read_at}
use Rattle.frame_kinds.proofs.Shapes.{in_row, change_body, position_body}
use Rattle.frames.proofs.ReadCases as cases
use Rattle.frames.proofs.ReadCases.{whole_next}
use Rattle.frames.proofs.Reading.{told_at}
use Rattle.text.specs.Text.{line, line2, Laid}
use Rattle.text.proofs.Lines.{line_short, line2_short}
use Rattle.line_changes.specs.Printed.{letter_of, change_line}

-- ---- where a frame ends

module _ (bytes : List ℕ) (place : ℕ) where
  -- where nothing is read, the place stays
  pub end_outside : length bytes ≤ place → place ≡ (read_at bytes place).next
  unfolding stays
  end_outside h = go (order (length bytes) place)
    where
      go : (length bytes < place) ⊎ ((length bytes ≡ place) ⊎ (place < length bytes)) → place ≡ (read_at bytes place).next
      go (inl l) = ap (λ (g : Reading). g.next) (cases.beyond bytes place l)
      go (inr (inl e)) = ap (λ (g : Reading). g.next) (cases.at_end_lem bytes place (sym e))
      go (inr (inr g)) = absurd (omega arith)

  module _ (inside : place < length bytes) where
    pub end_unknown : body_length (get_or bytes place 0) ≡ 255 → place ≡ (read_at bytes place).next
    unfolding stays
    end_unknown u = ap (λ (g : Reading). g.next) (cases.unknown bytes place inside u)

    module _ (known : body_length (get_or bytes place 0) ≡ 255 → ⊥) where
      pub end_cut : length bytes < place + 1 + body_length (get_or bytes place 0) → place ≡ (read_at bytes place).next
      unfolding stays
      end_cut h = ap (λ (g : Reading). g.next) (cases.cut bytes place inside known h)

      pub end_whole : place + 1 + body_length (get_or bytes place 0) ≤ length bytes → place + 1 + body_length (get_or bytes place 0) ≡ (read_at bytes place).next
      end_whole h = whole_next bytes place inside known h

    -- the end that is worked out
    pub end_found : (body_length (get_or bytes place 0) ≡ 255 → ⊥) → {next : ℕ} → next ≡ place + 1 + body_length (get_or bytes place 0) → next ≤ length bytes → next ≡ (read_at bytes place).next
    end_found known e h = e ∙ end_whole known (omega arith)

-- the frame of a desk's change has seven bytes
pub end_changed : (bytes : List ℕ) (place : ℕ) → place < length bytes → leave_kind ≤ get_or bytes place 0 → get_or bytes place 0 ≤ join_two_kind
    → 7 ≤ length bytes - place → place + 7 ≡ (read_at bytes place).next
unfolding shape_of shape_in kinds run
end_changed bytes place inside low high room =
    let six = change_body (get_or bytes place 0) (sym (in_row SizePosition 32 4 refl (get_or bytes place 0) low (omega arith))) in
    end_found bytes place inside (λ e. omega (arith, six)) (omega (arith, six)) (omega arith)

-- where a frame ends behind its place, the place is within the bytes
pub place_inside : (bytes : List ℕ) (place : ℕ) → place < (read_at bytes place).next → place < length bytes
place_inside bytes place h = let t = told_at bytes place h in omega (arith, t.next, t.inside)

-- ---- its line

module _ (bytes : List ℕ) (place : ℕ) where
  -- the kind of the frame, and its message
  abbrev kind : ℕ
  kind = get_or bytes place 0

  abbrev message : Message
  message = message_at bytes (place + 1) kind

  -- 25 bytes of text suffice for the line of each 7 of frames: that of n and a position has at most 25, that of a position 14
  pub line_fits : 7 * length (change_line message) ≤ 25 * (1 + body_length kind)
  unfolding change_line message_at message_by
  line_fits = go (shape_of kind) refl
    where
      change : (a b : Bool) (letter : ℕ) (ns : List ℕ) → length ns ≡ 2 → length (cond a (line letter ns) (cond b (line2 letter 50 ns) [])) ≤ 25
      change true b letter ns e = omega (arith, line_short letter ns)
      change false true letter ns e = omega (arith, line2_short letter 50 ns)
      change false false letter ns e = omega arith

      position : (a : Bool) (letter : ℕ) (ns : List ℕ) → length ns ≡ 1 → length (cond a (line2 letter letter ns) []) ≤ 14
      position true letter ns e = omega (arith, line2_short letter letter ns)
      position false letter ns e = omega arith

      go : (shape : Shape) → shape_of kind ≡ shape → 7 * length (change_line (message_by shape bytes (place + 1) kind)) ≤ 25 * (1 + body_length kind)
      go Columns e = omega arith
      go Size e = omega arith
      go SizePosition e =
          omega (
            arith,
            change_body kind e,
            change (eqb kind leave_kind || eqb kind join_kind) (eqb kind leave_two_kind || eqb kind join_two_kind) (letter_of kind)
                (number2 bytes (place + 1) ∷ number4 bytes (place + 1 + 2) ∷ []) refl,
          )
      go SizePair e = omega arith
      go Bare e = omega arith
      go Position e = omega (arith, position_body kind e, position (eqb kind pair_leave_kind || eqb kind pair_join_kind) (letter_of kind) (number4 bytes (place + 1) ∷ []) refl)
      go Settings e = omega arith
      go Unknown e = omega arith

  -- a kind that is one of two, or neither
  one_of : (a b : ℕ) → (kind ≡ a) ⊎ (kind ≡ b) → eqb kind a || eqb kind b ≡ true
  one_of a b (inl e) = rw (eq-eqb kind a e)
  one_of a b (inr e) = rw (eq-eqb kind b e) (or_right (eqb kind a) true refl)

  neither_of : (a b : ℕ) → (kind ≡ a → ⊥) → (kind ≡ b → ⊥) → eqb kind a || eqb kind b ≡ false
  neither_of a b e f = rw (ne_eqb kind a e, ne_eqb kind b f)

  -- a kind that is not below a is a or the next, where it is not above that one
  next_of : (a b : ℕ) → b ≡ a + 1 → a ≤ kind → kind ≤ b → eqb kind a || eqb kind b ≡ true
  next_of a b e low high = one_of a b (go (order kind b))
    where
      go : (kind < b) ⊎ ((kind ≡ b) ⊎ (b < kind)) → (kind ≡ a) ⊎ (kind ≡ b)
      go (inl l) = inl (omega arith)
      go (inr (inl f)) = inr f
      go (inr (inr g)) = absurd (omega arith)

  -- the shapes of the kinds of changes
  desk_shape : leave_kind ≤ kind → kind ≤ join_two_kind → shape_of kind ≡ SizePosition
  unfolding shape_of shape_in kinds run
  desk_shape low high = sym (in_row SizePosition 32 4 refl kind low (omega arith))

  pair_shape : pair_leave_kind ≤ kind → kind ≤ pair_join_kind → shape_of kind ≡ Position
  unfolding shape_of shape_in kinds run
  pair_shape low high = sym (in_row Position 36 2 refl kind low (omega arith))

  -- the frame stands within the bytes, so its numbers and its line have room
  module _ (room : ℕ) (h : place < (read_at bytes place).next) (long : 25 * ((read_at bytes place).next - place) ≤ 7 * room) where
    pub desk_asks : leave_kind ≤ kind → kind ≤ join_two_kind → (place + 7 ≤ length bytes) × (25 ≤ room)
    desk_asks low high =
        let t = told_at bytes place h in
        let body = change_body kind (desk_shape low high) in
        (omega (arith, t.next, t.inside, body), omega (arith, t.next, body))

    pub pair_asks_lem : pair_leave_kind ≤ kind → kind ≤ pair_join_kind → (place + 5 ≤ length bytes) × (14 ≤ room)
    pair_asks_lem low high =
        let t = told_at bytes place h in
        let body = position_body kind (pair_shape low high) in
        (omega (arith, t.next, t.inside, body), omega (arith, t.next, body))

  -- the line of each kind of change
  pub one_line : {letter : ℕ} → letter ≡ letter_of kind → leave_kind ≤ kind → kind ≤ join_kind
      → change_line message ≡ line letter (number2 bytes (place + 1) ∷ number4 bytes (place + 3) ∷ [])
  unfolding change_line message_at message_by
  one_line l low high = rw (desk_shape low (omega arith), next_of leave_kind join_kind refl low high, l, add_assoc place 1 2)

  pub two_line : {letter : ℕ} → letter ≡ letter_of kind → leave_two_kind ≤ kind → kind ≤ join_two_kind
      → change_line message ≡ line2 letter 50 (number2 bytes (place + 1) ∷ number4 bytes (place + 3) ∷ [])
  unfolding change_line message_at message_by
  two_line l low high =
      rw
      (desk_shape (omega arith) high, neither_of leave_kind join_kind (λ e. omega arith) (λ e. omega arith), next_of leave_two_kind join_two_kind refl low high, l, add_assoc place 1 2)

  pub pair_line : {letter : ℕ} → letter ≡ letter_of kind → pair_leave_kind ≤ kind → kind ≤ pair_join_kind
      → change_line message ≡ line2 letter letter (number4 bytes (place + 1) ∷ [])
  unfolding change_line message_at message_by
  pair_line l low high = rw (pair_shape low high, next_of pair_leave_kind pair_join_kind refl low high, l)

  -- a frame that is no change has no line
  module _ (other : leave_kind ≤ kind → kind ≤ pair_join_kind → ⊥) where
    no_line : change_line message ≡ []
    unfolding change_line message_at message_by
    no_line = go (shape_of kind)
      where
        one : eqb kind leave_kind || eqb kind join_kind ≡ false
        one = neither_of leave_kind join_kind (λ e. other (omega arith) (omega arith)) (λ e. other (omega arith) (omega arith))

        two : eqb kind leave_two_kind || eqb kind join_two_kind ≡ false
        two = neither_of leave_two_kind join_two_kind (λ e. other (omega arith) (omega arith)) (λ e. other (omega arith) (omega arith))

        pair : eqb kind pair_leave_kind || eqb kind pair_join_kind ≡ false
        pair = neither_of pair_leave_kind pair_join_kind (λ e. other (omega arith) (omega arith)) (λ e. other (omega arith) (omega arith))

        go : (shape : Shape) → change_line (message_by shape bytes (place + 1) kind) ≡ []
        go Columns = refl
        go Size = refl
        go SizePosition = rw (one, two)
        go SizePair = refl
        go Bare = refl
        go Position = rw pair
        go Settings = refl
        go Unknown = refl

    -- nothing is laid
    pub nothing_laid : (before : List ℕ) → Laid (change_line message) before 0 before
    unfolding laid
    nothing_laid before = rw no_line (record { counted = refl; text = refl })
