-- What stands at a place of a venue's tape, and what the tape has next, case by case.
use mathlib.Core.Path.{◌≡◌, refl, sym, ap, ◌∙◌}
use Prim.Native.Nat.{ℕ, ◌+◌, ◌≤◌, ◌<◌}
use native.Mathlib.Omega.{arith}
use mathlib.Core.List.{List}
use lib.ListN.{length, get_or}
use borrow.Author.Tests.{le-ltb, ne_eqb}
use Rattle.octets.specs.Bytes.{number4}
use Rattle.frame_kinds.specs.declared.Shape.{Shape}
use Rattle.frame_kinds.specs.declared.Shape.TheVariants.{Columns, Size, SizePosition, SizePair, Bare, Position, Settings, Unknown}
use Rattle.frame_kinds.specs.Kinds.{stamp_kind, kinds, shape_in, shape_of, length_of, body_length}
use Rattle.frame_kinds.proofs.Shapes.{quote_shape, quote_kinds, body_by, low_quote}
use Rattle.frames.specs.Frames.{message_by, message_at, saying, stays, read_at}
use Rattle.frames.proofs.ReadCases as Cases
use Rattle.venue_tapes.specs.VenueTapes.{Sort, quote, stamp, stray, at_end, unread, sort_by, sort_said, sort_of, Ahead, after_stamp, ahead_by, next}

-- the stamp's shape
stamp_shape : shape_of stamp_kind ≡ Position
unfolding shape_of shape_in kinds
stamp_shape = refl

-- the body of a stamp has four bytes
pub stamp_body : body_length stamp_kind ≡ 4
unfolding length_of
stamp_body = body_by Position stamp_kind stamp_shape

module _ (tape : List ℕ) (place : ℕ) where
  pub sort_beyond : length tape < place → unread 2 ≡ sort_of (read_at tape place)
  unfolding sort_of sort_said stays saying
  sort_beyond h = rw (← (Cases.beyond tape place h))

  pub sort_end : place ≡ length tape → at_end ≡ sort_of (read_at tape place)
  unfolding sort_of sort_said stays saying
  sort_end h = rw (← (Cases.at_end_lem tape place h))

  module _ (inside : place < length tape) where
    pub sort_unknown : body_length (get_or tape place 0) ≡ 255 → unread 1 ≡ sort_of (read_at tape place)
    unfolding sort_of sort_said stays saying
    sort_unknown h = rw (← (Cases.unknown tape place inside h))

    module _ (known : body_length (get_or tape place 0) ≡ 255 → ⊥) where
      pub sort_cut : length tape < place + 1 + body_length (get_or tape place 0) → unread 2 ≡ sort_of (read_at tape place)
      unfolding sort_of sort_said stays saying
      sort_cut h = rw (← (Cases.cut tape place inside known h))

      module _ (whole : place + 1 + body_length (get_or tape place 0) ≤ length tape) where
        -- a whole frame is what its message is
        sort_whole : sort_of (read_at tape place) ≡ sort_by (message_at tape (place + 1) (get_or tape place 0)) (place + 1 + body_length (get_or tape place 0))
        unfolding read_at sort_of sort_said
        sort_whole =
            simp
            (le-ltb (length tape) place (omega arith), ne_eqb place (length tape) (λ e. omega arith), ne_eqb (body_length (get_or tape place 0)) 255 known, le-ltb (length tape) (place + 1 + body_length (get_or tape place 0)) whole)

        pub sort_quote : {behind : ℕ} → get_or tape place 0 ≤ 6 → behind ≡ place + 1 + body_length (get_or tape place 0) → quote behind ≡ sort_of (read_at tape place)
        unfolding sort_by
        sort_quote h b =
            let kind = get_or tape place 0 in
            let some : 1 ≤ kind = low_quote kind known in
            rw b
            (sym (sort_whole ∙ ap (λ m. sort_by m (place + 1 + body_length kind)) (sym (Cases.quote_message tape (place + 1) kind (quote_shape kind some h)))))

        pub sort_stamp : {ms behind : ℕ} → get_or tape place 0 ≡ stamp_kind → ms ≡ number4 tape (place + 1) → behind ≡ place + 1 + body_length (get_or tape place 0)
            → stamp ms behind ≡ sort_of (read_at tape place)
        unfolding sort_by
        sort_stamp e m b = rw (m, b) (sym (sort_whole ∙ rw (e, ← (Cases.position_message tape (place + 1) stamp_kind stamp_shape {p = number4 tape (place + 1)} refl))))

        pub sort_stray : 6 < get_or tape place 0 → (get_or tape place 0 ≡ stamp_kind → ⊥) → stray ≡ sort_of (read_at tape place)
        unfolding message_at message_by sort_by
        sort_stray h n = sym (sort_whole ∙ go (shape_of kind) refl)
          where
            kind : ℕ
            kind = get_or tape place 0

            go : (shape : Shape) → shape_of kind ≡ shape → sort_by (message_by shape tape (place + 1) kind) (place + 1 + body_length kind) ≡ stray
            go Columns e = absurd (omega (arith, (quote_kinds kind e).1))
            go Size e = refl
            go SizePosition e = refl
            go SizePair e = refl
            go Bare e = refl
            go Position e = rw (ne_eqb kind stamp_kind n)
            go Settings e = refl
            go Unknown e = refl

-- what is seen at a place, case by case
pub ruleset glimpses = (sort_beyond, sort_end, sort_unknown, sort_cut, sort_quote, sort_stamp, sort_stray, stamp_body)

-- ---- what a tape has next

module _ (tape : List ℕ) (place last : ℕ) {s : Sort} (seen : s ≡ sort_of (read_at tape place)) where
  -- behind a stamp the frame there is judged
  pub next_stamp : {ms behind : ℕ} {t : Sort} {x : Ahead} → s ≡ stamp ms behind → t ≡ sort_of (read_at tape behind) → x ≡ after_stamp last ms t
      → x ≡ next tape place last
  unfolding next ahead_by
  next_stamp {ms} e f a = a ∙ ap (after_stamp last ms) f ∙ rw (← seen, e)

  -- behind anything else nothing is
  pub next_other : {t : Sort} {x : Ahead} → s ≡ t → x ≡ ahead_by tape last t → x ≡ next tape place last
  unfolding next
  next_other e a = a ∙ rw (← e, seen)

-- what a tape has next, case by case
pub ruleset nexts = (next_stamp, next_other)
