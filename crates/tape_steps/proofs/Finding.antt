-- A quote's frame and a whole look's directly behind it: by the tests that the code makes, and as the two calls that they ask for.
use mathlib.Core.Path.{◌≡◌, sym, ap, ◌∙◌}
use mathlib.Core.Logic.{◌⊎◌, inl, inr}
use Prim.Native.Nat.{ℕ, ◌+◌, ◌-◌, ◌*◌, ◌≤◌, ◌<◌}
use native.Mathlib.Omega.{arith}
use mathlib.Core.Bool.{Bool, true, false, ◌||◌, not}
use mathlib.Core.List.{List}
use lib.Dec.{ltb, leb, eqb}
use lib.ListN.{length, get_or}
use borrow.Author.Tests.{ltb-true, ltb-false, le-ltb, leb-true, le-leb, lt-leb, eqb-true, eqb-false, ne_eqb, not-true, not-false}
use Rattle.lists.proofs.Booleans.{and_false, and_left, and_right, or_cases, none_left, none_right, refute}
use Rattle.head.specs.declared.Head.{Head}
use Rattle.head.specs.Heads.{settings_hold}
use Rattle.frame_kinds.specs.Kinds.{within, look_kind, body_length}
use Rattle.frame_kinds.proofs.Shapes.{within_bounds, quote_shape, quote_body}
use Rattle.frames.specs.declared.Message.TheVariants.{Quote}
use Rattle.frames.specs.declared.Read.{Read}
use Rattle.frames.specs.Frames.{message_by, message_at, columns_at, told, Reading, reading, read_at}
use Rattle.frames.proofs.Reading.{read_columns, read_next}
use Rattle.octets.specs.Bytes.{number2}
use Rattle.tape_asking.specs.Asking.{asks, in_place, placed, asked}
use Rattle.tape_model.specs.Play.{Player, begun}
use Rattle.tape_model.specs.Streams.{ready}
use Rattle.tape_model.specs.InOne.{behind, InARow}
use Rattle.tape_model.proofs.InOne.{look_next, look_there, look_ready}
use Rattle.tape_steps.specs.declared.BothAt.{BothAt}
use Rattle.tape_steps.specs.Stepping.{look_behind, quote_at, size_at, none_at, both_at}

module _ (tape : List ℕ) (place : ℕ) where
  abbrev kind : ℕ
  kind = get_or tape place 0

  -- ---- the tests

  -- nothing stands at the end or beyond it
  pub none_beyond : length tape ≤ place → false ≡ look_behind tape place
  unfolding look_behind
  none_beyond h = sym (rw (lt-leb (place + 1 + body_length kind + 3) (length tape) (omega arith)) (and_false (within 1 6 kind)))

  -- a frame of another kind
  pub no_quote_lem : eqb kind 0 || ltb 6 kind ≡ true → false ≡ look_behind tape place
  unfolding look_behind
  no_quote_lem k = rw (refute (within 1 6 kind) (λ w. none (within_bounds 1 6 kind w) (or_cases (eqb kind 0) (ltb 6 kind) k)))
    where
      none : (1 ≤ kind) × (kind ≤ 6) → (eqb kind 0 ≡ true) ⊎ (ltb 6 kind ≡ true) → ⊥
      none h (inl z) = omega (arith, h.0, eqb-true kind 0 z)
      none h (inr z) = omega (arith, h.1, ltb-true 6 kind z)

  module _ (k : eqb kind 0 || ltb 6 kind ≡ false) where
    low : 1 ≤ kind
    low = positive kind (eqb-false kind 0 (none_left (eqb kind 0) (ltb 6 kind) k))
      where
        positive : (n : ℕ) → (n ≡ 0 → ⊥) → 1 ≤ n
        positive n z = omega (arith, z)

    pub high : kind ≤ 6
    high = ltb-false 6 kind (none_right (eqb kind 0) (ltb 6 kind) k)

    -- where the place behind it is
    next_is : place + 1 + body_length kind ≡ place + (1 + 4 * kind)
    next_is = omega (arith, quote_body kind low high)

    -- too little has come behind it
    pub too_short_lem : length tape - place < 1 + 4 * kind + 3 → false ≡ look_behind tape place
    unfolding look_behind
    too_short_lem h = sym (rw (next_is, lt-leb (place + (1 + 4 * kind) + 3) (length tape) (omega arith)) (and_false (within 1 6 kind)))

    -- what stands there tells
    pub by_kind : 1 + 4 * kind + 3 ≤ length tape - place → eqb (get_or tape (place + (1 + 4 * kind)) 0) look_kind ≡ look_behind tape place
    unfolding look_behind
    by_kind h = rw (next_is, le-leb 1 kind low, le-leb kind 6 high, le-leb (place + (1 + 4 * kind) + 3) (length tape) (omega (arith, low)))

  -- ---- what they say
  module _ (b : look_behind tape place ≡ true) where
    parts : (within 1 6 kind ≡ true) × (leb (place + 1 + body_length kind + 3) (length tape) ≡ true) × (eqb (get_or tape (place + 1 + body_length kind) 0) look_kind ≡ true)
    unfolding look_behind
    parts =
        let rest = and_right (within 1 6 kind) _ b in
        (and_left (within 1 6 kind) _ b, and_left (leb (place + 1 + body_length kind + 3) (length tape)) _ rest, and_right (leb (place + 1 + body_length kind + 3) (length tape)) _ rest)

    bounds : (1 ≤ kind) × (kind ≤ 6)
    bounds = within_bounds 1 6 kind parts.0

    pub six : kind ≤ 6
    six = bounds.1

    inside : place + 1 + body_length kind + 3 ≤ length tape
    inside = leb-true (place + 1 + body_length kind + 3) (length tape) parts.1

    -- the quote is read
    quote_read : read_at tape place ≡ record { says = told (Quote kind); columns = columns_at tape (place + 1) kind; next = place + 1 + body_length kind }
    unfolding read_at message_at message_by
    quote_read =
        rw (
          quote_shape kind bounds.0 bounds.1,
          le-ltb (length tape) place (omega (arith, inside)),
          ne_eqb place (length tape) (λ z. omega (arith, inside, z)),
          ne_eqb (body_length kind) 255 (λ z. omega (arith, quote_body kind bounds.0 bounds.1, bounds.1, z)),
          le-ltb (length tape) (place + 1 + body_length kind) (omega (arith, inside)),
        )

    next_there : behind tape place ≡ place + 1 + body_length kind
    next_there = ap Reading.next quote_read

    -- a kind stands at the place, and the look within the tape
    pub place_inside : place < length tape
    place_inside = omega (arith, inside)

    pub look_inside : behind tape place + 3 ≤ length tape
    look_inside = rw next_there inside

    look_kind_lem : get_or tape (behind tape place) 0 ≡ look_kind
    look_kind_lem = rw next_there (eqb-true (get_or tape (place + 1 + body_length kind) 0) look_kind parts.2)

    -- the look is whole, and where it ends
    pub look_whole : ready tape (behind tape place) ≡ true
    look_whole = look_ready tape (behind tape place) look_kind_lem look_inside

    pub look_end : behind tape (behind tape place) ≡ behind tape place + 3
    look_end = look_next tape (behind tape place) look_kind_lem look_inside

    -- behind the place
    pub ahead : place < behind tape place
    ahead = omega (arith, next_there)

    -- once an opening was accepted they ask for the quote and the look
    pub in_a_row : (k : Player) → begun k ≡ true → InARow (quote_at tape place) (size_at tape place) k tape place
    unfolding asked asks placed in_place
    in_a_row k o = record {
      quote_asked = rw (o, quote_read);
      look_asked = rw o (look_there tape (behind tape place) look_kind_lem look_inside (read_at tape (behind tape place)).columns);
    }

    -- a reader that reads the quote stands before the look
    pub read_inside : (r : Read) → reading r ≡ read_at tape place → r.next + 3 ≤ length tape
    read_inside r e = omega (arith, read_next r e, look_inside)

  -- as it was tested
  pub tested : {look : Bool} → look ≡ look_behind tape place → not look ≡ false → look_behind tape place ≡ true
  tested {look} e n = sym e ∙ not-false look n

  -- ---- what is found
  module _ (h : Head) where
    abbrev holds : Bool
    holds = settings_hold h.dimensions h.capacity h.directions

    -- no look stands behind a quote
    pub none_behind : {look : Bool} {r : BothAt} → look ≡ look_behind tape place → not look ≡ true → r ≡ none_at place → r ≡ both_at tape place h
    unfolding both_at
    none_behind {look} e n r = r ∙ sym (rw (← e, not-true look n, and_false holds))

    -- no opening was accepted
    pub none_opened : {opened : Bool} {r : BothAt} → opened ≡ holds → not opened ≡ true → r ≡ none_at place → r ≡ both_at tape place h
    unfolding both_at
    none_opened {opened} e n r = r ∙ sym (rw (← e, not-true opened n))

    -- both stand there
    pub both_there : {look opened : Bool} → look ≡ look_behind tape place → not look ≡ false → opened ≡ holds → not opened ≡ false
        → (r : Read) → reading r ≡ read_at tape place → {n : ℕ} → n ≡ number2 tape (r.next + 1)
        → record { found = true; kind = kind; columns = r.columns; n = n; next = r.next + 3 } ≡ both_at tape place h
    unfolding both_at
    both_there {look} {opened} e l f o r g m =
        rw (tested e l, sym f ∙ not-false opened o, m, read_columns r g, read_next r g)
