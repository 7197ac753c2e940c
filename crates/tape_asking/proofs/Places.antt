-- What is asked for at a place of a tape: a call that a frame can ask for, with at most six columns; the tape ends where the place stays.
use mathlib.Core.Path.{◌≡◌, refl, sym, ap, ◌∙◌}
use Prim.Native.Nat.{ℕ, ◌+◌, ◌≤◌}
use native.Mathlib.Omega.{arith}
use mathlib.Core.Bool.{Bool, true, false, cond}
use mathlib.Core.List.{List}
use lib.Dec.{eqb}
use lib.ListN.{length, get_or, take, replicate, length-take, length-replicate}
use borrow.Author.Tests.{eq-eqb, ne_eqb}
use Rattle.std.specs.Prelude.{Option, Some, Result, Ok}
use Rattle.refusals.specs.declared.Refusal.{Refusal}
use Rattle.head.specs.declared.Desk.TheVariants.{One, Two}
use Rattle.frame_kinds.specs.declared.Shape.{Shape}
use Rattle.frame_kinds.specs.declared.Shape.TheVariants.{Columns, Size, SizePosition, SizePair, Bare, Position, Settings, Unknown}
use Rattle.frames.specs.declared.Read.{Read}
use Rattle.frame_kinds.specs.Kinds.{look_kind, watch_kind, unwatch_kind, watch_two_kind, unwatch_two_kind, pair_kind, unpair_kind, past_kind, shape_of, body_length}
use Rattle.frames.specs.Frames.{message_by, message_at, Saying, told, saying, Reading, reading, stays, read_at}
use Rattle.frame_kinds.proofs.Shapes.{KnownShape, Known, quote_kinds}
use Rattle.frames.proofs.Reading.{read_says, Found, beyond, at_end_lem, unknown, cut, whole, found}
use Rattle.model.specs.Calls.{Call}
use Rattle.tape_asking.specs.declared.Wanted.{Wanted}
use Rattle.tape_asking.specs.declared.Wanted.TheVariants.{Quote}
use Rattle.tape_asking.specs.Asking.{Asked, finished, unread, misplaced, request, sized_asks, pair_asks, bare_asks, asks, in_place, placed, asked, playable}
use Rattle.tape_asking.specs.Placing.{frame_wants, wants}

-- how many columns are asked with
unfoldable columns_in : Asked → ℕ
columns_in finished = 0
columns_in (unread k) = 0
columns_in misplaced = 0
columns_in (request (Call.Open d N directions)) = 0
columns_in (request (Call.Quote x)) = length x
columns_in (request (Call.Look n)) = 0
columns_in (request (Call.Watch desk n)) = 0
columns_in (request (Call.End desk n)) = 0
columns_in (request (Call.Past n1 n2)) = 0
columns_in (request (Call.Pair n1 n2)) = 0
columns_in (request Call.Unpair) = 0
columns_in (request Call.Due) = 0
columns_in (request (Call.Preview x)) = length x
columns_in (request (Call.Both x n)) = length x

-- what ends the tape
unfoldable pub ends : Asked → Bool
ends finished = true
ends (unread k) = true
ends misplaced = false
ends (request c) = false

-- it is no call, or one that some frame asks for
unfoldable pub asks_playable : Asked → Bool
asks_playable finished = true
asks_playable (unread k) = true
asks_playable misplaced = true
asks_playable (request c) = playable c

-- ---- a whole frame

-- what was read does not end the tape, and asks with at most six columns for a call that some frame asks for
record Plain (a : Asked) : Type 0 where
  bounded : columns_in a ≤ 6
  on : ends a ≡ false
  plays : asks_playable a ≡ true

misplaced_plain : Plain misplaced
unfolding columns_in ends asks_playable
misplaced_plain = record { bounded = omega arith; on = refl; plays = refl }

-- so does what is asked in its place
placed_plain : (b : Bool) (c : Call) → Plain (request c) → Plain (placed b (request c))
unfolding placed
placed_plain b c p = go (in_place b c)
  where
    go : (x : Bool) → Plain (cond x (request c) misplaced)
    go true = p
    go false = misplaced_plain

-- what is never in its place
never_plain : (b : Bool) → Plain (placed b misplaced)
unfolding placed
never_plain b = misplaced_plain

-- a frame with n
sized_plain : (b : Bool) (kind n : ℕ) → Plain (placed b (sized_asks kind n))
unfolding sized_asks columns_in ends asks_playable playable
sized_plain b kind n = go (eqb kind look_kind) (eqb kind watch_kind) (eqb kind unwatch_kind) (eqb kind watch_two_kind) (eqb kind unwatch_two_kind)
  where
    go : (x y z u v : Bool)
        → Plain (placed b (cond x (request (Call.Look n)) (cond y (request (Call.Watch One n)) (cond z (request (Call.End One n))
        (cond u (request (Call.Watch Two n)) (cond v (request (Call.End Two n)) misplaced))))))
    go true y z u v = placed_plain b (Call.Look n) (record { bounded = omega arith; on = refl; plays = refl })
    go false true z u v = placed_plain b (Call.Watch One n) (record { bounded = omega arith; on = refl; plays = refl })
    go false false true u v = placed_plain b (Call.End One n) (record { bounded = omega arith; on = refl; plays = refl })
    go false false false true v = placed_plain b (Call.Watch Two n) (record { bounded = omega arith; on = refl; plays = refl })
    go false false false false true = placed_plain b (Call.End Two n) (record { bounded = omega arith; on = refl; plays = refl })
    go false false false false false = never_plain b

-- a frame with n1 and n2
paired_plain : (b : Bool) (kind n1 n2 : ℕ) → Plain (placed b (pair_asks kind n1 n2))
unfolding pair_asks columns_in ends asks_playable playable
paired_plain b kind n1 n2 = go (eqb kind past_kind) (eqb kind pair_kind)
  where
    go : (x y : Bool) → Plain (placed b (cond x (request (Call.Past n1 n2)) (cond y (request (Call.Pair n1 n2)) misplaced)))
    go true y = placed_plain b (Call.Past n1 n2) (record { bounded = omega arith; on = refl; plays = refl })
    go false true = placed_plain b (Call.Pair n1 n2) (record { bounded = omega arith; on = refl; plays = refl })
    go false false = never_plain b

-- a frame with no body
bare_plain : (b : Bool) (kind : ℕ) → Plain (placed b (bare_asks kind))
unfolding bare_asks columns_in ends asks_playable playable
bare_plain b kind = go (eqb kind unpair_kind)
  where
    go : (x : Bool) → Plain (placed b (cond x (request Call.Unpair) misplaced))
    go true = placed_plain b Call.Unpair (record { bounded = omega arith; on = refl; plays = refl })
    go false = never_plain b

-- the message of a whole frame
whole_plain : (b : Bool) (tape : List ℕ) (body kind : ℕ) (columns : List ℕ) → Known kind → Plain (asked b (told (message_at tape body kind)) columns)
unfolding asked message_at message_by asks columns_in ends asks_playable playable
whole_plain b tape body kind columns known = go (shape_of kind) refl known
  where
    go : (shape : Shape) → shape_of kind ≡ shape → KnownShape shape → Plain (placed b (asks (message_by shape tape body kind) columns))
    go Columns e l =
        let r = quote_kinds kind e in
        placed_plain b (Call.Quote (take kind columns)) (record { bounded = omega (arith, length-take kind columns, r.1); on = refl; plays = refl })
    go Size e l = sized_plain b kind _
    go SizePosition e l = never_plain b
    go SizePair e l = paired_plain b kind _ _
    go Bare e l = bare_plain b kind
    go Position e l = never_plain b
    go Settings e l = placed_plain b (Call.Open _ _ _) (record { bounded = omega arith; on = refl; plays = refl })
    go Unknown e l = absurd (omega arith)

-- ---- whatever stands at a place

-- at most six columns are asked with, for a call that some frame asks for, and the tape ends where the place stays
record Placed (a : Asked) (over : Bool) : Type 0 where
  bounded : columns_in a ≤ 6
  plays : asks_playable a ≡ true
  last : over ≡ ends a

read_placed : (b : Bool) (tape : List ℕ) (place : ℕ) (columns : List ℕ) {r : Reading} → Found tape place r → Placed (asked b r.says columns) (eqb r.next place)
unfolding asked columns_in ends asks_playable stays
read_placed b tape place columns (beyond h) = record { bounded = omega arith; plays = refl; last = eq-eqb place place refl }
read_placed b tape place columns (at_end_lem e) = record { bounded = omega arith; plays = refl; last = eq-eqb place place refl }
read_placed b tape place columns unknown = record { bounded = omega arith; plays = refl; last = eq-eqb place place refl }
read_placed b tape place columns cut = record { bounded = omega arith; plays = refl; last = eq-eqb place place refl }
read_placed b tape place columns (whole k h) =
    let m = whole_plain b tape (place + 1) (get_or tape place 0) columns k in
    record {
      bounded = m.bounded;
      plays = m.plays;
      last = ne_eqb (place + 1 + body_length (get_or tape place 0)) place (λ e. omega arith) ∙ sym m.on;
    }

module _ (b : Bool) (tape : List ℕ) (place : ℕ) (columns : List ℕ) where
  -- a tape asks for no call but those that some frame asks for
  pub asked_playable : asks_playable (asked b (read_at tape place).says columns) ≡ true
  asked_playable = (read_placed b tape place columns (found tape place)).plays

  -- and it ends where the place stays
  pub asked_ends : eqb (read_at tape place).next place ≡ ends (asked b (read_at tape place).says columns)
  asked_ends = (read_placed b tape place columns (found tape place)).last

module _ (tape : List ℕ) (place : ℕ) (b : Bool) (r : Read) (w : Result (Option Wanted) Refusal) (e : reading r ≡ read_at tape place) (g : (columns : List ℕ) → wants w columns ≡ asked b (saying r.message) columns) where
  -- what is wanted is what is asked for at the place
  pub wanted_asked : (columns : List ℕ) → wants w columns ≡ asked b (read_at tape place).says columns
  wanted_asked columns = g columns ∙ ap (λ (x : Saying). asked b x columns) (read_says r e)

  -- a quote that is in its place has at most six columns
  pub quote_bounded : {n : ℕ} → w ≡ Ok (Some (Quote n)) → n ≤ 6
  unfolding wants frame_wants columns_in
  quote_bounded {n} q =
      let columns = replicate {A = ℕ} n 0 in
      let same : length (take n columns) ≡ columns_in (asked b (read_at tape place).says columns) = ap (λ (v : Result (Option Wanted) Refusal). columns_in (wants v columns)) (sym q) ∙ ap columns_in (wanted_asked columns) in
      omega (arith, same, length-take n columns, length-replicate {A = ℕ} n 0, (read_placed b tape place columns (found tape place)).bounded)
