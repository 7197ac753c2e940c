-- A hand gathered from a file, frame by frame: the pass over the frames, and what it comes to. Assumes nothing.
use mathlib.Core.Path.{◌≡◌, sym, ap, ◌∙◌}
use mathlib.Core.Bool.{Bool, true, false, cond}
use mathlib.Core.List.{List}
use Prim.Native.Nat.{ℕ, zero, suc, ◌+◌, ◌-◌, ◌*◌, ◌<◌, ◌≤◌}
use native.Mathlib.Omega.{arith}
use lib.Dec.{ltb, eqb}
use lib.ListN.{length, get_or, set}
use lib.Seq.{paste, paste-zero, paste-suc}
use borrow.Rule.Slice.PartMut.{put_mid}
use Rattle.std.proofs.Common.{rules}
use Rattle.std.proofs.lemmas.Slice.{overwrites}
use borrow.Author.Tests.{le-leb, lt-leb}
use Rattle.refusals.specs.declared.Refusal.{Refusal}
use Rattle.std.specs.Prelude.{Result, Ok, Err}
use Rattle.refusals.specs.Refusals.{number, granted}
use Rattle.refusals.proofs.Numbers.{refused_granted}
use Rattle.frame_kinds.specs.Kinds.{body_length}
use Rattle.frames.specs.declared.Read.{Read}
use Rattle.frames.specs.Frames as Frames
use Rattle.frames.specs.Frames.{Reading, reading, saying, stays, read_at}
use Rattle.drill_call.specs.declared.Hand.{Hand}
use Rattle.drill_hands.specs.Files.{no_hand, entered, with_quote, number_in, columns_in, refusal_of, count_of, hand_from, hand_in}

-- a quote's cells stored one after the other are the quote's pasted
entered_pasted : (cells : List ℕ) (at : ℕ) (quote : List ℕ) (k : ℕ) → k ≤ length quote → at + k ≤ length cells → paste cells at quote k ≡ entered cells at quote k
unfolding entered
entered_pasted cells at quote zero h u = sym (paste-zero cells at quote)
entered_pasted cells at quote (suc k) h u =
    sym (paste-suc cells at quote k 0 (omega arith) (omega arith)) ∙ ap (λ (l : List ℕ). set l (at + k) (get_or quote k 0))
    (entered_pasted cells at quote k (omega arith) (omega arith))

-- so is a quote copied to its place
pub entered_is : (cells : List ℕ) (at : ℕ) (quote : List ℕ) → length quote ≡ 6 → length cells ≡ 24 → at ≤ 18
    → put_mid at (at + 6 - at) cells quote ≡ entered cells at quote 6
entered_is cells at quote e f h =
    let pasted : put_mid at (at + 6 - at) cells quote ≡ paste cells at quote 6 = search (rules, overwrites) in
    pasted ∙ entered_pasted cells at quote 6 (omega arith) (omega arith)

module _ (h : Hand) (count : ℕ) (quote : List ℕ) where
  -- the fifth quote is counted and not held
  pub fifth_quote : 4 ≤ h.count → record { count = 5; columns = h.columns; cells = h.cells } ≡ with_quote h count quote
  unfolding with_quote
  fifth_quote e = rw (le-leb 4 h.count e)

  -- one of the first four is held
  pub held_quote : h.count < 4 → {cells : List ℕ} → cells ≡ entered h.cells (h.count * 6) quote 6
      → record { count = h.count + 1; columns = set h.columns h.count count; cells = cells } ≡ with_quote h count quote
  unfolding with_quote
  held_quote u e = rw (lt-leb 4 h.count u, e)

-- a quote was read: the place behind it is further on
quote_on : (file : List ℕ) (place : ℕ) → number_in (read_at file place).says ≡ 0 → place < (read_at file place).next
unfolding read_at stays number_in
quote_on file place = go (ltb (length file) place) (eqb place (length file)) (eqb (body_length (get_or file place 0)) 255)
    (ltb (length file) (place + 1 + body_length (get_or file place 0)))
  where
    whole : Reading
    whole = record {
      says = Frames.told (Frames.message_at file (place + 1) (get_or file place 0));
      columns = Frames.columns_at file (place + 1) (get_or file place 0);
      next = place + 1 + body_length (get_or file place 0);
    }

    go : (a b c e : Bool)
        → number_in (cond a (stays (Frames.refused 2) place)
        (cond b (stays Frames.ended place) (cond c (stays (Frames.refused 1) place) (cond e (stays (Frames.refused 2) place) whole)))).says ≡ 0
        → place < (cond a (stays (Frames.refused 2) place)
        (cond b (stays Frames.ended place) (cond c (stays (Frames.refused 1) place) (cond e (stays (Frames.refused 2) place) whole)))).next
    go true b c e h = absurd (omega arith)
    go false true c e h = absurd (omega arith)
    go false false true e h = absurd (omega arith)
    go false false false true h = absurd (omega arith)
    go false false false false h = omega arith

-- what is still to be gathered from a place on, behind the hand so far, comes to the whole file's hand
pub record Gathering (file : List ℕ) (hand : Hand) (place : ℕ) : Type 0 where
  pub most : ℕ
  pub enough : length file ≤ place + most
  pub same : hand_from most file place hand ≡ hand_in file

pub start_gather : (file : List ℕ) {hand : Hand} → hand ≡ no_hand → Gathering file hand 0
unfolding hand_in
start_gather file e = record { most = length file; enough = omega arith; same = rw e }

module _ (file : List ℕ) (hand : Hand) (place : ℕ) (within : place < length file) where
  abbrev refusal : ℕ
  refusal = number_in (read_at file place).says

  abbrev next : Hand
  next = with_quote hand (columns_in (read_at file place).says) (read_at file place).columns

  step : (most : ℕ) → hand_from (suc most) file place hand ≡ granted refusal (hand_from most file (read_at file place).next next) (refusal, hand)
  unfolding hand_from
  step most = rw (lt-leb (length file) place within)

  gathered_on : (most : ℕ) → length file ≤ place + most → hand_from most file place hand ≡ hand_in file → refusal ≡ 0
      → Gathering file next (read_at file place).next
  unfolding granted
  gathered_on zero e s r = absurd (omega arith)
  gathered_on (suc most) e s r = record {
    most = most;
    enough = omega (arith, quote_on file place r);
    same = sym (step most ∙ accept r) ∙ s;
  }
    where
      accept : refusal ≡ 0 → granted refusal (hand_from most file (read_at file place).next next) (refusal, hand) ≡ hand_from most file
          (read_at file place).next next
      accept z = rw z

  gathered_out : (most : ℕ) → length file ≤ place + most → hand_from most file place hand ≡ hand_in file → (k : Refusal) → refusal ≡ number k
      → (number k, hand) ≡ hand_in file
  gathered_out zero e s k r = absurd (omega arith)
  gathered_out (suc most) e s k r = sym (refuse r) ∙ sym (step most) ∙ s
    where
      refuse : refusal ≡ number k → granted refusal (hand_from most file (read_at file place).next next) (refusal, hand) ≡ (number k, hand)
      refuse z = rw z (refused_granted k (hand_from most file (read_at file place).next next) (number k, hand))

module _ (file : List ℕ) (hand : Hand) (place : ℕ) (g : Gathering file hand place) (r : Read) (e : reading r ≡ read_at file place)
    (within : place < length file) where
  says : saying r.message ≡ (read_at file place).says
  unfolding reading
  says = ap Reading.says e

  module _ {t : Result ℕ Refusal} (n : refusal_of t ≡ number_in (saying r.message)) (c : count_of t ≡ columns_in (saying r.message)) where
    -- a quote goes behind the hand
    pub more_gather : {count : ℕ} {after : Hand} → t ≡ Ok count → after ≡ with_quote hand count r.columns → Gathering file after r.next
    unfolding reading
    more_gather {count} f w =
        let accepted : number_in (read_at file place).says ≡ 0 = rw says at (sym n ∙ ap refusal_of f) in
        let at : r.next ≡ (read_at file place).next = ap Reading.next e in
        let columns : r.columns ≡ (read_at file place).columns = ap Reading.columns e in
        let counted : count ≡ columns_in (saying r.message) = sym (ap count_of f) ∙ c in
        rw (w, counted, columns, at, says) (gathered_on file hand place within g.most g.enough g.same accepted)

    -- the place moves on
    pub moves_on : {count : ℕ} → t ≡ Ok count → place < r.next
    unfolding reading
    moves_on f =
        let accepted : number_in (read_at file place).says ≡ 0 = rw says at (sym n ∙ ap refusal_of f) in
        rw (ap Reading.next e) (quote_on file place accepted)

    -- any other frame, or none, refuses the file
    pub out_gather : (k : Refusal) → t ≡ Err k → (number k, hand) ≡ hand_in file
    out_gather k f = gathered_out file hand place within g.most g.enough g.same k (rw says at (sym n ∙ ap refusal_of f))

-- the whole file was read
pub end_gather : (file : List ℕ) (hand : Hand) (place : ℕ) → Gathering file hand place → length file ≤ place → (0, hand) ≡ hand_in file
unfolding hand_from
end_gather file hand place g h = go g.most g.same
  where
    go : (most : ℕ) → hand_from most file place hand ≡ hand_in file → (0, hand) ≡ hand_in file
    go zero s = s
    go (suc most) s = rw (le-leb (length file) place h) at s
