-- One join of what has come of two tapes, and the turns of a loop over such joins.
use mathlib.Core.Path.{◌≡◌, refl, sym, ap, ◌∙◌}
use Prim.Native.Nat.{ℕ, ◌+◌, ◌-◌, ◌≤◌, ◌<◌, min}
use native.Mathlib.Omega.{arith}
use mathlib.Core.Bool.{Bool, true, false, ◌&&◌}
use mathlib.Core.List.{List, []}
use lib.Dec.{leb, eqb}
use lib.ListN.{length, take, drop, length-take, length-drop, drop_of_length-le, take-append-drop}
use lib.Seq.{take_all}
use borrow.Author.Tests.{leb-true, leb-false, eqb-true}
use Rattle.lists.proofs.Booleans.{and_left, and_right}
use Rattle.octets.specs.Placed.{placed}
use Rattle.venue_tapes.proofs.Pairs.{is_pair, pair_size}
use Rattle.venue_join.specs.declared.Venue.{Venue}
use Rattle.venue_join.specs.Join.{Choice, of_first, of_second, at_ends, refused, Joint, join_at, passed, part_by, part_at, answer_of, Joined}
use Rattle.venue_join.proofs.Joins.{took_first, took_second, refusal_numbered, end_stays, refusal_stays}
use Rattle.std.specs.Prelude.{Option, None, Result}
use Rattle.refusals.specs.declared.Refusal.{Refusal}
use Rattle.lists.specs.Lists.{laid}
use Rattle.venue_pieces.specs.declared.Joiner.{Joiner}
use Rattle.venue_pieces.specs.declared.Written.{Written}
use Rattle.venue_pieces.specs.Pieces.{enough, output_of, left_out, number_out, answer, JoinedOne, goes_on, Joins, PieceJoined}

-- ---- what is written of a part

-- no more is left out than there is
pub left_within : (written : Written) (long : ℕ) {from : ℕ} → from ≡ left_out written long → from ≤ long
unfolding left_out
left_within Written.Pair long e = omega (arith, e)
left_within Written.Quote long e = omega (arith, e)

-- the bytes from there on are what is written
left_written : (written : Written) (part : List ℕ) → drop (left_out written (length part)) part ≡ output_of written part
unfolding output_of left_out
left_written Written.Pair part = refl
left_written Written.Quote part = go (leb 5 (length part)) refl
  where
    go : (b : Bool) → leb 5 (length part) ≡ b → drop (min 5 (length part)) part ≡ drop 5 part
    go true e = let h = leb-true 5 (length part) e in ap (λ (n : ℕ). drop n part) (let m : min 5 (length part) ≡ 5 = omega arith in m)
    go false e =
        let h = leb-false 5 (length part) e in
        drop_of_length-le part {i = min 5 (length part)} (omega arith) ∙ sym (drop_of_length-le part {i = 5} (omega arith))

-- ---- one join

module _ (first second : List ℕ) (v w : Venue) where
  abbrev joint : Joint
  joint = join_at first second v w

  -- a part has at most thirty bytes
  pub part_short : length (part_at first second v w) ≤ 30
  unfolding part_at part_by passed
  part_short = go joint.choice refl
    where
      go : (c : Choice) → joint.choice ≡ c → length (part_by c first second v w joint) ≤ 30
      go of_first e =
          let size = pair_size (is_pair first v.place v.last (took_first first second v w e).0.has) in
          simp length-take (omega (arith, size.1))
      go of_second e =
          let size = pair_size (is_pair second w.place w.last (took_second first second v w e).0.has) in
          simp length-take (omega (arith, size.1))
      go at_ends e = omega arith
      go (refused k) e = omega arith

  -- what is written of a part has room where thirty bytes have
  pub gather_fits : (used from : ℕ) {part : List ℕ} {long : ℕ} → part ≡ part_at first second v w → used + 30 ≤ long → used + length (take (length part - from) (drop from part)) ≤ long
  gather_fits used from {part} e h =
      let short : length part ≤ 30 = rw e part_short in
      simp (length-take, length-drop) (omega arith)

-- a join that was made, with its part laid behind the bytes that are gathered
pub joined_one : (first second : List ℕ) (written : Written) (s : Joiner) {v' w' : Venue} {part out out' : List ℕ} {from used : ℕ}
    → Joined first second s.one s.two part 0 v' w' → from ≡ left_out written (length part) → out' ≡ placed (take (length part - from) (drop from part)) s.used out
    → used ≡ s.used + length (take (length part - from) (drop from part))
    → JoinedOne first second written s (record { one = v'; two = w'; used = used; outcome = None }) out out'
joined_one first second written s {part = part} {out = out} {from = from} j f o u =
    let same : take (length part - from) (drop from part) ≡ output_of written (part_at first second s.one s.two) =
    take_all (length part - from) (drop from part) (omega (arith, length-drop from part)) ∙ ap (λ (n : ℕ). drop n part) f ∙ left_written written part ∙ ap (output_of written) j.handed in
    record {
      answered = j.answered;
      first_left = j.first_left;
      second_left = j.second_left;
      gathered = o ∙ ap (λ (l : List ℕ). placed l s.used out) same;
      counted = u ∙ ap (λ (l : List ℕ). s.used + length l) same;
    }

-- a join that hands back no pair, after which nothing more is gathered
pub joined_none : (first second : List ℕ) (written : Written) (s : Joiner) {v' w' : Venue} {out : List ℕ} (o : Option (Result (Unit {0}) Refusal))
    → Joined first second s.one s.two [] (number_out o) v' w'
    → JoinedOne first second written s (record { one = v'; two = w'; used = s.used; outcome = o }) out out
unfolding placed laid output_of
joined_none first second written s {out = out} o j =
    let none : output_of written (part_at first second s.one s.two) ≡ [] = sym (ap (output_of written) j.handed) ∙ of_none written in
    record {
      answered = j.answered;
      first_left = j.first_left;
      second_left = j.second_left;
      gathered = rw none (sym (take-append-drop s.used out));
      counted = rw none (omega arith);
    }
  where
    of_none : (written : Written) → output_of written [] ≡ []
    of_none Written.Pair = refl
    of_none Written.Quote = refl

-- ---- another turn

module _ (first second : List ℕ) (ended ended' : Bool) (s : Joiner) (room : ℕ) where
  -- where another join is made no refusal was told, and there is room
  pub goes_room : goes_on first second ended ended' s room ≡ true → (answer s ≡ 0) × (s.used + 30 ≤ room)
  unfolding goes_on
  goes_room e =
      let come = enough ended s.one.place (length first) && enough ended' s.two.place (length second) in
      let fits = leb (s.used + 30) room in
      (eqb-true (answer s) 0 (and_left (eqb (answer s) 0) (fits && come) e), leb-true (s.used + 30) room (and_left fits come (and_right (eqb (answer s) 0) (fits && come) e)))

-- ---- the loop

module _ (first second : List ℕ) (written : Written) where
  -- what is left to do: bytes of both tapes, and one answer that is no pair
  abbrev pub left : Joiner → ℕ
  left s = (length first - s.one.place) + (length second - s.two.place) + (1 - answer s)

  module _ {s s' : Joiner} {out out' : List ℕ} (j : JoinedOne first second written s s' out out') where
    abbrev choice : Choice
    choice = (join_at first second s.one s.two).choice

    -- what one join does to the places
    record Moved : Type 0 where
      less : answer s ≡ 0 → left s' < left s
      first_within : s.one.place ≤ length first → s'.one.place ≤ length first
      second_within : s.two.place ≤ length second → s'.two.place ≤ length second

    moved : Moved
    unfolding answer_of
    moved = go choice refl
      where
        at : Venue → ℕ
        at v = v.place

        stays : s'.one ≡ s.one → s'.two ≡ s.two → 1 ≤ answer s' → Moved
        stays e f some =
            let a = ap at e in
            let b = ap at f in
            record { less = λ z. omega arith; first_within = λ h. omega arith; second_within = λ h. omega arith }

        go : (c : Choice) → choice ≡ c → Moved
        go of_first e =
            let t = took_first first second s.one s.two e in
            let a = ap at j.first_left in
            let b = ap at (j.second_left ∙ t.1) in
            let n : answer s' ≡ 0 = j.answered ∙ ap answer_of e in
            record {
              less = λ z. omega (arith, t.0.onward, t.0.inside);
              first_within = λ h. omega (arith, t.0.inside);
              second_within = λ h. omega arith;
            }
        go of_second e =
            let t = took_second first second s.one s.two e in
            let a = ap at j.second_left in
            let b = ap at (j.first_left ∙ t.1) in
            let n : answer s' ≡ 0 = j.answered ∙ ap answer_of e in
            record {
              less = λ z. omega (arith, t.0.onward, t.0.inside);
              first_within = λ h. omega arith;
              second_within = λ h. omega (arith, t.0.inside);
            }
        go at_ends e =
            let r = end_stays first second s.one s.two e in
            stays (j.first_left ∙ r.0) (j.second_left ∙ r.1) (omega (arith, j.answered ∙ ap answer_of e))
        go (refused k) e =
            let r = refusal_stays first second s.one s.two k e in
            stays (j.first_left ∙ r.0) (j.second_left ∙ r.1) (omega (arith, j.answered ∙ ap answer_of e, refusal_numbered first second s.one s.two e))

    pub step_less : answer s ≡ 0 → left s' < left s
    step_less = moved.less

    -- what is written has room
    step_within : s.used + 30 ≤ length out → s'.used ≤ length out
    unfolding output_of
    step_within h = rw j.counted (go written)
      where
        part : List ℕ
        part = part_at first second s.one s.two

        short : length part ≤ 30
        short = part_short first second s.one s.two

        go : (written : Written) → s.used + length (output_of written part) ≤ length out
        go Written.Pair = omega (arith, short)
        go Written.Quote = simp length-drop (omega (arith, short))

-- the joins so far, and what stands then
pub record Piece (first second : List ℕ) (ended ended' : Bool) (written : Written) (s : Joiner) (out : List ℕ) (s' : Joiner) (out' : List ℕ) : Type 0 where
  pub made : Joins first second ended ended' written s out s' out'
  pub within : s'.used ≤ length out'
  pub long : length out' ≡ length out
  pub first_within : s.one.place ≤ length first → s'.one.place ≤ length first
  pub second_within : s.two.place ≤ length second → s'.two.place ≤ length second

module _ (first second : List ℕ) (ended ended' : Bool) (written : Written) where
  pub piece_start : (s : Joiner) (out : List ℕ) → s.used ≤ length out → Piece first second ended ended' written s out s out
  piece_start s out h = record { made = Joins.none; within = h; long = refl; first_within = λ l. l; second_within = λ l. l }

  pub piece_more : {s s' s'' : Joiner} {out out' out'' : List ℕ} → Piece first second ended ended' written s out s' out'
      → goes_on first second ended ended' s' (length out') ≡ true
      → JoinedOne first second written s' s'' out' out'' → length out'' ≡ length out' → Piece first second ended ended' written s out s'' out''
  piece_more {s' = s'} {out' = out'} p g j e =
      let m = moved first second written j in
      let room = goes_room first second ended ended' s' (length out') g in
      record {
        made = Joins.more p.made g j;
        within = rw e (step_within first second written j room.1);
        long = e ∙ p.long;
        first_within = λ h. m.first_within (p.first_within h);
        second_within = λ h. m.second_within (p.second_within h);
      }

  pub piece_all : {s s' : Joiner} {out out' : List ℕ} → Piece first second ended ended' written s out s' out'
      → goes_on first second ended ended' s' (length out') ≡ false
      → PieceJoined first second ended ended' written s out s' out'
  piece_all p e = record { made = p.made; all = e; within = p.within; long = p.long; first_within = p.first_within; second_within = p.second_within }
