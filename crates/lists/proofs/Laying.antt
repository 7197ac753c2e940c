-- Lists laid one behind the other into a lent output: the law of one more, and the invariant of a loop that lays them.
use mathlib.Core.Path.{◌≡◌, refl, sym, ap, ◌∙◌}
use Prim.Native.Nat.{ℕ, suc, ◌+◌, ◌-◌, ◌≤◌, ◌<◌}
use native.Mathlib.Nat.{le_refl, le_antisymm}
use native.Mathlib.Decide.{le_ind}
use native.Mathlib.Numerals.{add-one}
use native.Mathlib.Omega.{arith}
use mathlib.Core.List.{List, [], ◌∷◌, ◌++◌, append_assoc, append-nil}
use lib.ListN.{length, get_or, take, drop, set, length-append, length-set, length-take, length-drop, drop_of_length-le}
use lib.Seq.{take_all, take_at, drop_at, drop-drop, drop-cons, set_at, append_snoc}
use borrow.Rule.Slice.PartMut.{mid_of, put_mid}
use Rattle.lists.specs.Lists.{laid}
use Rattle.lists.proofs.Writing.{length_laid}

-- xs stands at the front of out, which is as it came behind it, and at is the place behind xs
pub record Front (xs entry out : List ℕ) (at : ℕ) : Type 0 where
  pub long : length out ≡ length entry
  pub place : at ≡ length xs
  pub cells : out ≡ laid xs entry

pub front_none : (entry : List ℕ) → Front [] entry entry 0
unfolding laid
front_none entry = record { long = refl; place = refl; cells = refl }

-- xs laid into the whole output
pub front_one : (xs entry : List ℕ) {out : List ℕ} {at : ℕ} → length xs ≤ length entry → at ≡ length xs → out ≡ laid xs entry → Front xs entry out at
front_one xs entry h e p = record { long = ap length p ∙ length_laid xs entry h; place = e; cells = p }

module _ {xs entry out : List ℕ} {at : ℕ} (v : Front xs entry out at) where
  -- where ys fits behind xs, it fits into the rest of the output
  pub front_room : (ys : List ℕ) → length (xs ++ ys) ≤ length entry → at + length ys ≤ length out
  front_room ys h = let n = length-append xs ys in omega arith

  pub front_rest : (ys : List ℕ) → length (xs ++ ys) ≤ length entry → length ys ≤ length (mid_of at (length out - at) out)
  front_rest ys h = simp (length-take, length-drop) (omega (arith, front_room ys h))

  -- x stored just behind xs
  pub front_store : (x : ℕ) → length (xs ++ (x ∷ [])) ≤ length entry → Front (xs ++ (x ∷ [])) entry (set out at x) (at + 1)
  unfolding laid
  front_store x h =
      let fits = front_room (x ∷ []) h in
      let e = v.place in
      record {
        long = length-set out at x ∙ v.long;
        place = rw length-append (omega arith);
        cells = rw (v.cells, ← e, drop-cons entry at 0 (omega arith), set_at xs (get_or entry at 0) (drop (suc at) entry) x at (sym e), length-append, ← e, add-one, append_snoc);
      }

  -- ys laid into the rest of the output, which is then put back
  pub front_more : (ys : List ℕ) {last : List ℕ} {used : ℕ} → length (xs ++ ys) ≤ length entry → used ≡ length ys → last ≡ laid ys (mid_of at (length out - at) out)
      → Front (xs ++ ys) entry (put_mid at (length out - at) out last) (at + used)
  unfolding laid
  front_more ys {last} {used} h u q =
      let fits = front_room ys h in
      let before : take at out ≡ xs = ap (take at) v.cells ∙ take_at xs (drop (length xs) entry) at (sym v.place) in
      let rest : drop at out ≡ drop (length xs) entry = ap (drop at) v.cells ∙ drop_at xs (drop (length xs) entry) at (sym v.place) in
      let enough : length (drop at out) ≤ length out - at = omega (arith, length-drop at out) in
      let all : mid_of at (length out - at) out ≡ drop at out = take_all (length out - at) (drop at out) enough in
      let nothing : drop (length out - at) (drop at out) ≡ [] = drop_of_length-le (drop at out) enough in
      let cells : put_mid at (length out - at) out last ≡ laid (xs ++ ys) entry = rw (before, nothing, append-nil, q, all, rest, drop-drop, ← append_assoc, length-append) in
      record {
        long = ap length cells ∙ length_laid (xs ++ ys) entry h;
        place = rw length-append (omega arith);
        cells = cells;
      }

-- what grows by a piece at a time never gets shorter
pub grows : (whole piece : ℕ → List ℕ) → ((k : ℕ) → whole (k + 1) ≡ whole k ++ piece k) → (i n : ℕ) → i ≤ n → length (whole i) ≤ length (whole n)
grows whole piece e i n h =
    le_ind (λ (k : ℕ). length (whole i) ≤ length (whole k)) (le_refl (length (whole i)))
    (λ k _ q. rw (← add-one, e k, length-append) (omega arith)) n h

-- after i turns of a loop that lays `whole` into an output, a part a turn: what the first i turns lay stands at the front
pub record Laying (whole : ℕ → List ℕ) (turns : ℕ) (entry out : List ℕ) (at i : ℕ) : Type 0 where
  pub within : i ≤ turns
  pub room : length (whole turns) ≤ length entry
  pub front : Front (whole i) entry out at

pub laying_start : (whole : ℕ → List ℕ) (turns : ℕ) (entry : List ℕ) → length (whole turns) ≤ length entry → whole 0 ≡ [] → Laying whole turns entry entry 0 0
laying_start whole turns entry h e = record { within = omega arith; room = h; front = rw e (front_none entry) }

module _ {whole : ℕ → List ℕ} {turns : ℕ} {entry out : List ℕ} {at i : ℕ} (v : Laying whole turns entry out at i) (t : i < turns) where
  -- a turn that lays nothing
  pub laying_pass : whole (i + 1) ≡ whole i → Laying whole turns entry out at (i + 1)
  laying_pass e = record { within = omega arith; room = v.room; front = rw e v.front }

  -- a turn that lays a piece; none is longer than all of them
  module _ (piece : List ℕ) (e : whole (i + 1) ≡ whole i ++ piece) (g : length (whole (i + 1)) ≤ length (whole turns)) where
    fits : length (whole i ++ piece) ≤ length entry
    fits = let r = v.room in rw (← e) (omega arith)

    pub laying_room : at + length piece ≤ length out
    laying_room = front_room v.front piece fits

    pub laying_rest : length piece ≤ length (mid_of at (length out - at) out)
    laying_rest = front_rest v.front piece fits

    -- the piece is one cell, stored
    pub laying_store : (x : ℕ) → piece ≡ x ∷ [] → Laying whole turns entry (set out at x) (at + 1) (i + 1)
    laying_store x q = record { within = omega arith; room = v.room; front = rw (e, q) (front_store v.front x (rw q at fits)) }

    -- the piece is laid into the rest of the output
    pub laying_more : {last : List ℕ} {used : ℕ} → used ≡ length piece → last ≡ laid piece (mid_of at (length out - at) out)
        → Laying whole turns entry (put_mid at (length out - at) out last) (at + used) (i + 1)
    laying_more u q = record { within = omega arith; room = v.room; front = rw e (front_more v.front piece fits u q) }

pub laying_all : {whole : ℕ → List ℕ} {turns : ℕ} {entry out : List ℕ} {at i : ℕ} → Laying whole turns entry out at i → turns ≤ i
    → (at ≡ length (whole turns)) × (out ≡ laid (whole turns) entry)
laying_all v h = let e = le_antisymm h v.within in rw e (v.front.place, v.front.cells)
