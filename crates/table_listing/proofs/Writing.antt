-- A loop that writes the positions it picks, each as cells, one behind the other: its invariant and its turns.
use mathlib.Core.Path.{◌≡◌, refl, sym, ap, ◌∙◌}
use Prim.Native.Nat.{ℕ, ◌+◌, ◌-◌, ◌≤◌, ◌<◌}
use native.Mathlib.Omega.{arith}
use mathlib.Core.Bool.{Bool, true, false}
use mathlib.Core.List.{List, [], ◌∷◌, ◌++◌, map, append-nil, append_assoc}
use lib.ListN.{length, set, length-append}
use borrow.Rule.Slice.PartMut.{mid_of, put_mid}
use Rattle.lists.specs.Lists.{keep, flat, laid}
use Rattle.lists.proofs.Filters.{flat_append, map-append}
use Rattle.lists.proofs.Laying.{front_store, grows, Laying, laying_start, laying_pass, laying_room, laying_store, laying_more, laying_all}
use Rattle.table_listing.specs.Picked.{picked}
use Rattle.table_listing.proofs.Picking.{picked_none, picked_more, picked_took, picked_passed}

module _ (encode : ℕ → List ℕ) where
  -- the cells of these positions
  abbrev pub cells : List ℕ → List ℕ
  cells l = flat (map encode l)

  pub cells_append : (l m : List ℕ) → cells (l ++ m) ≡ cells l ++ cells m
  cells_append l m = ap flat (map-append encode l m) ∙ flat_append (map encode l) (map encode m)

  cells_one : (p : ℕ) → cells (p ∷ []) ≡ encode p
  unfolding flat
  cells_one p = append-nil (encode p)

-- a position as one cell
abbrev pub one : ℕ → List ℕ
one p = p ∷ []

pub cells_same : (l : List ℕ) → cells one l ≡ l
unfolding flat
cells_same [] = refl
cells_same (p ∷ l) = ap (λ (r : List ℕ). p ∷ r) (cells_same l)

cells_more : (encode : ℕ → List ℕ) (test : ℕ → Bool) (first i : ℕ)
    → cells encode (picked test first (i + 1)) ≡ cells encode (picked test first i) ++ cells encode (keep (test i) (first + i) [])
cells_more encode test first i = rw (picked_more, cells_append)

-- the positions picked at the places below i stand as cells at the front of the output
pub record Writing (encode : ℕ → List ℕ) (test : ℕ → Bool) (first count : ℕ) (entry out : List ℕ) (at i : ℕ) : Type 0 where
  pub laying : Laying (λ k. cells encode (picked test first k)) count entry out at i

pub writing_start : (encode : ℕ → List ℕ) (test : ℕ → Bool) (first count : ℕ) (entry : List ℕ)
    → length (cells encode (picked test first count)) ≤ length entry → Writing encode test first count entry entry 0 0
unfolding flat
writing_start encode test first count entry h =
    record { laying = laying_start (λ k. cells encode (picked test first k)) count entry h (rw (picked_none test first)) }

module _ {encode : ℕ → List ℕ} {test : ℕ → Bool} {first count : ℕ} {entry out : List ℕ} {at i : ℕ} {b : Bool}
    (v : Writing encode test first count entry out at i) (h : i < count) (e : b ≡ test i) where
  abbrev next : List ℕ
  next = encode (first + i)

  took : b ≡ true → cells encode (picked test first (i + 1)) ≡ cells encode (picked test first i) ++ next
  took t =
      ap (cells encode) (picked_took test first i (sym e ∙ t))
      ∙ cells_append encode (picked test first i) ((first + i) ∷ [])
      ∙ ap (λ (r : List ℕ). cells encode (picked test first i) ++ r) (cells_one encode (first + i))

  grown : length (cells encode (picked test first (i + 1))) ≤ length (cells encode (picked test first count))
  grown =
      grows (λ k. cells encode (picked test first k)) (λ k. cells encode (keep (test k) (first + k) [])) (cells_more encode test first) (i + 1) count
      (omega arith)

  -- where the position at i is picked, there is room for its cells
  pub writing_fits : b ≡ true → at + length next ≤ length out
  writing_fits t = laying_room v.laying h next (took t) grown

  -- the turn of a position that is not picked
  pub writing_pass : b ≡ false → Writing encode test first count entry out at (i + 1)
  writing_pass t = record { laying = laying_pass v.laying h (ap (cells encode) (picked_passed test first i (sym e ∙ t))) }

  -- the turn of a position that is one cell, stored
  pub writing_store : (x : ℕ) → next ≡ x ∷ [] → b ≡ true → Writing encode test first count entry (set out at x) (at + 1) (i + 1)
  writing_store x s t = record { laying = laying_store v.laying h next (took t) grown x s }

  -- the turn of a position that is two cells, stored
  pub writing_two : (x y : ℕ) → next ≡ x ∷ y ∷ [] → b ≡ true → Writing encode test first count entry (set (set out at x) (at + 1) y) (at + 2) (i + 1)
  writing_two x y s t =
      let before = cells encode (picked test first i) in
      let whole : cells encode (picked test first (i + 1)) ≡ (before ++ (x ∷ [])) ++ (y ∷ []) = took t ∙ ap (λ (r : List ℕ). before ++ r) s ∙ sym (append_assoc before (x ∷ []) (y ∷ [])) in
      let room = v.laying.room in
      let all : length ((before ++ (x ∷ [])) ++ (y ∷ [])) ≤ length entry = rw (← whole) (omega (arith, grown)) in
      let one = front_store v.laying.front x (omega (arith, all, length-append (before ++ (x ∷ [])) (y ∷ []))) in
      let place : at + 1 + 1 ≡ at + 2 = omega arith in
      record { laying = record { within = omega arith; room = room; front = rw (whole, ← place) (front_store one y all) } }

  -- the turn of a position whose cells are laid into the rest of the output
  pub writing_more : {last : List ℕ} {used : ℕ} → used ≡ length next → last ≡ laid next (mid_of at (length out - at) out) → b ≡ true
      → Writing encode test first count entry (put_mid at (length out - at) out last) (at + used) (i + 1)
  writing_more u l t = record { laying = laying_more v.laying h next (took t) grown u l }

pub writing_all : {encode : ℕ → List ℕ} {test : ℕ → Bool} {first count : ℕ} {entry out : List ℕ} {at i : ℕ}
    → Writing encode test first count entry out at i → count ≤ i
    → (at ≡ length (cells encode (picked test first count))) × (out ≡ laid (cells encode (picked test first count)) entry)
writing_all v h = laying_all v.laying h

-- turns that pick nothing
pub writing_skip : {encode : ℕ → List ℕ} {test : ℕ → Bool} {first count : ℕ} {entry out : List ℕ} {at i : ℕ} → Writing encode test first count entry out at i
    → (j : ℕ) → j ≤ count → picked test first j ≡ picked test first i → Writing encode test first count entry out at j
writing_skip {encode} v j h e =
    record { laying = record { within = h; room = v.laying.room; front = rw e v.laying.front } }
