-- A join of what has come of two tapes is the join of the tapes, where what is judged has come.
use mathlib.Core.Path.{◌≡◌, refl, sym, ap, ap₂, ◌∙◌}
use mathlib.Core.Logic.{◌⊎◌, inl, inr}
use Prim.Native.Nat.{ℕ, ◌+◌, ◌-◌, ◌≤◌}
use native.Mathlib.Nat.{add_assoc}
use native.Mathlib.Omega.{arith}
use mathlib.Core.Bool.{Bool, true}
use mathlib.Core.List.{List, ◌++◌, append-nil}
use lib.Dec.{leb}
use lib.ListN.{length, take, drop, length-append, length-drop}
use lib.Seq.{take-append-le, drop-append-le, drop-append-add}
use borrow.Author.Tests.{leb-true}
use Rattle.lists.proofs.Booleans.{or_cases}
use Rattle.venue_tapes.specs.VenueTapes.{Ahead, pair, done, refuses, next, further}
use Rattle.venue_tapes.proofs.Local.{next_local}
use Rattle.venue_join.specs.declared.Venue.{Venue}
use Rattle.venue_join.specs.Join.{Choice, of_first, of_second, at_ends, refused, chosen, moved, Joint, joint_by, joint_of, join_at, passed, part_by, part_at}
use Rattle.venue_join.proofs.Joins.{took_first, took_second}
use Rattle.venue_pieces.specs.Pieces.{enough, Came, onward, joint_onward}

-- ---- one tape

further_twice : (n m : ℕ) (a : Ahead) → further (n + m) a ≡ further n (further m a)
unfolding further
further_twice n m (pair ms behind) = ap (pair ms) (add_assoc n m behind)
further_twice n m done = refl
further_twice n m (refuses k) = refl

module _ {tape : List ℕ} {n : ℕ} {piece : List ℕ} {ended : Bool} (c : Came tape n piece ended) (place : ℕ) (h : place ≤ length piece) where
  -- what stands in the tape from there on
  tape_drop : drop (n + place) tape ≡ drop place piece ++ c.rest
  tape_drop =
      ap₂ (λ (k : ℕ) (l : List ℕ). drop (k + place) l) (sym c.count) c.whole
      ∙ drop-append-add c.before (piece ++ c.rest) place
      ∙ drop-append-le place piece c.rest h

  -- what is judged of the tape is what is judged of the piece
  next_in_piece : enough ended place (length piece) ≡ true → (last : ℕ) → next tape (n + place) last ≡ further n (next piece place last)
  unfolding enough
  next_in_piece e last =
      next_local tape (n + place) last inside
      ∙ ap (λ (l : List ℕ). further (n + place) (next l 0 last)) (ap (take 30) tape_drop ∙ same (or_cases ended (leb (place + 30) (length piece)) e))
      ∙ further_twice n place (next (take 30 (drop place piece)) 0 last)
      ∙ ap (further n) (sym (next_local piece place last h))
    where
      inside : n + place ≤ length tape
      inside = omega (arith, ap length c.whole, length-append c.before (piece ++ c.rest), length-append piece c.rest, c.count)

      same : (ended ≡ true) ⊎ (leb (place + 30) (length piece) ≡ true) → take 30 (drop place piece ++ c.rest) ≡ take 30 (drop place piece)
      same (inl t) = ap (take 30) (ap (λ (l : List ℕ). drop place piece ++ l) (c.over t) ∙ append-nil (drop place piece))
      same (inr t) = take-append-le 30 (drop place piece) c.rest (rw length-drop (omega (arith, leb-true (place + 30) (length piece) t)))

  -- the part that is passed
  part_in_piece : (after : ℕ) → place ≤ after → after ≤ length piece
      → take (n + after - (n + place)) (drop (n + place) tape) ≡ take (after - place) (drop place piece)
  part_in_piece after l u =
      let size : n + after - (n + place) ≡ after - place = omega arith in
      ap₂ (λ (k : ℕ) (x : List ℕ). take k x) size tape_drop ∙ take-append-le (after - place) (drop place piece) c.rest (rw length-drop (omega arith))

-- ---- both

module _ (n m : ℕ) where
  chosen_onward : (a b : Ahead) → chosen (further n a) (further m b) ≡ chosen a b
  unfolding chosen further
  chosen_onward (refuses k) b = refl
  chosen_onward done (refuses k) = refl
  chosen_onward done done = refl
  chosen_onward done (pair ms behind) = refl
  chosen_onward (pair ms behind) (refuses k) = refl
  chosen_onward (pair ms behind) done = refl
  chosen_onward (pair ms behind) (pair x y) = refl

  moved_onward : (k : ℕ) (v : Venue) (a : Ahead) → moved (onward k v) (further k a) ≡ onward k (moved v a)
  unfolding moved further
  moved_onward k v (pair ms behind) = refl
  moved_onward k v done = refl
  moved_onward k v (refuses x) = refl

  joint_onward_lem : (a b : Ahead) (v w : Venue) → joint_of (further n a) (further m b) (onward n v) (onward m w) ≡ joint_onward n m (joint_of a b v w)
  unfolding joint_of joint_by
  joint_onward_lem a b v w = ap (λ (c : Choice). joint_by c (further n a) (further m b) (onward n v) (onward m w)) (chosen_onward a b) ∙ go (chosen a b)
    where
      go : (c : Choice) → joint_by c (further n a) (further m b) (onward n v) (onward m w) ≡ joint_onward n m (joint_by c a b v w)
      go of_first = ap (λ (x : Venue). record { choice = of_first; first = x; second = onward m w }) (moved_onward n v a)
      go of_second = ap (λ (x : Venue). record { choice = of_second; first = onward n v; second = x }) (moved_onward m w b)
      go at_ends = refl
      go (refused k) = refl

-- a join of what has come is the join of the tapes: its answer, where both tapes stand after it, and its part
pub record SameJoin (first second piece piece' : List ℕ) (n m : ℕ) (v w : Venue) : Type 0 where
  pub joint : join_at first second (onward n v) (onward m w) ≡ joint_onward n m (join_at piece piece' v w)
  pub part : part_at first second (onward n v) (onward m w) ≡ part_at piece piece' v w

module _ {first second piece piece' : List ℕ} {n m : ℕ} {ended ended' : Bool} (c : Came first n piece ended) (d : Came second m piece' ended') (v w : Venue) where
  pub joined_in_pieces : v.place ≤ length piece → w.place ≤ length piece' → enough ended v.place (length piece) ≡ true
      → enough ended' w.place (length piece') ≡ true
      → SameJoin first second piece piece' n m v w
  unfolding join_at part_at part_by passed
  joined_in_pieces h k e f =
      record { joint = same; part = ap (λ (j : Joint). part_by j.choice first second (onward n v) (onward m w) j) same ∙ go (join_at piece piece' v w).choice refl }
    where
      same : join_at first second (onward n v) (onward m w) ≡ joint_onward n m (join_at piece piece' v w)
      same =
          ap₂ (λ (a b : Ahead). joint_of a b (onward n v) (onward m w)) (next_in_piece c v.place h e v.last) (next_in_piece d w.place k f w.last)
          ∙ joint_onward_lem n m (next piece v.place v.last) (next piece' w.place w.last) v w

      go : (x : Choice) → (join_at piece piece' v w).choice ≡ x
          → part_by x first second (onward n v) (onward m w) (joint_onward n m (join_at piece piece' v w)) ≡ part_by x piece piece' v w (join_at piece piece' v w)
      go of_first q =
          let t = (took_first piece piece' v w q).0 in
          part_in_piece c v.place h (join_at piece piece' v w).first.place (omega (arith, t.onward)) t.inside
      go of_second q =
          let t = (took_second piece piece' v w q).0 in
          part_in_piece d w.place k (join_at piece piece' v w).second.place (omega (arith, t.onward)) t.inside
      go at_ends q = refl
      go (refused x) q = refl
