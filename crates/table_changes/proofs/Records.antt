-- Laws of watch records that are not torn: each is empty or its n is from 1 to N, and those past the eighth do not matter.
use mathlib.Core.Path.{◌≡◌, refl}
use Prim.Native.Nat.{ℕ, zero, suc, ◌<◌}
use native.Mathlib.Omega.{arith}
use mathlib.Core.Bool.{Bool, true, false, ◌&&◌, not, cond}
use mathlib.Core.List.{List, [], ◌∷◌}
use lib.Dec.{ltb, leb, eqb}
use lib.ListN.{get_or, take}
use lib.Seq.{get_or-take}
use borrow.Author.Tests.{ltb-false, eqb-true, not-true, not-false}
use Rattle.lists.specs.Lists.{any}
use Rattle.lists.proofs.Booleans.{and_left, and_right, none_left, none_right}
use Rattle.head.specs.Desks.{size_in}
use Rattle.model.specs.Shares.{above_shares}
use Rattle.model.specs.Book.{is_watch, ordered, standing, torn_watches}
use Rattle.model.proofs.Desks.{watch_parts}
use Rattle.table_changes.specs.Watches.{Sized}

none_above : (ws : List ℕ) (i : ℕ) → any (ltb 0) ws ≡ false → get_or ws i 0 ≡ 0
unfolding any
none_above [] i e = refl
none_above (w ∷ ws) zero e = omega (arith, ltb-false 0 w (none_left (ltb 0 w) (any (ltb 0) ws) e))
none_above (w ∷ ws) (suc i) e = none_above ws i (none_right (ltb 0 w) (any (ltb 0) ws) e)

-- the n of a record that is a watch is from 1 to N
watch_sized : (N w : ℕ) → is_watch N w ≡ true → Sized N w
watch_sized N w e = let p = watch_parts N w e in record { least = λ _. p.some_size; most = p.most_size }

-- an empty record is none
empty_sized : (N w : ℕ) → w ≡ 0 → Sized N w
unfolding size_in
empty_sized N w e = rw e record { least = λ h. absurd (omega arith); most = omega arith }

ordered_sized : (lo N : ℕ) (ws : List ℕ) (i : ℕ) → ordered lo N ws ≡ true → Sized N (get_or ws i 0)
unfolding ordered
ordered_sized lo N [] i e = empty_sized N 0 refl
ordered_sized lo N (w ∷ ws) i e = go (eqb w 0) refl e i (λ f j. ordered_sized (suc w) N ws j f)
  where
    go : (b : Bool) → eqb w 0 ≡ b → cond b (not (any (ltb 0) ws)) (leb lo w && is_watch N w && ordered (suc w) N ws) ≡ true → (i : ℕ)
        → (ordered (suc w) N ws ≡ true → (j : ℕ) → Sized N (get_or ws j 0)) → Sized N (get_or (w ∷ ws) i 0)
    go true q f zero r = empty_sized N w (eqb-true w 0 q)
    go true q f (suc j) r = empty_sized N (get_or ws j 0) (none_above ws j (not-true (any (ltb 0) ws) f))
    go false q f zero r = watch_sized N w (and_right (leb lo w) (is_watch N w) (and_left (leb lo w && is_watch N w) (ordered (suc w) N ws) f))
    go false q f (suc j) r = r (and_right (leb lo w && is_watch N w) (ordered (suc w) N ws) f) j

-- each record is empty, or its n is from 1 to N
pub watches_sized : (N : ℕ) (ws : List ℕ) → torn_watches N ws ≡ false → (i : ℕ) → Sized N (get_or (take 8 ws) i 0)
unfolding torn_watches
watches_sized N ws e i =
    ordered_sized 1 N (take 8 ws) i (not-false (ordered 1 N (take 8 ws)) (none_left (not (ordered 1 N (take 8 ws))) (ltb 2 (above_shares (standing ws))) e))

pub watch_at : (N : ℕ) (ws : List ℕ) (i : ℕ) → torn_watches N ws ≡ false → i < 8 → Sized N (get_or ws i 0)
watch_at N ws i e h = rw (← get_or-take 8 ws i 0 h) (watches_sized N ws e i)
