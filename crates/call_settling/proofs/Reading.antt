-- Laws of tables read from a place on: their rows, and cells that a number was stored over.
use mathlib.Core.Path.{◌≡◌, refl, sym, ap, ◌∙◌}
use mathlib.Core.Logic.{◌⊎◌, inl, inr}
use Prim.Native.Nat.{ℕ, zero, suc, ◌+◌, ◌*◌, ◌<◌}
use native.Mathlib.Nat.{zero-add, zero-mul, suc-mul, add_comm}
use mathlib.Core.Bool.{Bool, true, false, ◌||◌, cond}
use mathlib.Core.List.{List, [], ◌∷◌, ◌++◌, map}
use lib.Dec.{eqb}
use lib.ListN.{length, get_or, set, take, drop, length-set}
use lib.Seq.{drop-drop, take-add, get_or-set_same, get_or-set_other}
use borrow.Author.Tests.{eqb-true, eqb-false}
use Rattle.lists.specs.Lists.{any, contains, run, flat}
use Rattle.lists.proofs.Booleans.{either}
use Rattle.lists.proofs.Runs.{get_or_run}
use Rattle.table_cells.specs.Marked.{marked}

-- k rows of d cells from place a on are one part of the table
pub rows_part : (d : ℕ) (cells : List ℕ) (a k : ℕ) → flat (map (λ i. take d (drop (i * d) cells)) (run a k)) ≡ take (k * d) (drop (a * d) cells)
unfolding flat run
rows_part d cells a zero = rw zero-mul
rows_part d cells a (suc k) =
    let next : suc a * d ≡ a * d + d = suc-mul a d in
    let more : suc k * d ≡ d + k * d = suc-mul k d ∙ add_comm (k * d) d in
    let rest : drop (suc a * d) cells ≡ drop d (drop (a * d) cells) = ap (λ (n : ℕ). drop n cells) next ∙ sym (drop-drop d (a * d) cells) in
    ap (λ (l : List ℕ). take d (drop (a * d) cells) ++ l) (rows_part d cells (suc a) k ∙ ap (take (k * d)) rest)
    ∙ sym (ap (λ (n : ℕ). take n (drop (a * d) cells)) more ∙ take-add d (k * d) (drop (a * d) cells))

-- what two runs of places map to agrees at each place
pub run_at : {A : Type 0} (f g : ℕ → A) (n a k i : ℕ) → map f (run 0 n) ≡ map g (run a k) → i < n → i < k → f i ≡ g (a + i)
run_at {A} f g n a k i e h l =
    ap f (sym (zero-add i)) ∙ sym (get_or_run f (f i) 0 n i h) ∙ ap (λ (r : List A). get_or r i (f i)) e ∙ get_or_run g (f i) a k i l

-- the cell at a place once a number was stored at listed places
pub get_or_marked : (ps : List ℕ) (x : ℕ) (cells : List ℕ) (i : ℕ) → i < length cells → get_or (marked ps x cells) i 0 ≡ cond (contains i ps) x (get_or cells i 0)
unfolding marked contains any
get_or_marked [] x cells i h = refl
get_or_marked (p ∷ ps) x cells i h = get_or_marked ps x (set cells p x) i (rw length-set h) ∙ go (contains i ps) (either (eqb i p))
  where
    go : (b : Bool) → (eqb i p ≡ true) ⊎ (eqb i p ≡ false) → cond b x (get_or (set cells p x) i 0) ≡ cond (eqb i p || b) x (get_or cells i 0)
    go true (inl e) = rw e
    go true (inr e) = rw e
    go false (inl e) = rw e (rw (eqb-true i p e) (get_or-set_same cells p x 0 (rw (← eqb-true i p e) h)))
    go false (inr e) = rw e (get_or-set_other cells p i x 0 (eqb-false i p e))
