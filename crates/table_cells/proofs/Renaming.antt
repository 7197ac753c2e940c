-- Turns of the loop that zeros the cells that name the expired position, and the gathering of cells renamed so.
use mathlib.Core.Path.{◌≡◌, refl, sym, ap, ◌∙◌}
use Prim.Native.Nat.{ℕ, ◌+◌, ◌≤◌, ◌<◌}
use native.Mathlib.Omega.{arith}
use mathlib.Core.Bool.{Bool, true, false, cond}
use mathlib.Core.List.{List, [], ◌∷◌, ◌++◌, map, append-nil}
use lib.Dec.{eqb}
use lib.ListN.{length, get_or, set, take, drop, length-map, length-take, length-drop, length-append, take-append-drop}
use lib.Seq.{take_all}
use borrow.Author.Tests.{eqb-true}
use Rattle.std.proofs.lemmas.List.{drop_all, get_or_default}
use Rattle.std.proofs.lemmas.List.Edits.{map_over_more}
use Rattle.model.specs.Rows.{renamed}

renamed_none : (lower : ℕ) → renamed 0 lower ≡ lower
unfolding renamed
renamed_none lower = go (eqb lower 0) (eqb-true lower 0)
  where
    go : (b : Bool) → (b ≡ true → lower ≡ 0) → cond b 0 lower ≡ lower
    go true e = sym (e refl)
    go false e = refl

-- where nothing expired no cell is renamed
pub renamed_none_all : (l : List ℕ) → map (renamed 0) l ≡ l
renamed_none_all [] = refl
renamed_none_all (y ∷ ys) = rw (renamed_none y, renamed_none_all ys)

pub none_renamed : (count : ℕ) (before : List ℕ) {gone : ℕ} → gone ≡ 0 → before ≡ map (renamed gone) (take count before) ++ drop count before
none_renamed count before e = sym (rw (e, renamed_none_all) (take-append-drop count before))

module _ (gone : ℕ) (before after : List ℕ) (i : ℕ) where
  -- one cell more
  pub renamed_more : i < length before → after ≡ map (renamed gone) (take i before) ++ drop i before → (x : ℕ) → x ≡ renamed gone (get_or after i 0)
      → set after i x ≡ map (renamed gone) (take (i + 1) before) ++ drop (i + 1) before
  renamed_more h e x f =
      let long : length after ≡ length before = ap length e ∙ simp (length-append, length-map, length-take, length-drop) (omega arith) in
      rw f (map_over_more (renamed gone) before after i (get_or after i 0) h e (get_or_default after i 0 (get_or after i 0) (omega arith)))

  -- all of them
  pub all_renamed : length before ≤ i → after ≡ map (renamed gone) (take i before) ++ drop i before → (rest : List ℕ)
      → after ++ rest ≡ map (renamed gone) before ++ rest
  all_renamed h e rest = ap (λ (l : List ℕ). l ++ rest) (rw (take_all i before h, drop_all i before h, append-nil) at e)
