-- A first side without quotes cannot win: no position of the last list is its own. Assumes nothing.
use mathlib.Core.Path.{◌≡◌, refl, ◌∙◌}
use mathlib.Core.Bool.{Bool, false, ◌||◌}
use mathlib.Core.List.{List, [], ◌∷◌}
use Prim.Native.Nat.{ℕ, zero, suc, ◌-◌}
use native.Mathlib.Omega.{arith}
use lib.ListN.{length, get_or}
use Rattle.lists.specs.Lists.{any}
use Rattle.lists.proofs.Booleans.{clash, neither, none_left, none_right}
use Rattle.lists.proofs.Filters.{any_append}
use Rattle.lists.proofs.Members.{none_mem}
use Rattle.drill_model.specs.Turns.{Side, First, Second, left, laying, Wins, over, lays, faces, passes, repasses}
use Rattle.drill_model.proofs.Hands.{length_mapped}
use Rattle.drill_model.specs.Drill.{Held, held, no_quote, hand_of, is_first, first_stands, last_list, WinsDrill}

-- some of these quotes is the first side's
abbrev some_first : List Held → Bool
some_first l = any (λ q. is_first q.side) l

-- each of them by its place
none_at_lem : (l : List Held) → some_first l ≡ false → (i : ℕ) → is_first (get_or l i no_quote).side ≡ false
unfolding any is_first
none_at_lem [] e i = refl
none_at_lem (q ∷ l) e zero = none_left (is_first q.side) (some_first l) e
none_at_lem (q ∷ l) e (suc i) = none_at_lem l (none_right (is_first q.side) (some_first l) e) i

none_left_over : (l : List Held) → some_first l ≡ false → (i : ℕ) → some_first (left i l) ≡ false
unfolding any left
none_left_over [] e i = refl
none_left_over (q ∷ l) e zero = none_right (is_first q.side) (some_first l) e
none_left_over (q ∷ l) e (suc i) =
    neither (is_first q.side) (some_first (left i l)) (none_left (is_first q.side) (some_first l) e)
    (none_left_over l (none_right (is_first q.side) (some_first l) e) i)

none_laid : (hand laid : List Held) → some_first hand ≡ false → some_first laid ≡ false → (i : ℕ) → some_first (laying no_quote i hand laid) ≡ false
unfolding laying any
none_laid hand laid e f i =
    rw (any_append (λ (q : Held). is_first q.side) laid (get_or hand i no_quote ∷ []))
    (neither (some_first laid) (is_first (get_or hand i no_quote).side || false) f (neither (is_first (get_or hand i no_quote).side) false (none_at_lem hand e i) refl))

none_held : (quotes : List (List ℕ)) → some_first (hand_of Second quotes) ≡ false
unfolding any hand_of is_first
none_held [] = refl
none_held (x ∷ quotes) = none_held quotes

module _ (d N directions n : ℕ) where
  none_stands : (laid : List Held) → some_first laid ≡ false → first_stands d N directions n laid ≡ false
  unfolding first_stands
  none_stands laid e =
      none_mem (λ p. is_first (get_or laid (p - 1) no_quote).side) (last_list d N directions n laid) (λ p m. none_at_lem laid e (p - 1))

  never : {turn : Side} {first second laid : List Held} → Wins no_quote (first_stands d N directions n) turn first second laid
      → length first ≡ 0 → some_first second ≡ false → some_first laid ≡ false → ⊥
  never (over {laid = laid} e) z s l = clash (first_stands d N directions n laid) e (none_stands laid l)
  never (lays i u w) z s l = omega arith
  never (faces {second = second} {laid = laid} u w) z s l = never (w 0 u) z (none_left_over second s 0) (none_laid second laid s l 0)
  never (passes u w) z s l = never w z s l
  never (repasses u w) z s l = omega arith

  -- with an empty first hand it cannot (02)
  pub empty_loses : (first second : List (List ℕ)) → length first ≡ 0 → WinsDrill d N directions n first second → ⊥
  unfolding hand_of any
  empty_loses first second z w = never w (length_mapped (λ (columns : List ℕ). held First columns) first ∙ z) (none_held second) refl
