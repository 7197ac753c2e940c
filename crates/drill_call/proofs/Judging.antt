-- The refusals of the drill: the pass over a hand's column counts, and the judgement test by test. Assumes nothing.
use mathlib.Core.Path.{◌≡◌, refl, sym, ap, ◌∙◌}
use mathlib.Core.Bool.{Bool, true, false, ◌||◌, not}
use mathlib.Core.List.{List, [], ◌∷◌}
use Prim.Native.Nat.{ℕ, zero, suc, ◌≤◌}
use native.Mathlib.Omega.{arith}
use lib.Dec.{ltb, eqb}
use lib.ListN.{length, get_or, take}
use borrow.Author.Tests.{not-false, ltb-false}
use Rattle.lists.specs.Lists.{any, run}
use Rattle.lists.proofs.Booleans.{none_left, none_right}
use Rattle.head.specs.declared.Head.{Head}
use Rattle.head.specs.Heads.{fresh_head, settings_hold}
use Rattle.head.proofs.Settings.{settings_within}
use Rattle.refusals.specs.Refusals.{first_of}
use Rattle.refusals.proofs.Numbers.{zero_passed}
use Rattle.drill_turns.specs.declared.game.Rules.{Rules}
use Rattle.std.specs.List.{list_any}
use Rattle.drill_turns.proofs.LastList.{any_shifted}
use Rattle.drill_call.specs.declared.Hand.{Hand}
use Rattle.drill_call.specs.Drills.{uneven, refusals, Small}

-- some of the first n elements passes the test
any_by_place : (f : ℕ → Bool) (l : List ℕ) (n : ℕ) → n ≤ length l → list_any f (take n l) ≡ any (λ i. f (get_or l i 0)) (run 0 n)
unfolding any run
any_by_place f l zero h = refl
any_by_place f [] (suc n) h = absurd (omega arith)
any_by_place f (x ∷ l) (suc n) h =
    ap (λ (b : Bool). f x || b) (any_by_place f l n (omega arith) ∙ sym (any_shifted (λ i. f (get_or (x ∷ l) i 0)) 0 n))

pub uneven_is : (d : ℕ) (h : Hand) → h.count ≤ length h.columns → list_any (λ x. not (eqb x d)) (take h.count h.columns) ≡ uneven d h
unfolding uneven
uneven_is d h u = any_by_place (λ x. not (eqb x d)) h.columns h.count u

module _ (rules : Rules) (first second : Hand) where
  abbrev holds : Bool
  holds = settings_hold rules.dimensions rules.capacity rules.directions

  abbrev large : Bool
  large = ltb 4 first.count || ltb 4 second.count || ltb 8 rules.capacity

  abbrev odd : Bool
  odd = uneven rules.dimensions first || uneven rules.dimensions second

  abbrev out : Bool
  out = ltb rules.n 1 || ltb rules.capacity rules.n

  abbrev answer : ℕ
  answer = first_of (refusals rules first second)

  -- the settings as a fresh head has them
  pub by_head : {h : Head} {b : Bool} → h ≡ fresh_head rules.dimensions rules.capacity rules.directions
      → b ≡ settings_hold h.dimensions h.capacity h.directions → b ≡ holds
  by_head {h} e f = f ∙ ap (λ (x : Head). settings_hold x.dimensions x.capacity x.directions) e

  -- hands that are not too large for 19
  pub few_first : large ≡ false → first.count ≤ 4
  few_first l = ltb-false 4 first.count (none_left (ltb 4 first.count) (ltb 4 second.count) (none_left _ (ltb 8 rules.capacity) l))

  pub few_second : large ≡ false → second.count ≤ 4
  few_second l = ltb-false 4 second.count (none_right (ltb 4 first.count) (ltb 4 second.count) (none_left _ (ltb 8 rules.capacity) l))

  -- what is accepted is small
  pub accepted_small : answer ≡ 0 → Small rules first second
  unfolding refusals
  accepted_small e =
      let one = zero_passed _ _ _ e in
      let two = zero_passed _ _ _ one.1 in
      let hold : holds ≡ true = not-false holds one.0 in
      record {
        narrow = (settings_within rules.dimensions rules.capacity rules.directions hold).bounded_columns;
        firsts = few_first two.0;
        seconds = few_second two.0;
      }
