-- The watches of a book as the models keep them: rising, each a desk's watch of an n from 1 to N, and within the desks' shares; so at
-- most eight.
use mathlib.Core.Path.{◌≡◌, refl, sym, ◌∙◌}
use mathlib.Core.Logic.{◌⊎◌, inl, inr}
use Prim.Native.Nat.{ℕ, ◌+◌, ◌-◌, ◌≤◌, ◌<◌, zero-le}
use native.Mathlib.Omega.{arith}
use mathlib.Core.Bool.{Bool, true, false, ◌&&◌, cond}
use mathlib.Core.List.{List, [], ◌∷◌}
use lib.Dec.{ltb, leb, eqb}
use lib.ListN.{length}
use borrow.Author.Tests.{leb-false, eqb-true, eq-eqb}
use Rattle.lists.specs.Lists.{keep, filter, any, contains, rising, insert}
use Rattle.lists.proofs.Booleans.{clash, and_left, or_cases, or_left, or_right}
use Rattle.lists.proofs.Filters.{filter_filter, length_filter}
use Rattle.lists.proofs.Members.{filter_same_mem, contains_filter}
use Rattle.lists.proofs.Rising.{rising_filter, contains_insert, rising_insert}
use Rattle.head.specs.declared.Desk.{Desk}
use Rattle.head.specs.declared.Desk.TheVariants.{One, Two}
use Rattle.head.specs.Desks.{desk_unit, desk_in, watch_of}
use Rattle.model.specs.Shares.{of_desk, count_of, above_shares, desk_full}
use Rattle.model.specs.Book.{is_watch}
use Rattle.model.proofs.Desks.{watch_own, watch_other, watch_is, watch_range, watch_desk, highest}

-- the watches of a book of N
pub record Records (N : ℕ) (ws : List ℕ) : Type 0 where
  pub risen : rising 1 highest ws ≡ true
  pub each : (w : ℕ) → contains w ws ≡ true → is_watch N w ≡ true
  pub shares : above_shares ws ≤ 2

-- none
pub no_records : (N : ℕ) → Records N []
unfolding rising contains any above_shares count_of filter
no_records N = record { risen = refl; each = λ w e. absurd (clash false e refl); shares = zero-le }

-- ---- counts

length_keep : (b : Bool) (w : ℕ) (l : List ℕ) → length (keep b w l) ≡ cond b 1 0 + length l
length_keep true w l = omega arith
length_keep false w l = omega arith

-- one watch more
count_insert : (desk : Desk) (w : ℕ) (ws : List ℕ) → count_of desk (insert w ws) ≡ cond (of_desk desk w) 1 0 + count_of desk ws
unfolding count_of filter insert
count_insert desk w [] = length_keep (of_desk desk w) w []
count_insert desk w (v ∷ vs) = go (ltb w v) (count_insert desk w vs)
  where
    own : List ℕ → List ℕ
    own = filter (of_desk desk)

    go : (b : Bool) → length (own (insert w vs)) ≡ cond (of_desk desk w) 1 0 + length (own vs)
        → length (own (cond b (w ∷ v ∷ vs) (v ∷ insert w vs))) ≡ cond (of_desk desk w) 1 0 + length (own (v ∷ vs))
    go true e = length_keep (of_desk desk w) w (own (v ∷ vs))
    go false e = omega (arith, length_keep (of_desk desk v) v (own (insert w vs)), length_keep (of_desk desk v) v (own vs))

-- two tests, one after the other
pub filter_swap : (f g : ℕ → Bool) (l : List ℕ) → filter f (filter g l) ≡ filter g (filter f l)
filter_swap f g l =
    filter_filter f g l ∙ filter_same_mem (λ x. g x && f x) (λ x. f x && g x) l (λ x m. swapped (g x) (f x)) ∙ sym (filter_filter g f l)
  where
    swapped : (a b : Bool) → a && b ≡ b && a
    swapped true true = refl
    swapped true false = refl
    swapped false true = refl
    swapped false false = refl

-- some watches fewer
count_filter : (desk : Desk) (f : ℕ → Bool) (ws : List ℕ) → count_of desk (filter f ws) ≤ count_of desk ws
unfolding count_of
count_filter desk f ws = rw (filter_swap (of_desk desk) f ws) (length_filter f (filter (of_desk desk) ws))

-- each watch is a desk's
pub count_both : (N : ℕ) (ws : List ℕ) → ((w : ℕ) → contains w ws ≡ true → is_watch N w ≡ true) → count_of One ws + count_of Two ws ≡ length ws
unfolding count_of filter contains any of_desk
count_both N [] each = refl
count_both N (w ∷ ws) each =
    omega (
      arith,
      length_keep (of_desk One w) w (filter (of_desk One) ws),
      length_keep (of_desk Two w) w (filter (of_desk Two) ws),
      one (watch_desk N w (each w (or_left (eqb w w) (contains w ws) (eq-eqb w w refl)))),
      count_both N ws (λ v e. each v (or_right (eqb v w) (contains v ws) e)),
    )
  where
    one : (desk_in w ≡ 1) ⊎ (desk_in w ≡ 2) → cond (of_desk One w) 1 0 + cond (of_desk Two w) 1 0 ≡ 1
    one (inl e) = rw e
    one (inr e) = rw e

-- a desk that is not full has fewer than 3, or less than 2 is above the shares
pub not_full : (desk : Desk) (ws : List ℕ) → desk_full desk ws ≡ false → (count_of desk ws < 3) ⊎ (above_shares ws < 2)
unfolding desk_full
not_full desk ws e = go (leb 3 (count_of desk ws)) refl e
  where
    go : (b : Bool) → leb 3 (count_of desk ws) ≡ b → b && leb 2 (above_shares ws) ≡ false → (count_of desk ws < 3) ⊎ (above_shares ws < 2)
    go true t e = inr (leb-false 2 (above_shares ws) e)
    go false t e = inl (leb-false 3 (count_of desk ws) t)

-- a watch more of a desk that is not full is within the shares
shares_insert : (desk : Desk) (n : ℕ) (ws : List ℕ) → n < desk_unit → desk_full desk ws ≡ false → above_shares ws ≤ 2
    → above_shares (insert (watch_of desk n) ws) ≤ 2
unfolding above_shares
shares_insert One n ws small e h =
    rw (count_insert One (watch_of One n) ws, count_insert Two (watch_of One n) ws, watch_own One n small, watch_other One n small Two refl)
    (go (not_full One ws e))
  where
    go : (count_of One ws < 3) ⊎ (above_shares ws < 2) → (1 + count_of One ws - 3) + (0 + count_of Two ws - 3) ≤ 2
    go (inl a) = omega arith
    go (inr a) = omega arith
shares_insert Two n ws small e h =
    rw (count_insert One (watch_of Two n) ws, count_insert Two (watch_of Two n) ws, watch_own Two n small, watch_other Two n small One refl)
    (go (not_full Two ws e))
  where
    go : (count_of Two ws < 3) ⊎ (above_shares ws < 2) → (0 + count_of One ws - 3) + (1 + count_of Two ws - 3) ≤ 2
    go (inl a) = omega arith
    go (inr a) = omega arith

-- ---- the watches of a book

module _ {N : ℕ} {ws : List ℕ} (r : Records N ws) where
  -- they are at most eight
  pub eight_records_lem : length ws ≤ 8
  unfolding above_shares
  eight_records_lem = omega (arith, count_both N ws r.each, r.shares)

  -- with one more of a desk that is not full
  pub records_insert : (desk : Desk) (n : ℕ) → n < desk_unit → 1 ≤ n → n ≤ N → contains (watch_of desk n) ws ≡ false → desk_full desk ws ≡ false
      → Records N (insert (watch_of desk n) ws)
  records_insert desk n small some most free full = record {
    risen = rising_insert 1 highest watch ws (watch_range N watch fine).0 (watch_range N watch fine).1 free r.risen;
    each = λ w e. go w (or_cases (eqb w watch) (contains w ws) (sym (contains_insert w watch ws) ∙ e));
    shares = shares_insert desk n ws small full r.shares;
  }
    where
      watch : ℕ
      watch = watch_of desk n

      fine : is_watch N watch ≡ true
      fine = watch_is N desk n small some most

      go : (w : ℕ) → (eqb w watch ≡ true) ⊎ (contains w ws ≡ true) → is_watch N w ≡ true
      go w (inl e) = rw (eqb-true w watch e) fine
      go w (inr e) = r.each w e

  -- with some fewer
  pub records_filter : (f : ℕ → Bool) → Records N (filter f ws)
  unfolding above_shares
  records_filter f = record {
    risen = rising_filter f 1 highest ws r.risen;
    each = λ w e. r.each w (and_left (contains w ws) (f w) (sym (contains_filter f w ws) ∙ e));
    shares = omega (arith, r.shares, count_filter One f ws, count_filter Two f ws);
  }
