-- The desks' shares of the eight records: a desk with fewer than 3 watches never gets 9, and on every book that calls left the shares hold,
-- so that a record is free wherever 9 is not said. Laws of a desk's watches among all.
use mathlib.Core.Path.{◌≡◌, refl, sym, ap, ◌∙◌}
use mathlib.Core.Logic.{◌⊎◌, inl, inr}
use Prim.Native.Nat.{ℕ, suc, ◌+◌, ◌≤◌, ◌<◌}
use native.Mathlib.Omega.{arith}
use mathlib.Core.Bool.{Bool, true, false, ◌&&◌, ◌||◌, not, cond}
use mathlib.Core.List.{List, [], ◌∷◌}
use lib.Dec.{ltb, eqb}
use lib.ListN.{length}
use borrow.Author.Tests.{eqb-true, eqb-false, eq-eqb, lt-leb}
use Rattle.lists.specs.Lists.{keep, filter, any, contains, rising, insert, without}
use Rattle.lists.proofs.Booleans.{clash, and_false, none_left, none_right}
use Rattle.lists.proofs.Filters.{filter_filter}
use Rattle.lists.proofs.Members.{filter_same_mem, contains_mem, contains_filter}
use Rattle.lists.proofs.Rising.{rising_filter, rising_bounds, rising_ext, length_insert, contains_insert, rising_insert}
use Rattle.lists.proofs.Apart.{contains_without}
use Rattle.head.specs.declared.Head.{Head}
use Rattle.head.specs.declared.Desk.{Desk}
use Rattle.head.specs.declared.Desk.TheVariants.{One, Two}
use Rattle.refusals.specs.declared.Refusal.TheVariants.{NoFreeRecord}
use Rattle.refusals.specs.Refusals.{number, first_of}
use Rattle.head.specs.Heads.{settings_hold}
use Rattle.model.specs.Rows.{Tables}
use Rattle.model.specs.Shares.{of_desk, count_of, above_shares, desk_full}
use Rattle.model_claims.specs.Shares.{WithinShares}
use Rattle.model.specs.Reference.{Reference, Lengths, head_of, tells, reference_step}
use Rattle.model.specs.Book.{standing, watchful_answer, watch_answer}
use Rattle.model.specs.Calls.{Watch, Lending, Lent, World, reference_at_end, Reached}
use Rattle.model.proofs.Records.{Records, count_both, not_full, eight_records_lem}
use Rattle.model.proofs.Simulation.{watches_read}
use Rattle.model.proofs.Reached.{reached_by}
use Rattle.model_claims.proofs.Due.{end_bounded}

-- ---- sure of three

-- a desk with fewer than 3 is not full
pub sure_of_three : (desk : Desk) (ws : List ℕ) → count_of desk ws < 3 → desk_full desk ws ≡ false
unfolding desk_full
sure_of_three desk ws bounded = rw (lt-leb 3 (count_of desk ws) bounded)

-- a refusal whose condition does not hold is not given
pub not_given : (k : ℕ) (cs : List (Bool × ℕ)) → any (λ c. eqb c.1 (suc k) && c.0) cs ≡ false → first_of cs ≡ suc k → ⊥
unfolding any first_of
not_given k [] e f = omega arith
not_given k (c ∷ cs) e f =
    go c.0 (none_left (eqb c.1 (suc k) && c.0) (any (λ d. eqb d.1 (suc k) && d.0) cs) e) f
    (not_given k cs (none_right (eqb c.1 (suc k) && c.0) (any (λ d. eqb d.1 (suc k) && d.0) cs) e))
  where
    go : (b : Bool) → eqb c.1 (suc k) && b ≡ false → first_of ((b, c.1) ∷ cs) ≡ suc k → (first_of cs ≡ suc k → ⊥) → ⊥
    go true e f r = eqb-false c.1 (suc k) (passed (eqb c.1 (suc k)) e) f
      where
        passed : (b : Bool) → b && true ≡ false → b ≡ false
        passed true e = e
        passed false e = refl
    go false e f r = r f

-- so its watch never gets 9: by the reference model, and by the book model on any book
pub sure_of_three_reference : (desk : Desk) (n : ℕ) (l : Lengths) (s : Reference) → count_of desk s.watched < 3
    → (reference_step (Watch desk n) l s).number ≡ number NoFreeRecord → ⊥
unfolding reference_step tells any
sure_of_three_reference desk n l s bounded = not_given 8 _ (rw (sure_of_three desk s.watched bounded))

pub sure_of_three_book : (h : Head) (desk : Desk) (n : ℕ) (t : Tables) (ws : List ℕ) (room : ℕ) → count_of desk (standing ws) < 3
    → watch_answer h desk n t ws room ≡ number NoFreeRecord → ⊥
unfolding watch_answer watchful_answer any
sure_of_three_book h desk n t ws room bounded = not_given 8 _ (rw (sure_of_three desk (standing ws) bounded))

-- ---- the shares hold

records_shares : (N : ℕ) (ws : List ℕ) → Records N ws → WithinShares ws
unfolding above_shares
records_shares N ws r = record { above = r.shares; eight = eight_records_lem r; free = free }
  where
    both : count_of One ws + count_of Two ws ≡ length ws
    both = count_both N ws r.each

    free : (desk : Desk) → desk_full desk ws ≡ false → length ws < 8
    free One e = one (not_full One ws e)
      where
        one : (count_of One ws < 3) ⊎ (above_shares ws < 2) → length ws < 8
        one (inl h) = omega (arith, both, r.shares)
        one (inr h) = omega (arith, both)
    free Two e = two (not_full Two ws e)
      where
        two : (count_of Two ws < 3) ⊎ (above_shares ws < 2) → length ws < 8
        two (inl h) = omega (arith, both, r.shares)
        two (inr h) = omega (arith, both)

-- after every list of calls they hold of the watches that stand
pub shares_hold : (cs : List Lending) (l : Lent) → WithinShares (reference_at_end cs l).watched
shares_hold cs l = records_shares (reference_at_end cs l).capacity (reference_at_end cs l).watched (end_bounded cs l).watches

-- and of the records of every book that calls left, once an opening was accepted
pub reached_shares : {w : World} → Reached w → settings_hold w.head.dimensions w.head.capacity w.head.directions ≡ true
    → WithinShares (standing w.lent.watches)
unfolding settings_hold head_of
reached_shares =
    reached_by (λ w. settings_hold w.head.dimensions w.head.capacity w.head.directions ≡ true → WithinShares (standing w.lent.watches))
    (λ l e. absurd (clash false e refl)) (λ s l f e. rw (watches_read s l f) (records_shares s.capacity s.watched f.watches))

-- ---- a desk's watches among all

-- a watch of the desk more
pub own_insert : (desk : Desk) (lo hi w : ℕ) (ws : List ℕ) → of_desk desk w ≡ true → lo ≤ w → w ≤ hi → contains w ws ≡ false → rising lo hi ws ≡ true
    → filter (of_desk desk) (insert w ws) ≡ insert w (filter (of_desk desk) ws)
own_insert desk lo hi w ws mine low high free risen =
    rising_ext lo hi (filter f (insert w ws)) (insert w (filter f ws))
    (rising_filter f lo hi (insert w ws) (rising_insert lo hi w ws low high free risen))
    (rising_insert lo hi w (filter f ws) low high (contains_filter f w ws ∙ rw free) (rising_filter f lo hi ws risen))
    (λ p. contains_filter f p (insert w ws) ∙ rw (contains_insert p w ws, contains_insert p w (filter f ws), contains_filter f p ws)
    (go p (eqb p w) refl (contains p ws)))
  where
    f : ℕ → Bool
    f = of_desk desk

    go : (p : ℕ) (b : Bool) → eqb p w ≡ b → (c : Bool) → (b || c) && f p ≡ b || (c && f p)
    go p true e c = rw (eqb-true p w e) mine
    go p false e c = refl

-- a watch of another desk more
pub other_insert : (desk : Desk) (w : ℕ) (ws : List ℕ) → of_desk desk w ≡ false → filter (of_desk desk) (insert w ws) ≡ filter (of_desk desk) ws
unfolding insert filter
other_insert desk w [] e = rw e
other_insert desk w (v ∷ vs) e = go (ltb w v) (other_insert desk w vs e)
  where
    f : ℕ → Bool
    f = of_desk desk

    go : (b : Bool) → filter f (insert w vs) ≡ filter f vs → filter f (cond b (w ∷ v ∷ vs) (v ∷ insert w vs)) ≡ keep (f v) v (filter f vs)
    go true r = rw e
    go false r = ap (λ (l : List ℕ). keep (f v) v l) r

-- without a watch of another desk
pub other_without : (desk : Desk) (w : ℕ) (ws : List ℕ) → of_desk desk w ≡ false → filter (of_desk desk) (without w ws) ≡ filter (of_desk desk) ws
unfolding without
other_without desk w ws e =
    filter_filter f (λ v. not (eqb w v)) ws ∙ filter_same_mem (λ v. not (eqb w v) && f v) f ws (λ v m. go v (eqb w v) refl)
  where
    f : ℕ → Bool
    f = of_desk desk

    go : (v : ℕ) (b : Bool) → eqb w v ≡ b → not b && f v ≡ f v
    go v true s = sym (rw (← (eqb-true w v s)) e)
    go v false s = refl

-- without a watch of the desk that stands, one fewer
pub count_without : (desk : Desk) (lo hi w : ℕ) (ws : List ℕ) → of_desk desk w ≡ true → rising lo hi ws ≡ true → contains w ws ≡ true
    → suc (count_of desk (without w ws)) ≡ count_of desk ws
unfolding count_of without
count_without desk lo hi w ws mine risen m =
    let b = rising_bounds lo hi w ws risen (contains_mem w ws m) in
    let gone : contains w less ≡ false = contains_without w w ws ∙ rw (eq-eqb w w refl) (and_false (contains w ws)) in
    let less-risen = rising_filter (λ v. not (eqb w v)) lo hi ws risen in
    let back : ws ≡ insert w less = rising_ext lo hi ws (insert w less) risen (rising_insert lo hi w less b.0 b.1 gone less-risen)
    (λ q. sym (contains_insert q w less ∙ rw (contains_without q w ws) (same q (eqb q w) refl))) in
    sym (ap (λ (l : List ℕ). length (filter (of_desk desk) l)) back
    ∙ ap length (own_insert desk lo hi w less mine b.0 b.1 gone less-risen)
    ∙ length_insert w (filter (of_desk desk) less))
  where
    less : List ℕ
    less = without w ws

    same : (q : ℕ) (b : Bool) → eqb q w ≡ b → b || (contains q ws && not b) ≡ contains q ws
    same q true e = rw (eqb-true q w e) (sym m)
    same q false e = by (contains q ws)
      where
        by : (b : Bool) → b && true ≡ b
        by true = refl
        by false = refl
