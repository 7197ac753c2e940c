-- Lists of rows that are not torn, of any content: the plain list by the live rows, and the lists after a quote from the rows before it.
use mathlib.Core.Path.{◌≡◌, refl, sym, ap, ap₂, ◌∙◌}
use mathlib.Core.Logic.{◌⊎◌, inl, inr}
use Prim.Native.Nat.{ℕ, suc, ◌+◌, ◌-◌, ◌≤◌, ◌<◌}
use native.Mathlib.Nat.{le_refl}
use native.Mathlib.Omega.{arith}
use mathlib.Core.Bool.{Bool, true, false, ◌&&◌, not, cond}
use mathlib.Core.List.{List, [], ◌∷◌, ◌++◌, map, Memᴰ, append-nil}
use lib.Dec.{ltb, leb, eqb}
use borrow.Author.Tests.{le-leb, eqb-true, ne_eqb}
use Rattle.lists.specs.Lists.{keep, filter, any, between}
use Rattle.lists.proofs.Booleans.{agree, refute, and_false}
use Rattle.lists.proofs.Filters.{filter_append, filter_filter, filter_map, map-append, map_map}
use Rattle.lists.proofs.Members.{mem_none, into_map, filter_same_mem}
use Rattle.lists.proofs.Runs.{of_run}
use Rattle.skyline.specs.Skyline.{window_start}
use Rattle.skyline.specs.Past.{covers}
use Rattle.skyline.proofs.Past.{of_covers, into_covers}
use Rattle.skyline.proofs.Moved.{covers_renamed, covers_retired}
use Rattle.head.specs.declared.Head.{Head}
use Rattle.model.specs.Rows.{Row, is_live, live_rows, listed, expiring, renamed, over_older, retired_by, row_after, lower_end_among, rows_after}
use Rattle.model.specs.Book.{list_of}
use Rattle.model.proofs.Torn.{Whole, upper_astray, upper_place}

and-true : (b : Bool) → b && true ≡ b
and-true true = refl
and-true false = refl

-- a row whose upper end is within the window is not on its list
retired_off : (a b lower position upper : ℕ) → 0 < upper → upper ≤ b → covers a b lower position upper ≡ false
retired_off a b l p u some within = refute (covers a b l p u) (λ c. none (of_covers a b l p u c).above)
  where
    none : (u ≡ 0) ⊎ (b < u) → ⊥
    none (inl e) = omega arith
    none (inr w) = omega arith

-- the rows that are not torn stand up to the newest position
whole_placed : (h : Head) (rs : List Row) → Whole h rs → (r : Row) → Memᴰ r rs → r.position ≤ h.newest
unfolding between window_start
whole_placed h rs w r m =
    let S = window_start h.newest h.capacity in
    let t = of_run S (suc h.newest - S) r.position (rw w.window at (into_map Row.position r rs m)) in
    omega arith

-- the list of n on rows that are not torn: the live rows with lower end < start ≤ position
pub listed_live : (h : Head) (rs : List Row) (n : ℕ) → Whole h rs
    → list_of h rs n ≡ map Row.position (filter (λ r. ltb r.lower_end (window_start h.newest n) && leb (window_start h.newest n) r.position) (live_rows rs))
unfolding list_of listed live_rows is_live covers
listed_live h rs n w =
    ap (map Row.position) (filter_same_mem on (λ r. eqb r.upper_end 0 && from r) rs same ∙ sym (filter_filter from is_live rs))
  where
    a : ℕ
    a = window_start h.newest n

    on : Row → Bool
    on r = covers a h.newest r.lower_end r.position r.upper_end

    from : Row → Bool
    from r = ltb r.lower_end a && leb a r.position

    both : (x y : Bool) → x && y && true && true ≡ x && y
    both true y = and-true (y && true) ∙ and-true y
    both false y = refl

    same : (r : Row) → Memᴰ r rs → on r ≡ eqb r.upper_end 0 && from r
    same r m = go (upper_place h.newest r (mem_none (upper_astray h.newest) r rs m w.upper_ends_lem))
      where
        go : (r.upper_end ≡ 0) ⊎ ((r.position < r.upper_end) × (r.upper_end ≤ h.newest)) → on r ≡ eqb r.upper_end 0 && from r
        go (inl e) = rw (e, le-leb r.position h.newest (whole_placed h rs w r m)) (both (ltb r.lower_end a) (leb a r.position))
        go (inr t) =
            let u = t.0 in
            retired_off a h.newest r.lower_end r.position r.upper_end (omega arith) t.1
            ∙ ap (λ (b : Bool). b && from r) (sym (ne_eqb r.upper_end 0 (λ e. omega arith)))

module _ (d directions N M : ℕ) (x : List ℕ) (rs : List Row) where
  -- the position that expires
  abbrev g : ℕ
  g = expiring M N

  -- the rows that stay, and each of them after the quote
  abbrev left : List Row
  left = filter (λ r. not (eqb r.position g)) rs

  abbrev after : Row → Row
  after = row_after d directions x (M + 1) g

  -- the new row
  abbrev new : Row
  new = record { position = M + 1; lower_end = lower_end_among d directions x left; upper_end = 0; columns = x }

  -- the window covers a row
  abbrev on : ℕ → ℕ → Row → Bool
  on a b r = covers a b r.lower_end r.position r.upper_end

  -- a list after the quote: the old rows that are covered then, and the new one if it is
  listed_parts : (a b : ℕ)
      → listed a b (rows_after d directions N M x rs)
      ≡ map Row.position (filter (λ r. not (eqb r.position g) && on a b (after r)) rs) ++ map Row.position (filter (on a b) (new ∷ []))
  unfolding listed rows_after row_after
  listed_parts a b =
      ap (map Row.position) (filter_append (on a b) (map after left) (new ∷ []))
      ∙ map-append Row.position (filter (on a b) (map after left)) (filter (on a b) (new ∷ []))
      ∙ ap (λ (l : List ℕ). l ++ map Row.position (filter (on a b) (new ∷ []))) olds
    where
      olds : map Row.position (filter (on a b) (map after left)) ≡ map Row.position (filter (λ r. not (eqb r.position g) && on a b (after r)) rs)
      olds =
          ap (map Row.position) (filter_map (on a b) after left)
          ∙ map_map Row.position after (filter (λ r. on a b (after r)) left)
          ∙ ap (map Row.position) (filter_filter (λ r. on a b (after r)) (λ r. not (eqb r.position g)) rs)

  -- a test that a row at the position that expires fails anyway
  gone_off : (a b : ℕ) (r : Row) → g < a → (t : Bool) → (on a b r ≡ false → t ≡ false) → not (eqb r.position g) && t ≡ t
  gone_off a b r h t f = go (eqb r.position g) refl
    where
      off : eqb r.position g ≡ true → on a b r ≡ false
      off e =
          refute (on a b r) (λ c.
          omega (arith, eqb-true r.position g e, (of_covers a b r.lower_end r.position r.upper_end c).start))

      go : (e : Bool) → eqb r.position g ≡ e → not e && t ≡ t
      go true e = sym (f (off e))
      go false e = refl

  -- where a window ends before the quote, its columns do not matter
  after_before : (a b : ℕ) (r : Row) → g < a → b ≤ M → on a b (after r) ≡ on a b r
  unfolding row_after retired_by renamed
  after_before a b r h k =
      covers_retired a b (M + 1) (cond (eqb r.lower_end g) 0 r.lower_end) r.position r.upper_end (omega arith)
      (over_older d directions x r)
      ∙ covers_renamed a b g r.lower_end r.position r.upper_end h

  -- and the new row is not on its list
  new_off : (a b : ℕ) → b ≤ M → filter (on a b) (new ∷ []) ≡ []
  unfolding filter
  new_off a b k = rw (refute (on a b new) (λ c. omega (arith, (of_covers a b new.lower_end (M + 1) 0 c).end)))

  -- the list of a window that ends before the quote is that of the rows before it
  pub past_after : (a b : ℕ) → g < a → b ≤ M → listed a b (rows_after d directions N M x rs) ≡ listed a b rs
  unfolding listed
  past_after a b h k =
      listed_parts a b
      ∙ ap₂ (λ (l m : List Row). map Row.position l ++ map Row.position m) olds (new_off a b k)
      ∙ append-nil (map Row.position (filter (on a b) rs))
    where
      olds : filter (λ r. not (eqb r.position g) && on a b (after r)) rs ≡ filter (on a b) rs
      olds =
          filter_same_mem (λ r. not (eqb r.position g) && on a b (after r)) (on a b) rs
          (λ r m. rw (after_before a b r h k) (gone_off a b r h (on a b r) (λ e. e)))

  -- the new row is on the list of a window up to it unless an old row of the window dominates it
  new_on : (a : ℕ) → a ≤ M + 1 → map Row.position (filter (on a (M + 1)) (new ∷ [])) ≡ cond (ltb (lower_end_among d directions x left) a) ((M + 1) ∷ []) []
  unfolding filter covers
  new_on a k = rw (le-leb a (M + 1) k, le-leb (M + 1) (M + 1) (le_refl (M + 1))) (go (ltb (lower_end_among d directions x left) a))
    where
      go : (b : Bool) → map Row.position (keep (b && true && true && true) new []) ≡ cond b ((M + 1) ∷ []) []
      go true = refl
      go false = refl

  module _ (placed : (r : Row) → Memᴰ r rs → r.position ≤ M) (upper_ends_lem : any (upper_astray M) rs ≡ false) where
    -- a row is on a list up to the quote if it was on that up to the newest before, and the quote does not dominate it
    after_now : (a : ℕ) (r : Row) → Memᴰ r rs → g < a → on a (M + 1) (after r) ≡ on a M r && not (over_older d directions x r)
    unfolding row_after retired_by renamed
    after_now a r m h =
        covers_renamed a (M + 1) g l p (cond (eqb u 0 && o) (M + 1) u) h ∙ go (upper_place M r (mem_none (upper_astray M) r rs m upper_ends_lem)) o
      where
        l : ℕ
        l = r.lower_end

        p : ℕ
        p = r.position

        u : ℕ
        u = r.upper_end

        o : Bool
        o = over_older d directions x r

        -- a live one on both, but for the quote
        on_both : u ≡ 0 → covers a (M + 1) l p 0 ≡ covers a M l p 0
        on_both e =
            agree (covers a (M + 1) l p 0) (covers a M l p 0)
            (λ c. let q = of_covers a (M + 1) l p 0 c in into_covers a M l p 0 record { below = q.below; start = q.start; end = placed r m; above = inl refl })
            (λ c. let q = of_covers a M l p 0 c in into_covers a (M + 1) l p 0 record { below = q.below; start = q.start; end = let v = q.end in omega arith; above = inl refl })

        -- the quote's upper end covers no window up to it
        beaten : covers a (M + 1) l p (M + 1) ≡ false
        beaten = refute (covers a (M + 1) l p (M + 1)) (λ c. none (of_covers a (M + 1) l p (M + 1) c).above)
          where
            none : (M + 1 ≡ 0) ⊎ (M + 1 < M + 1) → ⊥
            none (inl e) = omega arith
            none (inr w) = omega arith

        go : (u ≡ 0) ⊎ ((p < u) × (u ≤ M)) → (o : Bool) → covers a (M + 1) l p (cond (eqb u 0 && o) (M + 1) u) ≡ covers a M l p u && not o
        go (inl e) true = rw e (beaten ∙ sym (and_false (covers a M l p 0)))
        go (inl e) false = rw e (on_both e ∙ sym (and-true (covers a M l p 0)))
        go (inr t) o =
            let some : 0 < u = let v = t.0 in omega arith in
            let most = t.1 in
            rw (ne_eqb u 0 (λ e. omega arith), retired_off a (M + 1) l p u some (omega arith), retired_off a M l p u some most)

    -- a list after the quote: those of the list before it, from the new start on, that the quote does not dominate, and the quote if no
    -- row of the window dominates it
    pub list_after_lem : (a : ℕ) → g < a → a ≤ M + 1
        → listed a (M + 1) (rows_after d directions N M x rs)
        ≡ map Row.position (filter (λ r. on a M r && not (over_older d directions x r)) rs) ++ cond (ltb (lower_end_among d directions x left) a) ((M + 1) ∷ []) []
    list_after_lem a h k = listed_parts a (M + 1) ∙ ap₂ {C = List ℕ} (λ (l m : List ℕ). l ++ m) (ap (map Row.position) olds) (new_on a k)
      where
        olds : filter (λ r. not (eqb r.position g) && on a (M + 1) (after r)) rs ≡ filter (λ r. on a M r && not (over_older d directions x r)) rs
        olds =
            filter_same_mem (λ r. not (eqb r.position g) && on a (M + 1) (after r)) (λ r. on a M r && not (over_older d directions x r)) rs
            (λ r m. rw (after_now a r m h) (gone_off a M r h (on a M r && not (over_older d directions x r)) (λ e. rw e)))
