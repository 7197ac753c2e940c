-- Not torn, in few words: the positions fill the window of N, the ends are in their places, and the counts are those of the rows.
use mathlib.Core.Path.{◌≡◌, refl, sym, ap, ◌∙◌}
use mathlib.Core.Logic.{◌⊎◌, inl, inr, ◌↔◌}
use Prim.Native.Nat.{ℕ, zero, suc, ◌-◌, ◌≤◌, ◌<◌}
use native.Mathlib.Omega.{arith}
use mathlib.Core.Bool.{Bool, true, false, ◌&&◌, ◌||◌, not}
use mathlib.Core.List.{List, [], map}
use lib.Dec.{ltb, leb, eqb}
use lib.ListN.{length, length-map}
use borrow.Author.Tests.{ltb-true, leb-true, ltb-false, le-ltb, le-leb, eqb-true, eq-eqb, ne_eqb, not-true, not-false}
use Rattle.lists.specs.Lists.{any, last_or, run, between, contains, rising}
use Rattle.lists.proofs.Booleans.{clash, and_left, and_right, or_cases, none_left, none_right, and_false}
use Rattle.lists.proofs.Filters.{last_snoc}
use Rattle.lists.proofs.Members.{mem_contains}
use Rattle.lists.proofs.Runs.{length_run, between_snoc, filter_all, any_none, none_any, into_run}
use Rattle.lists.proofs.Rising.{rising_between, rising_is}
use Rattle.skyline.specs.Skyline.{window_start}
use Rattle.head.specs.declared.Head.{Head}
use Rattle.head.specs.Heads.{last_position, torn_pair}
use Rattle.model.specs.Rows.{Row, live_rows}
use Rattle.model.specs.Book.{torn_rows, pair_stands}

-- a lower end not below its position
abbrev pub lower_astray : Row → Bool
lower_astray r = not (ltb r.lower_end r.position)

-- an upper end other than 0 not above its position, or above M
abbrev pub upper_astray : ℕ → Row → Bool
upper_astray M r = ltb 0 r.upper_end && not (ltb r.position r.upper_end && leb r.upper_end M)

-- an upper end in its place is 0, or above its position and not above M
pub upper_place : (M : ℕ) (r : Row) → upper_astray M r ≡ false → (r.upper_end ≡ 0) ⊎ ((r.position < r.upper_end) × (r.upper_end ≤ M))
upper_place M r e = go (ltb 0 r.upper_end) refl (ltb r.position r.upper_end) refl (leb r.upper_end M) refl e
  where
    go : (z : Bool) → ltb 0 r.upper_end ≡ z → (a : Bool) → ltb r.position r.upper_end ≡ a → (b : Bool) → leb r.upper_end M ≡ b → z && not (a && b) ≡ false
        → (r.upper_end ≡ 0) ⊎ ((r.position < r.upper_end) × (r.upper_end ≤ M))
    go false z a i b j e = inl (let w = ltb-false 0 r.upper_end z in omega arith)
    go true z true i true j e = inr (ltb-true r.position r.upper_end i, leb-true r.upper_end M j)
    go true z true i false j e = absurd (clash true refl e)
    go true z false i b j e = absurd (clash true refl e)

-- a head and rows that are not torn
pub record Whole (h : Head) (rs : List Row) : Type 0 where
  pub low_newest : h.newest ≤ last_position
  pub window : map Row.position rs ≡ between (window_start h.newest h.capacity) h.newest
  pub lower_ends_lem : any lower_astray rs ≡ false
  pub upper_ends_lem : any (upper_astray h.newest) rs ≡ false
  pub live_count : h.live ≡ length (live_rows rs)

-- ---- the pair

-- a pair that can be watched in a book of N
pub record PairWithin (n1 n2 N : ℕ) : Type 0 where
  pub two : 2 ≤ n1
  pub order : n1 ≤ n2
  pub most : n2 ≤ N

-- a pair that stands and is not torn is one
pub pair_within : (h : Head) → torn_pair h ≡ false → pair_stands h ≡ true → PairWithin h.n1 h.n2 h.capacity
unfolding torn_pair pair_stands
pair_within h e stands = go (or_cases none some (not-false (none || some) e))
  where
    none : Bool
    none = eqb h.n1 0 && eqb h.n2 0

    some : Bool
    some = leb 2 h.n1 && leb h.n1 h.n2 && leb h.n2 h.capacity

    go : (none ≡ true) ⊎ (some ≡ true) → PairWithin h.n1 h.n2 h.capacity
    go (inl t) = absurd (clash (eqb h.n1 0) (and_left (eqb h.n1 0) (eqb h.n2 0) t) (not-true (eqb h.n1 0) stands))
    go (inr t) =
        let two = and_left (leb 2 h.n1 && leb h.n1 h.n2) (leb h.n2 h.capacity) t in
        record {
          two = leb-true 2 h.n1 (and_left (leb 2 h.n1) (leb h.n1 h.n2) two);
          order = leb-true h.n1 h.n2 (and_right (leb 2 h.n1) (leb h.n1 h.n2) two);
          most = leb-true h.n2 h.capacity (and_right (leb 2 h.n1 && leb h.n1 h.n2) (leb h.n2 h.capacity) t);
        }

-- and one that can be watched is not torn
pub within_untorn : (h : Head) → PairWithin h.n1 h.n2 h.capacity → torn_pair h ≡ false
unfolding torn_pair
within_untorn h w =
    rw (le-leb 2 h.n1 w.two, le-leb h.n1 h.n2 w.order, le-leb h.n2 h.capacity w.most)
    (rw (or_true (eqb h.n1 0 && eqb h.n2 0)))
  where
    or_true : (b : Bool) → b || true ≡ true
    or_true true = refl
    or_true false = refl

-- ---- the positions of a window of N

module _ (N : ℕ) where
  pub window_length : (M : ℕ) → length (between (window_start M N) M) ≡ suc M - window_start M N
  unfolding between
  window_length M = length_run (window_start M N) (suc M - window_start M N)

  module _ (some : 1 ≤ N) where
    -- they are at most N
    pub window_bounded : (M : ℕ) → length (between (window_start M N) M) ≤ N
    unfolding window_start
    window_bounded M = omega (arith, window_length M)

    -- none on an empty tape
    pub window_none : between (window_start 0 N) 0 ≡ []
    unfolding window_start between run
    window_none = let e : 1 - window_start 0 N ≡ 0 = omega arith in rw e

    -- the last of them is the newest
    window_last : (M : ℕ) → last_or 0 (between (window_start M N) M) ≡ M
    unfolding last_or window_start
    window_last zero = rw window_none
    window_last (suc M) = rw (between_snoc (window_start (suc M) N) M (omega arith)) (last_snoc 0 (between (window_start (suc M) N) M) (suc M))

    -- there are some exactly if there are quotes
    window_paired : (M k : ℕ) → k ≡ suc M - window_start M N → eqb k 0 && ltb 0 M || ltb 0 k && eqb M 0 ≡ false
    unfolding window_start
    window_paired zero k e = let z : k ≡ 0 = omega arith in rw z
    window_paired (suc M) k e = rw (ne_eqb k 0 (λ z. omega arith), ne_eqb (suc M) 0 (λ z. omega arith)) (and_false (ltb 0 k))

    window_full : (M : ℕ) → any (λ p. not (contains p (between (window_start M N) M))) (between (window_start M N) M) ≡ false
    unfolding between
    window_full M =
        any_none (λ p. not (contains p (between (window_start M N) M))) (window_start M N) (suc M - window_start M N)
        (λ q u v. rw (mem_contains q (between (window_start M N) M) (into_run (window_start M N) (suc M - window_start M N) q u v)))

-- a rising list that contains every number of its bounds is all of them
rising_full : (lo hi : ℕ) (l : List ℕ) → rising lo hi l ≡ true → any (λ p. not (contains p l)) (between lo hi) ≡ false → l ≡ between lo hi
unfolding between
rising_full lo hi l e f =
    rising_is lo hi l e
    ∙ filter_all (λ p. contains p l) lo (suc hi - lo) (λ q u v. not-false (contains q l) (none_any (λ p. not (contains p l)) lo (suc hi - lo) f q u v))

-- where none of nine tests passes
none_of_nine : (a b c d e f g h i : Bool) → a || b || c || d || e || f || g || h || i ≡ false
    → (b ≡ false) × (d ≡ false) × (f ≡ false) × (g ≡ false) × (h ≡ false) × (i ≡ false)
none_of_nine a b c d e f g h i n =
    let n8 = none_left (a || b || c || d || e || f || g || h) i n in
    let n7 = none_left (a || b || c || d || e || f || g) h n8 in
    let n6 = none_left (a || b || c || d || e || f) g n7 in
    let n4 = none_left (a || b || c || d) e (none_left (a || b || c || d || e) f n6) in
    let n2 = none_left (a || b) c (none_left (a || b || c) d n4) in (
      none_right a b n2,
      none_right (a || b || c) d n4,
      none_right (a || b || c || d || e) f n6,
      none_right (a || b || c || d || e || f) g n7,
      none_right (a || b || c || d || e || f || g) h n8,
      none_right (a || b || c || d || e || f || g || h) i n,
    )

module _ (h : Head) (rs : List Row) (counted : h.held ≡ length rs) (some : 1 ≤ h.capacity) where
  abbrev M : ℕ
  M = h.newest

  abbrev S : ℕ
  S = window_start M h.capacity

  abbrev ps : List ℕ
  ps = map Row.position rs

  pub untorn_whole : torn_rows h rs ≡ false → Whole h rs
  unfolding torn_rows
  untorn_whole e =
      let n = none_of_nine (ltb h.capacity h.held) (ltb last_position M) (eqb h.held 0 && ltb 0 M || ltb 0 h.held && eqb M 0) (not (rising S M ps))
      (not (eqb (last_or 0 ps) M)) (any lower_astray rs) (any (λ p. not (contains p ps)) (between S M)) (not (eqb h.live (length (live_rows rs))))
      (any (upper_astray M) rs) e in
      record {
        low_newest = ltb-false last_position M n.0;
        window = rising_full S M ps (not-false (rising S M ps) n.1) n.3;
        lower_ends_lem = n.2;
        upper_ends_lem = n.5;
        live_count = eqb-true h.live (length (live_rows rs)) (not-false (eqb h.live (length (live_rows rs))) n.4);
      }

  pub whole_untorn : Whole h rs → torn_rows h rs ≡ false
  unfolding torn_rows window_start
  whole_untorn w =
      let k : h.held ≡ suc M - S = counted ∙ sym (length-map rs Row.position) ∙ ap length w.window ∙ window_length h.capacity M in
      let bounded : h.held ≤ h.capacity = omega arith in
      rw (
        le-ltb h.capacity h.held bounded,
        le-ltb last_position M w.low_newest,
        window_paired h.capacity some M h.held k,
        w.window,
        rising_between S M (omega arith),
        window_last h.capacity some M,
        eq-eqb M M refl,
        w.lower_ends_lem,
        window_full h.capacity some M,
        eq-eqb h.live (length (live_rows rs)) w.live_count,
        w.upper_ends_lem,
      )

  -- not torn is whole
  pub untorn_iff_whole : (torn_rows h rs ≡ false) ↔ Whole h rs
  untorn_iff_whole = (untorn_whole, whole_untorn)
