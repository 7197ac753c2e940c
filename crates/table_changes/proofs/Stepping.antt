-- Which rows leave or join as the window moves by one position at most: the row at its old start, the rows that the quote retires, and
-- the rows whose lower end is its old start.
use mathlib.Core.Path.{◌≡◌, refl, sym, ap, ◌∙◌}
use Prim.Native.Nat.{ℕ, zero, suc, ◌+◌, ◌-◌, ◌≤◌, ◌<◌}
use native.Mathlib.Nat.{zero-add}
use native.Mathlib.Numerals.{add-one}
use native.Mathlib.Decide.{dec_lt}
use native.Mathlib.Omega.{arith}
use mathlib.Core.Bool.{Bool, true, false, ◌&&◌, ◌||◌, not}
use mathlib.Core.List.{List, [], ◌++◌, map, append_assoc, append-nil}
use lib.Dec.{ltb, leb}
use lib.ListN.{get_or}
use borrow.Author.Tests.{ltb-true, leb-true, leb-false, lt-ltb, le-ltb, le-leb, lt-leb, not-true}
use Rattle.lists.specs.Lists.{keep, filter, run}
use Rattle.lists.proofs.Booleans.{refute, clash, and_left, and_right, and_false, both}
use Rattle.lists.proofs.Filters.{filter_filter}
use Rattle.lists.proofs.Runs.{filter_from}
use Rattle.skyline.specs.Skyline.{stabbed}
use Rattle.table_finding.specs.Found.{live, over, retires, retired}
use Rattle.table_listing.specs.Picked.{picked}
use Rattle.table_listing.proofs.Picking.{picked_none, picked_more, picked_skip}
use Rattle.table_changes.specs.declared.Shift.{Shift}
use Rattle.table_changes.specs.Held.{Held, stands, was_listed, now_listed, moves, moving, fallen, dropped, may_gain, Ready, Retired, LiveNamed}

module _ (s : Held) (w : Shift) (v : Ready s w) where
  abbrev pub position : ℕ → ℕ
  position i = s.first + i

  abbrev pub lower : ℕ → ℕ
  lower i = get_or s.lowers i 0

  abbrev alive : ℕ → Bool
  alive = live s.rows.uppers

  abbrev beaten : ℕ → Bool
  beaten = over s.rows

  -- the row at place i was listed, and the window moves past it
  abbrev falls : ℕ → Bool
  falls i = was_listed s w i && not (leb w.after (position i))

  -- the quote retires the row at place i, which was listed and is in the window after
  abbrev drops : ℕ → Bool
  drops i = retires s.rows i && (ltb (lower i) w.before && leb w.after (position i))

  -- what was listed and is in the window after is listed but for the quote
  sorted : (a l k l' k' o : Bool) → (l ≡ true → l' ≡ true) → (k' ≡ true → k ≡ true)
      → (a && (l && k)) && not ((a && not o) && (l' && k')) ≡ ((a && (l && k)) && not k') || ((a && o) && (l && k'))
  sorted false l k l' k' o f g = refl
  sorted true false k l' k' o f g = sym (and_false o)
  sorted true true k l' true true f g = rw (g refl)
  sorted true true k l' true false f g = rw (f refl, g refl)
  sorted true true true l' false true f g = refl
  sorted true true true l' false false f g = rw (f refl)
  sorted true true false l' false true f g = refl
  sorted true true false l' false false f g = refl

  leaves_by : (i : ℕ) → moves s w false i ≡ falls i || drops i
  unfolding moves was_listed now_listed stands stabbed retires
  leaves_by i =
      sorted (alive i) (ltb (lower i) w.before) (leb w.before (position i)) (ltb (lower i) w.after) (leb w.after (position i)) (beaten i)
      (λ t. lt-ltb (lower i) w.after (omega (arith, ltb-true (lower i) w.before t, v.forth)))
      (λ t. le-leb w.before (position i) (omega (arith, leb-true w.after (position i) t, v.forth)))

  -- a row that the window moves past stands at its old start
  falls_at : (i : ℕ) → falls i ≡ true → (position i ≡ w.before) × (w.before < w.after)
  unfolding was_listed stabbed
  falls_at i e =
      let was = and_left (was_listed s w i) (not (leb w.after (position i))) e in
      let out = leb-false w.after (position i) (not-true (leb w.after (position i)) (and_right (was_listed s w i) (not (leb w.after (position i))) e)) in
      let in_window = and_right (alive i) (ltb (lower i) w.before && leb w.before (position i)) was in
      let late = leb-true w.before (position i) (and_right (ltb (lower i) w.before) (leb w.before (position i)) in_window) in
      let near = v.by_one in
      (omega arith, omega arith)

  drops_at_lem : (i : ℕ) → drops i ≡ true → w.after ≤ position i
  drops_at_lem i e =
      leb-true w.after (position i)
      (and_right (ltb (lower i) w.before) (leb w.after (position i)) (and_right (retires s.rows i) (ltb (lower i) w.before && leb w.after (position i)) e))

  -- no row that the quote retires and that is in the window after stands before it
  drops_none : (i : ℕ) → falls i ≡ true → picked drops s.first i ≡ []
  drops_none i e =
      let at = falls_at i e in
      picked_skip drops s.first 0 i (omega arith) (λ q _ l. refute (drops q) (λ t. omega (arith, drops_at_lem q t))) ∙ picked_none drops s.first

  leaves_split : (i : ℕ) → picked (moves s w false) s.first i ≡ picked falls s.first i ++ picked drops s.first i
  leaves_split zero = rw (picked_none (moves s w false), picked_none falls, picked_none drops)
  leaves_split (suc i) =
      rw (← add-one, picked_more (moves s w false), picked_more falls, picked_more drops, leaves_split i, leaves_by i)
      (go (falls i) (drops i) (λ e. drops_none i e) (λ e. let at = falls_at i e in refute (drops i) (λ t. omega (arith, drops_at_lem i t))))
    where
      A : List ℕ
      A = picked falls s.first i

      B : List ℕ
      B = picked drops s.first i

      go : (f q : Bool) → (f ≡ true → B ≡ []) → (f ≡ true → q ≡ false)
          → (A ++ B) ++ keep (f || q) (position i) [] ≡ (A ++ keep f (position i) []) ++ (B ++ keep q (position i) [])
      go true q none apart = rw (none refl, apart refl) (simp append-nil)
      go false q none apart = rw append-nil (append_assoc A B (keep q (position i) []))

  -- the row that the window moves past, if it was listed
  falls_picked : picked falls s.first s.count ≡ fallen (w.before - s.first) s.lowers s.rows.uppers w
  unfolding fallen was_listed stabbed
  falls_picked = go (dec_lt w.before w.after)
    where
      p : ℕ
      p = w.before - s.first

      at : s.first + p ≡ w.before
      at = let u = v.starts in omega arith

      there : w.before < w.after → falls p ≡ alive p && ltb (lower p) w.before
      there h =
          rw (at, le-leb w.before w.before (omega arith), lt-leb w.after w.before h)
          (two (alive p) (ltb (lower p) w.before))
        where
          two : (a l : Bool) → (a && (l && true)) && true ≡ a && l
          two true true = refl
          two true false = refl
          two false l = refl

      go : Dec (w.before < w.after)
          → picked falls s.first s.count ≡ keep (ltb w.before w.after && (alive p && ltb (lower p) w.before)) w.before []
      go (yes h) =
          let u = v.ends in
          picked_skip falls s.first (p + 1) s.count (omega arith) (λ q k l. refute (falls q) (λ t. let a = falls_at q t in omega arith))
          ∙ picked_more falls s.first p
          ∙ ap (λ (l : List ℕ). l ++ keep (falls p) (s.first + p) [])
          (picked_skip falls s.first 0 p (omega arith) (λ q k l. refute (falls q) (λ t. let a = falls_at q t in omega arith)) ∙ picked_none falls s.first)
          ∙ rw (there h, at, lt-ltb w.before w.after h)
      go (no h) =
          picked_skip falls s.first 0 s.count (omega arith) (λ q k l. refute (falls q) (λ t. let a = falls_at q t in omega arith))
          ∙ picked_none falls s.first
          ∙ rw (le-ltb w.before w.after (omega arith))

  -- the rows that the quote retires
  drops_picked : (places : List ℕ) → Retired s w places → picked drops s.first s.count ≡ dropped s.first s.lowers w places
  unfolding picked dropped retired
  drops_picked places r =
      let within = r.within in
      let stays = r.stays in
      let cut : s.count ≡ r.from + (s.count - r.from) = omega arith in
      ap (map position)
      (ap (λ (k : ℕ). filter drops (run 0 k)) cut
      ∙ filter_from drops 0 r.from (s.count - r.from) (λ q _ l. refute (drops q) (λ t. omega (arith, drops_at_lem q t)))
      ∙ ap (λ (k : ℕ). filter drops (run k (s.count - r.from))) (zero-add r.from)
      ∙ sym (filter_filter kept (retires s.rows) (run r.from (s.count - r.from))))
      ∙ ap (λ (l : List ℕ). map position (filter kept l)) (sym r.listed)
    where
      kept : ℕ → Bool
      kept i = ltb (lower i) w.before && leb w.after (position i)

  -- the rows that leave: the one that the window moves past, then those that the quote retires
  pub leaves_are : (places : List ℕ) → Retired s w places
      → moving s w false ≡ fallen (w.before - s.first) s.lowers s.rows.uppers w ++ dropped s.first s.lowers w places
  unfolding moving
  leaves_are places r = rw (leaves_split s.count, falls_picked, drops_picked places r)

  -- a row that joins is live, its lower end is the window's old start, and it is in the window after
  pub joins_at : (i : ℕ) → moves s w true i ≡ true → (alive i ≡ true) × (lower i ≡ w.before) × (w.before < w.after) × (w.after ≤ position i)
  unfolding moves was_listed now_listed stands stabbed
  joins_at i e =
      let is = and_left (now_listed s w i) (not (was_listed s w i)) e in
      let was = not-true (was_listed s w i) (and_right (now_listed s w i) (not (was_listed s w i)) e) in
      let lives = and_left (alive i) (not (beaten i)) (and_left (stands s.rows i) (stabbed w.after (lower i) (position i)) is) in
      let inside = and_right (stands s.rows i) (stabbed w.after (lower i) (position i)) is in
      let low = ltb-true (lower i) w.after (and_left (ltb (lower i) w.after) (leb w.after (position i)) inside) in
      let late = leb-true w.after (position i) (and_right (ltb (lower i) w.after) (leb w.after (position i)) inside) in
      let forth = v.forth in
      let near = v.by_one in
      let behind : w.before ≤ lower i = go lives was late (dec_lt (lower i) w.before) in
      (lives, omega arith, omega arith, late)
    where
      go : alive i ≡ true → was_listed s w i ≡ false → w.after ≤ position i → Dec (lower i < w.before) → w.before ≤ lower i
      go lives was late (yes h) =
          let forth = v.forth in
          let inside = both (ltb (lower i) w.before) (leb w.before (position i)) (lt-ltb (lower i) w.before h) (le-leb w.before (position i) (omega arith)) in
          absurd (clash (was_listed s w i) (both (alive i) (stabbed w.before (lower i) (position i)) lives inside) was)
      go lives was late (no h) = omega arith

  -- a row behind the window's old start whose lower end that is joins if it is live and the quote is not over it
  pub joins_by : (i : ℕ) → lower i ≡ w.before → w.before < w.after → w.after ≤ position i → moves s w true i ≡ stands s.rows i
  unfolding moves was_listed now_listed stabbed
  joins_by i e h k =
      rw (lt-ltb (lower i) w.after (omega arith), le-leb w.after (position i) k, le-ltb (lower i) w.before (omega arith))
      (go (stands s.rows i) (alive i))
    where
      go : (a b : Bool) → (a && true) && not (b && false) ≡ a
      go true true = refl
      go true false = refl
      go false b = refl

  -- where none may join, none does
  pub joins_none : (sound : Bool) → (sound ≡ true → LiveNamed s) → may_gain (w.before - s.first) s.rows.uppers w sound ≡ false → moving s w true ≡ []
  unfolding moving may_gain
  joins_none sound named e =
      picked_skip (moves s w true) s.first 0 s.count (omega arith) (λ q _ l. refute (moves s w true q) (λ t. none sound named e q l (joins_at q t)))
      ∙ picked_none (moves s w true) s.first
    where
      p : ℕ
      p = w.before - s.first

      none : (sound : Bool) → (sound ≡ true → LiveNamed s) → ltb w.before w.after && (not sound || alive p) ≡ false → (q : ℕ) → q < s.count
          → (alive q ≡ true) × (lower q ≡ w.before) × (w.before < w.after) × (w.after ≤ position q) → ⊥
      none false named e q l t = clash true refl (rw (lt-ltb w.before w.after t.2) at e)
      none true named e q l t =
          let starts = v.starts in
          let low = t.1 in
          clash (alive p) (rw low at ((named refl).names q l t.0 (omega arith))) (rw (lt-ltb w.before w.after t.2) at e)
