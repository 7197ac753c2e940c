-- What is known of a book that calls left: which rows need not be gone through, that zeros stand behind its rows, and where lower ends may
-- name the expired position.
use mathlib.Core.Path.{◌≡◌, refl, sym, ap, subst, ◌∙◌}
use mathlib.Core.Logic.{◌⊎◌, inl, inr}
use Prim.Native.Nat.{ℕ, suc, ◌+◌, ◌-◌, ◌*◌, ◌≤◌, ◌<◌}
use native.Mathlib.Nat.{le_refl, mul-le-mul_right}
use native.Mathlib.Omega.{arith}
use mathlib.Core.Bool.{Bool, true, false, cond}
use mathlib.Core.List.{List, map}
use lib.Dec.{eqb}
use lib.ListN.{length, get_or, length-map}
use borrow.Author.Tests.{eqb-true, eqb-false, eq-eqb}
use Rattle.lists.specs.Lists.{flat, between, padded}
use Rattle.lists.proofs.Booleans.{either, clash, and_left, and_right}
use Rattle.lists.proofs.Runs.{order}
use Rattle.dominance.specs.Dominance.{no_worse, dominates}
use Rattle.dominance.specs.Renewal.{quote_at}
use Rattle.dominance.proofs.Laws.{dominates_no_less, dominates_irreflexive, dominates_no_worse, no_worse_dominates}
use Rattle.dominance.proofs.Renewal.{renewed_later}
use Rattle.skyline.specs.Skyline.{window_start}
use Rattle.skyline.specs.Past.{upper_end}
use Rattle.skyline.proofs.Ends.{NoneOrYounger, upper_spec, lower_below, upper_most}
use Rattle.head.specs.declared.Head.{Head}
use Rattle.model.specs.Rows.{Row, Tables, row_at, rows_in, filled, expiring, renamed}
use Rattle.model.specs.Reference.{Reference, unopened, newest, row_of, rows_of, head_of}
use Rattle.model.specs.Reference as reference
use Rattle.model.specs.Book.{book_rows}
use Rattle.model.specs.Calls.{Lent, Reached}
use Rattle.model.specs.Promises.{world}
use Rattle.model.proofs.Tables.{cells_counted}
use Rattle.model.proofs.Torn.{window_length}
use Rattle.model.proofs.Sound.{rows_bounded, rows_wide}
use Rattle.model.proofs.Simulation.{Invariant, some_capacity, rows_read}
use Rattle.call_settling.proofs.Sought.{named_before_upper, named_behind_lower, named_live_on}
use Rattle.model.proofs.Reached.{reached_by}
use Rattle.table_finding.specs.Found.{Rows, live, over, under, retires, Sound}
use Rattle.call_settling.specs.Findings.{expired_places, held_rows, named_before}
use Rattle.call_settling.specs.Blank.{Blank}
use Rattle.call_settling.specs.Settled.{Unnamed, Clear}
use Rattle.call_settling.proofs.Blanks.{blank_padded}
use Rattle.call_settling.proofs.Reading.{run_at}
use Rattle.call_settling.proofs.Numbers.{before_none, before_live, before_upper}

-- a lower end that does not name the expired position stays
renamed_same : (g y : ℕ) → (0 < g → y ≡ g → ⊥) → renamed g y ≡ y
unfolding renamed
renamed_same g y n = go (eqb y g) refl
  where
    go : (b : Bool) → eqb y g ≡ b → cond b 0 y ≡ y
    go true e = let z = eqb-true y g e in let w : (0 < g → ⊥) = λ k. n k z in omega (arith, w)
    go false e = refl

-- the lower end of a live row, if it is held, is that of a live row
abbrev LiveNamed : Head → Tables → Type 0
LiveNamed h t =
    let S = window_start h.newest h.capacity in
    (i : ℕ) → i < h.held → live t.upper_ends i ≡ true → S ≤ get_or t.lower_ends i 0 → live t.upper_ends (get_or t.lower_ends i 0 - S) ≡ true

-- a row on a list up to b, as far as its upper end goes, has its lower end on it too, if it is held
abbrev Lasting : Head → Tables → Type 0
Lasting h t =
    let S = window_start h.newest h.capacity in
    (i b : ℕ) → i < h.held → S ≤ get_or t.lower_ends i 0 → S + i ≤ b → (get_or t.upper_ends i 0 ≡ 0) ⊎ (b < get_or t.upper_ends i 0)
    → (get_or t.upper_ends (get_or t.lower_ends i 0 - S) 0 ≡ 0) ⊎ (b < get_or t.upper_ends (get_or t.lower_ends i 0 - S) 0)

-- a row lies behind the lower end of the row that its upper end names
abbrev Behind : Head → Tables → Type 0
Behind h t =
    let S = window_start h.newest h.capacity in
    (i j : ℕ) → i < h.held → j < h.held → get_or t.upper_ends i 0 ≡ S + j → get_or t.lower_ends j 0 < S + i

module _ (s : Reference) (l : Lent) (f : Invariant s l) where
  abbrev M : ℕ
  M = newest s

  abbrev S : ℕ
  S = window_start M s.capacity

  abbrev h : Head
  h = head_of s

  abbrev t : Tables
  t = l.tables

  -- as many rows as the window of N has positions
  held_is : h.held ≡ suc M - S
  unfolding head_of rows_of
  held_is = length-map (between S M) (row_of s) ∙ window_length s.capacity M

  -- the row at a place is the reference model's of its position
  row_at_lem : (i : ℕ) → i < h.held → row_at s.dimensions t i ≡ row_of s (S + i)
  unfolding head_of rows_of between book_rows rows_in
  row_at_lem i k = run_at (row_at s.dimensions t) (row_of s) h.held S (suc M - S) i (rows_read s l f) k (omega (arith, held_is))

  -- its columns and its ends
  columns_at_lem : (x : List ℕ) (i : ℕ) → i < h.held → Rattle.table_finding.specs.Found.row_at (held_rows h x t.columns t.upper_ends) i ≡ quote_at s.quotes (S + i)
  unfolding Rattle.table_finding.specs.Found.row_at row_at row_of head_of
  columns_at_lem x i k = ap Row.columns (row_at_lem i k)

  upper_at : (i : ℕ) → i < h.held → get_or t.upper_ends i 0 ≡ upper_end (reference.over s) M (S + i)
  unfolding row_at row_of
  upper_at i k = ap Row.upper_end (row_at_lem i k)

  lower_at : (i : ℕ) → i < h.held → get_or t.lower_ends i 0 ≡ (row_of s (S + i)).lower_end
  unfolding row_at
  lower_at i k = ap Row.lower_end (row_at_lem i k)

  -- ---- what need not be gone through

  module _ (x : List ℕ) where
    abbrev rs : Rows
    rs = held_rows h x t.columns t.upper_ends

    -- rows over the quote and under it, by their quotes
    under_at : (i : ℕ) → i < h.held → under rs i ≡ dominates s.dimensions s.directions (quote_at s.quotes (S + i)) x
    unfolding under head_of
    under_at i k = rw (columns_at_lem x i k)

    over_at_lem : (i : ℕ) → i < h.held → over rs i ≡ no_worse s.dimensions s.directions x (quote_at s.quotes (S + i))
    unfolding over head_of
    over_at_lem i k = rw (columns_at_lem x i k)

    -- a later position is over an earlier one if its quote is no worse
    abbrev later : (p q : ℕ) → q < p → reference.over s p q ≡ no_worse s.dimensions s.directions (quote_at s.quotes p) (quote_at s.quotes q)
    later = renewed_later s.dimensions s.directions s.quotes

    -- the youngest row over the quote is live, since a younger one over it would be over the quote too
    alive : (i : ℕ) → i < h.held → under rs i ≡ true → ((j : ℕ) → i < j → j < h.held → under rs j ≡ false) → live t.upper_ends i ≡ true
    unfolding live
    alive i k u none = rw (upper_at i k) (go (upper_end (reference.over s) M (S + i)) (upper_spec (reference.over s) M (S + i)).named)
      where
        go : (y : ℕ) → NoneOrYounger (reference.over s) M (S + i) y → eqb y 0 ≡ true
        go y (inl e) = eq-eqb y 0 e
        go y (inr n) =
            let j = y - S in
            let low : i < j = omega (arith, n.0) in
            let high : j < h.held = omega (arith, n.1, held_is) in
            let at : S + j ≡ y = omega (arith, n.0) in
            absurd (clash (under rs j)
            (under_at j high ∙ rw at (no_worse_dominates s.dimensions s.directions (quote_at s.quotes y) (quote_at s.quotes (S + i)) x (sym (later y (S + i) n.0) ∙ n.2) (sym (under_at i k) ∙ u)))
            (none j low high))

    -- a live row that the quote is over is younger than each row over the quote
    younger : (i j : ℕ) → i < h.held → j < h.held → retires rs i ≡ true → under rs j ≡ true → j < i
    unfolding retires live
    younger i j k m r u = go (order j i)
      where
        above : dominates s.dimensions s.directions (quote_at s.quotes (S + j)) (quote_at s.quotes (S + i)) ≡ true
        above =
            dominates_no_worse s.dimensions s.directions (quote_at s.quotes (S + j)) x (quote_at s.quotes (S + i)) (sym (under_at j m) ∙ u)
            (sym (over_at_lem i k) ∙ and_right (eqb (get_or t.upper_ends i 0) 0) (over rs i) r)

        free : upper_end (reference.over s) M (S + i) ≡ 0
        free = sym (upper_at i k) ∙ eqb-true (get_or t.upper_ends i 0) 0 (and_left (eqb (get_or t.upper_ends i 0) 0) (over rs i) r)

        go : (j < i) ⊎ ((j ≡ i) ⊎ (i < j)) → j < i
        go (inl w) = w
        go (inr (inl e)) = absurd (clash _ (rw e at above) (dominates_irreflexive s.dimensions s.directions (quote_at s.quotes (S + i))))
        go (inr (inr w)) = absurd (clash _ (later (S + j) (S + i) (omega arith) ∙ dominates_no_less s.dimensions s.directions (quote_at s.quotes (S + j)) (quote_at s.quotes (S + i)) above) ((upper_spec (reference.over s) M (S + i)).live free (S + j) (omega arith) (omega (arith, held_is))))

    sound : (a : ℕ) → Sound rs a h.held
    sound a = record { alive = λ i u k v n. alive i k v n; younger = λ i j u k r w m v. younger i j k m r v }

  -- ---- where lower ends may name the expired position

  abbrev g : ℕ
  g = expiring M s.capacity

  -- a position that expires is the first held
  first_held : 0 < g → (g ≡ S) × (0 < h.held)
  unfolding expiring window_start
  first_held z = omega (arith, held_is, some_capacity s l f)

  -- lower ends from there on do not name it
  unnamed : Unnamed g (named_before h t.upper_ends) h.held t.lower_ends
  unfolding head_of row_at
  unnamed = go (either (eqb g 0)) (either (eqb u 0))
    where
      u : ℕ
      u = get_or t.upper_ends 0 0

      -- where no position expires none is named
      none : g ≡ 0 → Unnamed g 0 h.held t.lower_ends
      none e = record { within = omega arith; same = λ i a b. renamed_same g (get_or t.lower_ends i 0) (λ z. absurd (omega arith)) }

      -- rows that name it lie before its upper end
      before : 0 < g → (u ≡ 0 → ⊥) → Unnamed g (u - g) h.held t.lower_ends
      before z n =
          let first = first_held z in
          let at : S + 0 ≡ g = omega (arith, first.0) in
          let same : u ≡ (row_of s g).upper_end = ap Row.upper_end (row_at_lem 0 first.1 ∙ ap (row_of s) at) in
          record {
            within = go' first (upper_spec (reference.over s) M (S + 0)).named (upper_at 0 first.1);
            same = λ i a b. renamed_same g (get_or t.lower_ends i 0) (λ p e.
                let w = named_before_upper s g (S + i) z (sym (lower_at i b) ∙ e) (rw (← same) (omega (arith, n))) in
                omega (arith, first.0, same, w, a));
          }
        where
          go' : (g ≡ S) × (0 < h.held) → NoneOrYounger (reference.over s) M (S + 0) (upper_end (reference.over s) M (S + 0)) → u ≡ upper_end (reference.over s) M (S + 0) → u - g ≤ h.held
          go' first (inl e) q = omega (arith, q, e)
          go' first (inr y) q = omega (arith, q, y.1, first.0, held_is)

      go : (eqb g 0 ≡ true) ⊎ (eqb g 0 ≡ false) → (eqb u 0 ≡ true) ⊎ (eqb u 0 ≡ false) → Unnamed g (named_before h t.upper_ends) h.held t.lower_ends
      go (inl e) q = rw (← before_none h t.upper_ends refl (eqb-true g 0 e)) (none (eqb-true g 0 e))
      go (inr e) (inl q) = rw (← before_live h t.upper_ends refl (eqb-false g 0 e) (eqb-true u 0 q)) (record { within = le_refl h.held; same = λ i a b. absurd (omega arith) })
      go (inr e) (inr q) = rw (← before_upper h t.upper_ends refl (eqb-false g 0 e) (eqb-false u 0 q)) (before (let z = eqb-false g 0 e in omega (arith, z)) (eqb-false u 0 q))

  -- ---- the tables are filled, so zeros stand behind the rows

  bounded : h.held ≤ h.capacity
  unfolding head_of
  bounded = rows_bounded s (some_capacity s l f)

  blank_cells : (p : Row → ℕ) (before : List ℕ) → Blank h.held h.capacity (padded h.capacity (map p (rows_of s)) before)
  unfolding head_of
  blank_cells p before = blank_padded s.capacity (length (rows_of s)) (map p (rows_of s)) before (omega (arith, length-map (rows_of s) p)) bounded

  blank_columns : Blank (h.held * h.dimensions) (h.capacity * h.dimensions) (padded (h.capacity * h.dimensions) (flat (map Row.columns (rows_of s))) t.columns)
  unfolding head_of
  blank_columns =
      blank_padded (s.capacity * s.dimensions) (length (rows_of s) * s.dimensions) (flat (map Row.columns (rows_of s))) t.columns
      (omega (arith, cells_counted s.dimensions (rows_of s) (rows_wide s f.wide))) (mul-le-mul_right s.dimensions bounded)

  clear : Clear h t
  unfolding filled head_of
  clear = record {
    columns = subst (λ (c : List ℕ). Blank (h.held * h.dimensions) (h.capacity * h.dimensions) c) (ap Tables.columns f.tables) blank_columns;
    positions = subst (Blank h.held h.capacity) (ap Tables.positions f.tables) (blank_cells Row.position t.positions);
    lower_ends = subst (Blank h.held h.capacity) (ap Tables.lower_ends f.tables) (blank_cells Row.lower_end t.lower_ends);
    upper_ends = subst (Blank h.held h.capacity) (ap Tables.upper_ends f.tables) (blank_cells Row.upper_end t.upper_ends);
  }

  -- ---- what the ends of rows say of one another

  window_one : 1 ≤ S
  unfolding window_start
  window_one = omega arith

  -- the row that a lower end names is held
  named_held : (i : ℕ) → i < h.held → S ≤ get_or t.lower_ends i 0 → get_or t.lower_ends i 0 - S < h.held
  unfolding row_of
  named_held i k m =
      let low : get_or t.lower_ends i 0 < S + i = rw (lower_at i k) (lower_below (reference.over s) S (S + i) (omega (arith, window_one))) in
      omega arith

  -- it lasts on every list on which the row below it does
  lasting : Lasting h t
  unfolding row_of head_of
  lasting i b k m e u =
      let p = get_or t.lower_ends i 0 in
      let high = named_held i k m in
      let at : S + (p - S) ≡ p = omega arith in
      rw (upper_at (p - S) high, at) (named_live_on s b p (S + i) (omega (arith, window_one)) (sym (lower_at i k)) e (rw (upper_at i k) at u))

  -- so the lower end of a live row names a live row
  live_named : LiveNamed h t
  unfolding live head_of
  live_named i k e m =
      let j = get_or t.lower_ends i 0 - S in
      go (get_or t.upper_ends j 0) (rw (upper_at j (named_held i k m)) (upper_most (reference.over s) M (S + j)))
      (lasting i M k m (omega (arith, held_is)) (inl (eqb-true (get_or t.upper_ends i 0) 0 e)))
    where
      go : (u : ℕ) → u ≤ M → (u ≡ 0) ⊎ (M < u) → eqb u 0 ≡ true
      go u w (inl z) = eq-eqb u 0 z
      go u w (inr z) = absurd (omega arith)

  -- a row lies behind the lower end of the row that its upper end names
  behind : Behind h t
  unfolding row_of head_of
  behind i j k l e =
      rw (lower_at j l) (named_behind_lower s (S + j) (S + i) (omega (arith, window_one)) (omega (arith, window_one)) (sym (upper_at i k) ∙ e))

-- before any opening no settings hold
no_capacity : {A : Type 0} → 1 ≤ (head_of unopened).capacity → A
unfolding head_of
no_capacity k = absurd (omega arith)

-- on a book that calls left, once opened, no row need be gone through beyond the youngest live one over the quote
pub reached_sound : {h : Head} {t : Tables} {ws : List ℕ} (x : List ℕ) → Reached (world h t ws) → 1 ≤ h.capacity → Sound (held_rows h x t.columns t.upper_ends) (expired_places h) h.held
reached_sound {h} {t} {ws} x =
    reached_by (λ w. 1 ≤ w.head.capacity → Sound (held_rows w.head x w.lent.tables.columns w.lent.tables.upper_ends) (expired_places w.head) w.head.held)
    (λ l k. no_capacity k) (λ s l f k. sound s l f x (expired_places (head_of s)))

-- zeros stand behind its rows
pub reached_clear : {h : Head} {t : Tables} {ws : List ℕ} → Reached (world h t ws) → 1 ≤ h.capacity → Clear h t
reached_clear {h} {t} {ws} = reached_by (λ w. 1 ≤ w.head.capacity → Clear w.head w.lent.tables) (λ l k. no_capacity k) (λ s l f k. clear s l f)

-- the rows that name the expired position lie before its upper end
pub reached_unnamed : {h : Head} {t : Tables} {ws : List ℕ} → Reached (world h t ws) → 1 ≤ h.capacity
    → Unnamed (expiring h.newest h.capacity) (named_before h t.upper_ends) h.held t.lower_ends
unfolding head_of
reached_unnamed {h} {t} {ws} =
    reached_by
    (λ w. 1 ≤ w.head.capacity → Unnamed (expiring w.head.newest w.head.capacity) (named_before w.head w.lent.tables.upper_ends) w.head.held w.lent.tables.lower_ends)
    (λ l k. no_capacity k) (λ s l f k. unnamed s l f)

-- and the lower end of a live row, if it is held, is that of a live row
pub reached_live : {h : Head} {t : Tables} {ws : List ℕ} → Reached (world h t ws) → 1 ≤ h.capacity → LiveNamed h t
reached_live {h} {t} {ws} =
    reached_by (λ w. 1 ≤ w.head.capacity → LiveNamed w.head w.lent.tables) (λ l k. no_capacity k) (λ s l f k. live_named s l f)

-- which lasts on every list on which that row does
pub reached_lasting : {h : Head} {t : Tables} {ws : List ℕ} → Reached (world h t ws) → 1 ≤ h.capacity → Lasting h t
reached_lasting {h} {t} {ws} =
    reached_by (λ w. 1 ≤ w.head.capacity → Lasting w.head w.lent.tables) (λ l k. no_capacity k) (λ s l f k. lasting s l f)

-- and a row lies behind the lower end of the row that its upper end names
pub reached_behind : {h : Head} {t : Tables} {ws : List ℕ} → Reached (world h t ws) → 1 ≤ h.capacity → Behind h t
reached_behind {h} {t} {ws} =
    reached_by (λ w. 1 ≤ w.head.capacity → Behind w.head w.lent.tables) (λ l k. no_capacity k) (λ s l f k. behind s l f)
