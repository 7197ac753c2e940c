-- A row put behind the rows held: from the rows that are left on, the places of the table are those that it would have been settled to.
use mathlib.Core.Path.{◌≡◌, refl, sym, ap, ◌∙◌}
use mathlib.Core.Logic.{◌⊎◌, inl, inr}
use Prim.Native.Nat.{ℕ, ◌+◌, ◌-◌, ◌*◌, ◌≤◌, ◌<◌}
use native.Mathlib.Nat.{le_refl, mul-one, one-mul, zero-mul, mul-le-mul_right, suc-mul}
use native.Mathlib.Decide.{dec_lt}
use native.Mathlib.Omega.{arith}
use mathlib.Core.Bool.{true}
use mathlib.Core.List.{List, [], ◌∷◌, ◌++◌, map, append_assoc}
use lib.ListN.{length, take, drop, replicate, length-append, length-drop, length-replicate, length-map}
use lib.Seq.{paste, length_front, length-paste, length-take-le, take-length, take_at, take-append-add, take-add, drop_at, drop-append-le}
use Rattle.lists.specs.Lists.{padded}
use Rattle.lists.proofs.Writing.{take_padded}
use Rattle.head.specs.declared.Head.{Head}
use Rattle.model.specs.Rows.{renamed}
use Rattle.model_claims.specs.Places.{SameFront}
use Rattle.table_cells.specs.Marked.{marked, Below}
use Rattle.table_cells.proofs.Marking.{length_marked}
use Rattle.call_settling.specs.Blank.{Blank}
use Rattle.call_settling.specs.Findings.{expired_places}
use Rattle.call_settling.specs.Settled.{rows_put, lowers_put, uppers_put, rows_behind, rows_settled, lowers_settled, uppers_settled, Ready, Unnamed}
use Rattle.call_settling.proofs.Blanks.{blank_later, blank_same}
use Rattle.call_settling.proofs.Putting.{sizes, row_fits, ready_same, lowers_behind, lowers_put_lem, marked_same, uppers_put_lem}

-- the first cells of a list in two parts, of which the first is shorter
take_over : (n : ℕ) (l m : List ℕ) → length l ≤ n → take n (l ++ m) ≡ l ++ take (n - length l) m
take_over n l m h =
    let s : length l + (n - length l) ≡ n = omega arith in
    ap (λ (k : ℕ). take k (l ++ m)) (sym s) ∙ take-append-add l m (n - length l)

-- the first cells but those that are lost
drop_take : (n m : ℕ) (l : List ℕ) → n ≤ m → m ≤ length l → drop n (take m l) ≡ take (m - n) (drop n l)
drop_take n m l h k =
    let s : n + (m - n) ≡ m = omega arith in
    ap (λ (j : ℕ). drop n (take j l)) (sym s) ∙ ap (drop n) (take-add n (m - n) l)
    ∙ drop_at (take n l) (take (m - n) (drop n l)) n (length-take-le n l (omega arith))

module _ (cells row : List ℕ) (b at n : ℕ) (h : b ≤ at) (k : at + length row ≤ length cells) (l : at - b + length row ≤ n) where
  -- what is left of the table, and the row behind it
  abbrev front : List ℕ
  front = take (at - b) (drop b cells) ++ row

  front# : length front ≡ at - b + length row
  front# =
      length-append (take (at - b) (drop b cells)) row
      ∙ ap (λ (j : ℕ). j + length row) (length-take-le (at - b) (drop b cells) (omega (arith, length-drop b cells)))

  -- the table with the row in it, from what is left on
  laid_front : drop b (paste cells at row (length row)) ≡ front ++ drop (at + length row) cells
  laid_front =
      ap (drop b) (append_assoc (take at cells) (take (length row) row) (drop (at + length row) cells))
      ∙ drop-append-le b (take at cells) (take (length row) row ++ drop (at + length row) cells) (omega (arith, length-take-le at cells (omega arith)))
      ∙ rw (drop_take b at cells h (omega arith), take-length, append_assoc)

  -- its first n cells are those of what is left, the row and zeros, where zeros follow already
  pub front_same : n + b ≤ length cells → take (n - (at - b + length row)) (drop (at + length row) cells) ≡ replicate (n - (at - b + length row)) 0
      → SameFront n (padded n front cells) (drop b (paste cells at row (length row)))
  front_same m e = record {
    long = omega (arith, length-drop b (paste cells at row (length row)), length-paste cells at row (length row) k (le_refl (length row)));
    same =
        ap (take n) laid_front ∙ take_over n front (drop (at + length row) cells) (omega (arith, front#))
        ∙ rw front# (ap (λ (r : List ℕ). front ++ r) e)
        ∙ rw front# at (sym (take_padded n front cells (omega (arith, front#))));
  }

-- zeros follow where nothing is lost and all from the rows on were zeros, or the row that came fills what one lost left
zeros_follow : {at n : ℕ} {cells : List ℕ} (b r : ℕ) → Blank at n cells → ((b ≡ 0) × (at + r ≤ n)) ⊎ ((b ≡ r) × (at ≡ n) × (b ≤ at))
    → take (n - (at - b + r)) (drop (at + r) cells) ≡ replicate (n - (at - b + r)) 0
zeros_follow {at} {n} {cells} b r z (inl h) =
    let s : n - (at - b + r) ≡ n - (at + r) = omega (arith, h.0) in
    rw (s, (blank_later (at + r) (omega arith) h.1 z).zeros) (take_at (replicate (n - (at + r)) 0) (drop n cells) (n - (at + r)) (length-replicate {A = ℕ} (n - (at + r)) 0))
zeros_follow {at} {n} b r z (inr h) = let s : n - (at - b + r) ≡ 0 = omega (arith, h) in rw s

-- ---- a table of so many cells a row

module _ {h : Head} {w by : ℕ} {cells : List ℕ} (v : Ready h true w by cells) (b : Blank (h.held * w) (h.capacity * w) cells) (x : by ≡ expired_places h) where
  -- nothing is lost and there is room for a row below place N, or one row is lost of N
  lost : Dec (h.held < h.capacity) → ((by * w ≡ 0) × (h.held * w + w ≤ h.capacity * w)) ⊎ ((by * w ≡ w) × (h.held * w ≡ h.capacity * w) × (by * w ≤ h.held * w))
  unfolding expired_places
  lost (yes l) = let z : by ≡ 0 = omega (arith, x) in inl (rw z (zero-mul w), omega (arith, suc-mul h.held w, mul-le-mul_right w l))
  lost (no n) =
      let z : by ≡ 1 = omega (arith, x, v.held_fit) in
      let e : h.held ≡ h.capacity = omega (arith, v.held_fit) in
      inr (rw z (one-mul w), rw e, mul-le-mul_right w v.by_held)

  -- at most one row is lost
  lost_bounded : by * w ≤ w
  unfolding expired_places
  lost_bounded = let k : by ≤ 1 = omega (arith, x, v.held_fit) in omega (arith, mul-le-mul_right w k, one-mul w)

  -- from what is left on, its N places are those that it would have been settled to
  pub rows_slid : (row : List ℕ) {after : List ℕ} → length row ≡ w → after ≡ rows_settled h true w by row cells → SameFront (h.capacity * w) (rows_put h w by row cells) (drop (by * w) after)
  unfolding rows_put rows_behind rows_settled
  rows_slid row e f =
      rw f (front_same cells row (by * w) (h.held * w) (h.capacity * w) (mul-le-mul_right w v.by_held) (omega (arith, e, v.spare refl, sizes v)) (row_fits v e) (omega (arith, lost_bounded, v.spare refl))
      (rw e (zeros_follow (by * w) w b (lost (dec_lt h.held h.capacity)))))

-- ---- a table of one cell a row

one_slid : (h : Head) (by : ℕ) {put : List ℕ} (after : List ℕ) → SameFront (h.capacity * 1) put (drop (by * 1) after) → SameFront h.capacity put (drop by after)
one_slid h by after s = rw (mul-one h.capacity, mul-one by) at s

one_blank : (h : Head) {cells : List ℕ} → Blank h.held h.capacity cells → Blank (h.held * 1) (h.capacity * 1) cells
one_blank h b = rw (mul-one h.held, mul-one h.capacity) b

module _ {h : Head} {by : ℕ} {cells : List ℕ} (v : Ready h true 1 by cells) (b : Blank h.held h.capacity cells) (x : by ≡ expired_places h) where
  -- one cell laid behind the others
  pub cells_slid : (y : ℕ) {after : List ℕ} → after ≡ rows_settled h true 1 by (y ∷ []) cells → SameFront h.capacity (rows_put h 1 by (y ∷ []) cells) (drop by after)
  cells_slid y f = one_slid h by _ (rows_slid v (one_blank h b) x (y ∷ []) refl f)

  -- the lower ends
  pub lowers_slid : {gone named : ℕ} (lower : ℕ) {after : List ℕ} → Unnamed gone named h.held cells → after ≡ lowers_settled h true by gone named lower cells
      → SameFront h.capacity (lowers_put h by gone lower cells) (drop by after)
  unfolding lowers_settled
  lowers_slid {gone} {named} lower u f =
      let n : length (map (renamed gone) (take named cells) ++ drop named cells) ≡ length cells = length_front cells (map (renamed gone) (take named cells)) named (length-map (take named cells) (renamed gone)) in
      rw (← lowers_put_lem v u refl lower n refl) (one_slid h by _ (rows_slid (ready_same v n) (one_blank h (blank_same (lowers_behind v u refl) b)) x (lower ∷ []) refl f))

  -- the upper ends
  pub uppers_slid : {places after : List ℕ} → Below places h.held → after ≡ uppers_settled h true by places cells → SameFront h.capacity (uppers_put h by places cells) (drop by after)
  unfolding uppers_settled
  uppers_slid {places} p f =
      let n : length (marked places (h.newest + 1) cells) ≡ length cells = length_marked places (h.newest + 1) cells in
      rw (← uppers_put_lem v p refl refl) (one_slid h by _ (rows_slid (ready_same v n) (one_blank h (blank_same (marked_same v p refl h.held (le_refl h.held)) b)) x (0 ∷ []) refl f))
