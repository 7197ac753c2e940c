-- An array of cells lent down in two halves, and what stands in it when both are back.
use mathlib.Core.Path.{◌≡◌, ap, ◌∙◌}
use Prim.Native.Nat.{ℕ, ◌+◌, ◌-◌, ◌/◌, ◌≤◌}
use native.Mathlib.Omega.{arith}
use mathlib.Core.Bool.{Bool, true, false}
use mathlib.Core.List.{List, ◌++◌, append-nil}
use lib.ListN.{length, take, drop, length-append, length-take, length-drop, drop_of_length-le}
use lib.Seq.{length-take-le, take_at, drop_at, take-append-le}
use Rattle.day_skyline.specs.Finding.{cut, Halved, merged, AtFront, Part, sheet_from}
use Rattle.day_skyline.proofs.Merging.{part_rises, part_by_halves}

-- what stands at the front is no longer than what it stands in
pub front_fits : (l : List ℕ) (found : ℕ) (after : List ℕ) → AtFront l found after → found ≤ length after
front_fits l found after a = omega (arith, ap length a.front, length-take found after, a.counted)

module _ (cells : List ℕ) where
  abbrev half : ℕ
  half = length cells / 2

  pub half_counted : length (take half cells) ≡ half
  half_counted = length-take-le half cells (omega arith)

  module _ {count first : ℕ} (p : Part count first (length cells)) where
    pub older_part : Part count first (length (take half cells))
    older_part = record { low = p.low; high = rw half_counted (let k = p.high in omega arith) }

  module _ (last : List ℕ) (same : length last ≡ length (take half cells)) where
    -- the older half is back
    abbrev mid : List ℕ
    mid = last ++ drop half cells

    last_counted : length last ≡ half
    last_counted = same ∙ half_counted

    mid_counted : length mid ≡ length cells
    mid_counted = rw (length-append, last_counted, length-drop) (omega arith)

    -- the newer half
    abbrev rest : List ℕ
    rest = take (length mid - half) (drop half mid)

    pub rest_counted : length rest ≡ length cells - half
    rest_counted =
        length-take-le (length mid - half) (drop half mid) (simp length-drop (omega (arith, mid_counted))) ∙ omega (arith, mid_counted)

    pub newer_part : {count first : ℕ} → Part count first (length cells) → Part count (first + half) (length rest)
    newer_part p =
        let l = p.low in
        let k = p.high in
        record { low = omega arith; high = rw rest_counted (omega arith) }

    module _ (last2 : List ℕ) (same2 : length last2 ≡ length rest) where
      -- both are back
      abbrev whole : List ℕ
      whole = take half mid ++ (last2 ++ drop (length mid - half) (drop half mid))

      whole_is : whole ≡ last ++ last2
      whole_is =
          let k : length (drop half mid) ≤ length mid - half = simp length-drop (omega arith) in
          rw (take_at last (drop half cells) half last_counted, drop_of_length-le (drop half mid) {i = length mid - half} k, append-nil)

      pub whole_counted : length whole ≡ length cells
      whole_counted = rw (whole_is, length-append, last_counted, same2, rest_counted) (omega arith)

      module _ (dom : ℕ → ℕ → Bool) (count first : ℕ) (p : Part count first (length cells)) {older newer : ℕ}
          (one : AtFront (sheet_from dom first (length (take half cells))) older last)
          (two : AtFront (sheet_from dom (first + half) (length rest)) newer last2) where
        older_is : take older whole ≡ sheet_from dom first (length (take half cells))
        older_is = rw (whole_is, take-append-le older last last2 (front_fits (sheet_from dom first (length (take half cells))) older last one)) one.front

        newer_is : cut half (half + newer) whole ≡ sheet_from dom (first + half) (length rest)
        unfolding cut
        newer_is = let e : half + newer - half ≡ newer = omega arith in rw (whole_is, e, drop_at last last2 half last_counted) two.front

        pub halved : Halved count whole half older newer
        halved = record {
          older_fits = omega (arith, front_fits (sheet_from dom first (length (take half cells))) older last one, last_counted);
          newer_fits = omega (arith, front_fits (sheet_from dom (first + half) (length rest)) newer last2 two, same2, rest_counted, whole_counted);
          older_rises = rw older_is (part_rises dom count first (length (take half cells)) (older_part p));
          newer_rises = rw newer_is (part_rises dom count (first + half) (length rest) (newer_part p));
        }

        -- the sheets of the halves put together are the sheet
        pub sheet_by_halves : ((q : ℕ) → dom q q ≡ false) → ((q r s : ℕ) → dom q r ≡ true → dom r s ≡ true → dom q s ≡ true) → 2 ≤ length cells
            → {end : ℕ} {after : List ℕ} → AtFront (merged dom (take older whole) (cut half (half + newer) whole)) end after
            → AtFront (sheet_from dom first (length cells)) end after
        sheet_by_halves irreflexive transitive some a =
            let e = part_by_halves dom count first (length cells) p irreflexive transitive half (omega arith) (omega arith) in
            rw (← e) (rw (older_is, newer_is, half_counted, rest_counted) at a)
