-- The answers of the import, case by case.
use mathlib.Core.Path.{◌≡◌, refl}
use Prim.Native.Nat.{ℕ, zero, suc, ◌+◌, ◌*◌, ◌/◌, ◌≤◌, ◌<◌}
use native.Mathlib.Nat.{div-lt_iff_lt-mul}
use native.Mathlib.Omega.{arith}
use mathlib.Core.Logic.{◌⊎◌, inl, inr}
use mathlib.Core.Bool.{Bool, true, false, ◌&&◌, cond}
use mathlib.Core.List.{List, [], ◌∷◌}
use lib.Dec.{ltb, eqb}
use lib.ListN.{length, length-append}
use borrow.Author.Tests.{le-leb, lt-leb, lt-ltb, le-ltb, eq-eqb, ltb-true, ltb-false, eqb-true}
use Rattle.lists.specs.Lists.{laid}
use Rattle.lists.proofs.Booleans.{either, both, and_false}
use Rattle.std.specs.Prelude.{Result, Ok, Err, IfOk}
use Rattle.refusals.specs.Refusals.{first_of, granted}
use Rattle.frame_kinds.specs.Kinds.{within}
use Rattle.csv_frames.specs.Lines.{lines, fits, all_fit}
use Rattle.csv_frames.specs.declared.NotImported.{NotImported}
use Rattle.csv_frames.specs.Imports.{misfit_from, misfit, frames_of, import_answer, import_line, count_of, Imports}
use Rattle.csv_frames.specs.Reading.{judgement, Ready}
use Rattle.csv_frames.proofs.Frames.{frames_long}

-- no line is named exactly where all fit
pub none_misfit_fits : (k d : ℕ) (ls : List (List ℕ)) → misfit_from (suc k) d ls ≡ 0 → all_fit d ls ≡ true
unfolding misfit_from all_fit
none_misfit_fits k d [] e = refl
none_misfit_fits k d (l ∷ ls) e = go (either (fits d l)) (none_misfit_fits (suc k) d ls)
  where
    go : (fits d l ≡ true) ⊎ (fits d l ≡ false) → (misfit_from (suc (suc k)) d ls ≡ 0 → all_fit d ls ≡ true) → fits d l && all_fit d ls ≡ true
    go (inl t) r = both (fits d l) (all_fit d ls) t (r (rw t at e))
    go (inr t) r = absurd (let z : suc k ≡ 0 = rw t at e in omega arith)

-- the first line that does not fit
judged_misfit : (d : ℕ) (file : List ℕ) {reason : NotImported} → Err reason ≡ judgement d file → (reason ≡ NotImported.MalformedLine (misfit d file)) × (eqb (misfit d file) 0 ≡ false)
unfolding judgement
judged_misfit d file e = go (eqb (misfit d file) 0) e
  where
    go : (b : Bool) {reason : NotImported} → Err reason ≡ cond b (Ok (length (lines file))) (Err (NotImported.MalformedLine (misfit d file)))
        → (reason ≡ NotImported.MalformedLine (misfit d file)) × (b ≡ false)
    go true e = absurd (cc)
    go false e = (cc, refl)

-- how many lines there are where all fit
judged_lines : (d : ℕ) (file : List ℕ) {count : ℕ} → Ok count ≡ judgement d file → (count ≡ length (lines file)) × (misfit d file ≡ 0)
unfolding judgement
judged_lines d file e = let held = go (eqb (misfit d file) 0) e in (held.0, eqb-true (misfit d file) 0 held.1)
  where
    go : (b : Bool) {count : ℕ} → Ok count ≡ cond b (Ok (length (lines file))) (Err (NotImported.MalformedLine (misfit d file))) → (count ≡ length (lines file)) × (b ≡ true)
    go true e = (cc, refl)
    go false e = absurd (cc)

-- a d that a quote has
pub columns_within : (d : ℕ) → 1 ≤ d → d ≤ 6 → within 1 6 d ≡ true
columns_within d h k = rw (le-leb 1 d h, le-leb d 6 k)

module _ (d : ℕ) (file before : List ℕ) where
  pub refused_settings : within 1 6 d ≡ false → Imports d file before (Err NotImported.Settings) before
  unfolding import_answer import_line first_of granted
  refused_settings w = record { answer = rw w; count = rw w; line = rw w; bytes = rw w }

  pub refused_few : d < 1 → Imports d file before (Err NotImported.Settings) before
  refused_few h = refused_settings (rw (lt-leb 1 d h))

  pub refused_many : 6 < d → Imports d file before (Err NotImported.Settings) before
  refused_many h = refused_settings (rw (lt-leb d 6 h, and_false))

  module _ (h : 1 ≤ d) (k : d ≤ 6) where
    pub refused_line : {reason : NotImported} → Err reason ≡ judgement d file → Imports d file before (Err reason) before
    unfolding import_answer import_line first_of granted
    refused_line e =
        let w = columns_within d h k in
        let m = judged_misfit d file e in
        rw m.0 (record { answer = rw (w, m.1); count = rw (w, m.1); line = rw (w, m.1); bytes = rw (w, m.1) })

    module _ {count : ℕ} (e : Ok count ≡ judgement d file) where
      none : misfit d file ≡ 0
      none = (judged_lines d file e).1

      same_lines : count ≡ length (lines file)
      same_lines = (judged_lines d file e).0

      size : length (frames_of d (lines file)) ≡ length (lines file) * (1 + 4 * d)
      size = frames_long d h k (lines file)

      pub refused_short : length before / (1 + 4 * d) < count → Imports d file before (Err NotImported.ShortOutput) before
      unfolding import_answer import_line first_of granted
      refused_short s =
          let short : length before / (1 + 4 * d) < length (lines file) = rw (← same_lines) s in
          let less : length before < length (lines file) * (1 + 4 * d) = (div-lt_iff_lt-mul {k = 1 + 4 * d} {x = length before} {y = length (lines file)} (omega arith)).0 short in
          let w = columns_within d h k in
          let m : eqb (misfit d file) 0 ≡ true = eq-eqb (misfit d file) 0 none in
          let l : ltb (length before) (length (frames_of d (lines file))) ≡ true = lt-ltb (length before) (length (frames_of d (lines file))) (rw size less) in
          record { answer = rw (w, m, l); count = rw (w, m, l); line = rw (w, m, l); bytes = rw (w, m, l) }

      pub ready : count ≤ length before / (1 + 4 * d) → Ready d file before
      unfolding misfit
      ready s =
          record {
            least = h;
            most = k;
            fit = none_misfit_fits 0 d (lines file) none;
            room = enough (either (ltb (length before) (length (lines file) * (1 + 4 * d))));
          }
        where
          enough : (ltb (length before) (length (lines file) * (1 + 4 * d)) ≡ true) ⊎ (ltb (length before) (length (lines file) * (1 + 4 * d)) ≡ false) → length (frames_of d (lines file)) ≤ length before
          enough (inl t) =
              let short : length before / (1 + 4 * d) < length (lines file) = (div-lt_iff_lt-mul {k = 1 + 4 * d} {x = length before} {y = length (lines file)} (omega arith)).1 (ltb-true (length before) (length (lines file) * (1 + 4 * d)) t) in
              absurd (omega (arith, same_lines))
          enough (inr t) = omega (arith, size, ltb-false (length before) (length (lines file) * (1 + 4 * d)) t)

      pub accepted : {used : ℕ} {after : List ℕ} → Ready d file before → used ≡ length (frames_of d (lines file)) → after ≡ laid (frames_of d (lines file)) before
          → Imports d file before (Ok used) after
      unfolding import_answer import_line first_of granted
      accepted v c b =
          let w = columns_within d h k in
          let m : eqb (misfit d file) 0 ≡ true = eq-eqb (misfit d file) 0 none in
          let l : ltb (length before) (length (frames_of d (lines file))) ≡ false = le-ltb (length before) (length (frames_of d (lines file))) v.room in
          record { answer = rw (w, m, l); count = rw (w, m, l) c; line = rw (w, m, l); bytes = rw (w, m, l) b }

-- ---- what callers need

-- the bytes that are counted stand in the output
pub imported_fits : {d : ℕ} {file before after : List ℕ} {r : Result ℕ NotImported} → Imports d file before r after → IfOk r (λ count. count ≤ length after)
unfolding granted laid
imported_fits {d} {file} {before} {after} {r} v = ok r (rw (v.count, v.bytes) (go (import_answer d file (length before))))
  where
    frames : List ℕ
    frames = frames_of d (lines file)

    go : (answer : ℕ) → granted answer (length frames) 0 ≤ length (granted answer (laid frames before) before)
    go zero = rw length-append (omega arith)
    go (suc k) = omega arith

    ok : (r : Result ℕ NotImported) → count_of r ≤ length after → IfOk r (λ count. count ≤ length after)
    ok (Ok count) h = h
    ok (Err reason) h = tt
