-- The judgement of a file, line by line.
use mathlib.Core.Path.{◌≡◌, refl, sym, ap, ◌∙◌}
use Prim.Native.Nat.{ℕ, suc, ◌+◌, ◌≤◌, ◌<◌}
use native.Mathlib.Omega.{arith}
use native.Mathlib.Numerals.{add-one}
use mathlib.Core.Bool.{true, false}
use mathlib.Core.List.{List, []}
use lib.Dec.{eqb}
use borrow.Author.Tests.{ne_eqb}
use lib.ListN.{length, drop, drop_of_length-le}
use Rattle.std.specs.Prelude.{Some, None, Ok, Err}
use Rattle.csv_frames.specs.Lines.{lines, fits}
use Rattle.csv_frames.specs.declared.Line.{Line}
use Rattle.csv_frames.specs.declared.NotImported.TheVariants.{MalformedLine}
use Rattle.csv_frames.specs.Imports.{misfit_from, misfit}
use Rattle.csv_frames.specs.Reading.{LineAt, judgement}

-- so many lines were passed, and all fit
pub record Judging (d : ℕ) (file : List ℕ) (place passed : ℕ) : Type 0 where
  pub inside : place ≤ length file
  pub few : passed ≤ place
  pub first : misfit d file ≡ misfit_from (suc passed) d (lines (drop place file))
  pub count : length (lines file) ≡ passed + length (lines (drop place file))

pub judging_start : (d : ℕ) (file : List ℕ) → Judging d file 0 0
unfolding misfit
judging_start d file = record { inside = omega arith; few = omega arith; first = refl; count = omega arith }

module _ {d : ℕ} {file : List ℕ} {place passed : ℕ} (v : Judging d file place passed) where
  -- a line that fits
  pub judging_more : {r : Line} → LineAt d file place (Some r) → Judging d file r.next (passed + 1)
  unfolding misfit_from
  judging_more {r} a =
      let fit : fits d a.line ≡ true = sym a.fitting in
      let on : place < r.next = a.read.onward in
      record {
        inside = a.read.inside;
        few = let f = v.few in omega arith;
        first = rw add-one (v.first ∙ ap (misfit_from (suc passed) d) a.cut ∙ rw fit (ap (misfit_from (suc (suc passed)) d) (sym a.read.next)));
        count =
            let one : length (lines (drop place file)) ≡ suc (length (lines (drop r.next file))) = ap length a.cut ∙ ap (λ (ls : List (List ℕ)). suc (length ls)) (sym a.read.next) in
            omega (arith, v.count);
      }

  -- one that does not
  pub judging_misfit : LineAt d file place None → Err (MalformedLine (passed + 1)) ≡ judgement d file
  unfolding judgement misfit_from
  judging_misfit a =
      let wrong : fits d a.line ≡ false = sym a.fitting in
      let e : misfit d file ≡ suc passed = v.first ∙ ap (misfit_from (suc passed) d) a.cut ∙ rw wrong in
      let some : eqb (suc passed) 0 ≡ false = ne_eqb (suc passed) 0 (λ z. omega arith) in
      rw (e, add-one, some)

  -- the end of the file
  pub judging_end : length file ≤ place → Ok passed ≡ judgement d file
  unfolding judgement misfit_from lines
  judging_end h =
      let none : drop place file ≡ [] = drop_of_length-le file h in
      let e : misfit d file ≡ 0 = v.first ∙ ap (λ (l : List ℕ). misfit_from (suc passed) d (lines l)) none in
      let k : length (lines file) ≡ passed = v.count ∙ ap (λ (l : List ℕ). passed + length (lines l)) none ∙ omega arith in
      rw (e, k)
