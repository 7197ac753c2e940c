-- The text that is gathered: lines laid behind it, and more behind those.
use mathlib.Core.Path.{◌≡◌, sym, ap, ◌∙◌}
use Prim.Native.Nat.{ℕ, ◌+◌, ◌-◌, ◌≤◌}
use native.Mathlib.Omega.{arith}
use mathlib.Core.List.{List, [], ◌++◌, append-nil, append_assoc}
use lib.ListN.{length, take, drop, length-append, length-drop, drop_of_length-le, take-append-drop}
use lib.Seq.{length-take-le, take_all, take_at, drop-drop, drop-append-add}
use borrow.Rule.Slice.PartMut.{mid_of, put_mid}
use Rattle.lists.specs.Lists.{laid}
use Rattle.tape_playback.specs.declared.Playback.{Playback}
use Rattle.tape_playback.specs.Played.{Gathered}

-- a list laid over its own beginning
laid_over : (xs ys before : List ℕ) → laid (xs ++ ys) (laid xs before) ≡ laid (xs ++ ys) before
unfolding laid
laid_over xs ys before = rw (length-append xs ys, drop-append-add xs (drop (length xs) before) (length ys), drop-drop (length ys) (length xs) before)

-- no lines, behind what is gathered
pub gathered_none : (s : Playback) (before : List ℕ) → s.used ≤ length before → Gathered s s [] before before
unfolding laid
gathered_none s before h = record {
  used = omega arith;
  text = sym (rw (append-nil, length-take-le s.used before h) (take-append-drop s.used before));
}

-- lines that were laid into the part of the text behind what is gathered
pub gathered_behind : (s : Playback) (lines before : List ℕ) {r : Playback} {last : List ℕ} → s.used ≤ length before → r.used ≡ s.used + length lines
    → last ≡ laid lines (mid_of s.used (length before - s.used) before) → Gathered s r lines before (put_mid s.used (length before - s.used) before last)
unfolding laid
gathered_behind s lines before h u e =
    let at : ℕ = s.used in
    let rest : List ℕ = drop at before in
    let whole : mid_of at (length before - at) before ≡ rest = take_all (length before - at) rest (omega (arith, length-drop at before)) in
    let spent : drop (length before - at) rest ≡ [] = drop_of_length-le rest {i = length before - at} (omega (arith, length-drop at before)) in
    record {
      used = u;
      text =
          rw (e, whole, spent, append-nil, length-append (take at before) lines, length-take-le at before h, ← (drop-drop (length lines) at before))
          (sym (append_assoc (take at before) lines (drop (length lines) rest)));
    }

module _ {s r : Playback} {lines before after : List ℕ} (g : Gathered s r lines before after) (h : s.used ≤ length before) where
  -- how long it is
  long : length (take s.used before ++ lines) ≡ r.used
  long = omega (arith, length-append (take s.used before) lines, length-take-le s.used before h, g.used)

  -- what is gathered then
  pub gathered_lines : take r.used after ≡ take s.used before ++ lines
  unfolding laid
  gathered_lines = rw g.text (take_at (take s.used before ++ lines) (drop (length (take s.used before ++ lines)) before) r.used long)

  -- it stands within the text
  pub gathered_fits : r.used ≤ length after
  unfolding laid
  gathered_fits =
      let l : List ℕ = take s.used before ++ lines in
      omega (arith, ap length g.text, length-append l (drop (length l) before), long)

  -- and more lines behind them
  pub gathered_more : {q : Playback} {more last : List ℕ} → Gathered r q more after last → Gathered s q (lines ++ more) before last
  gathered_more {q} {more} f =
      let l : List ℕ = take s.used before ++ lines in
      let laid_there : laid (take r.used after ++ more) after ≡ laid (l ++ more) (laid l before) = rw (gathered_lines, g.text) in
      record {
        used = omega (arith, f.used, g.used, length-append lines more);
        text = f.text ∙ laid_there ∙ laid_over l more before ∙ ap (λ (xs : List ℕ). laid xs before) (append_assoc (take s.used before) lines more);
      }
