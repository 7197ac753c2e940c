-- A line fits exactly if it is what is printed of some d numbers, and a file whose lines all fit spells their quotes.
use mathlib.Core.Path.{◌≡◌, refl, sym, ap, ap₂, ◌∙◌}
use Prim.Native.Nat.{ℕ, ◌+◌, ◌-◌, ◌≤◌}
use native.Mathlib.Omega.{arith}
use mathlib.Core.Bool.{true, ◌&&◌, not}
use mathlib.Core.List.{List, [], ◌∷◌, ◌++◌, map, append-nil}
use lib.Dec.{eqb}
use lib.ListN.{length, drop, replicate, replicate-append-replicate}
use borrow.Author.Tests.{eqb-true, eq-eqb, not-true}
use Rattle.lists.specs.Lists.{flat}
use Rattle.lists.proofs.Booleans.{clash, both, and_left, and_right, or_right}
use Rattle.text.specs.Text.{digits}
use Rattle.line_fields.specs.declared.Fields.{Fields}
use Rattle.line_fields.specs.Fields.{field_by, small, no_field, fields_from, in_fields, field_bytes}
use Rattle.line_fields.proofs.Spelled.{fields_of, all_read}
use Rattle.line_fields.proofs.Unspelled.{unspelled}
use Rattle.csv_frames.specs.Lines.{joined, lines, line_fields, fits, all_fit, uncut, all_uncut, full, last_full}
use Rattle.csv_frames.specs.Spelling.{row, quotes_of, Spells}
use Rattle.csv_frames.proofs.Cutting.{plain, Stop, end, foreign, fronted, front_plain, foreign_misfit, no_return, none_misfit}
use Rattle.csv_frames.proofs.Unique.{cut_lines, lines_joined}

-- ---- rows

-- a row with a comma before it is what is printed of its numbers with a comma before each
row_printed : (n : ℕ) (ns : List ℕ) → 44 ∷ row (n ∷ ns) ≡ flat (map (field_by 44) (n ∷ ns))
unfolding row field_by flat
row_printed n [] = rw append-nil
row_printed n (m ∷ ns) = ap (λ (l : List ℕ). 44 ∷ (digits n ++ l)) (row_printed m ns)

-- a row is read as its numbers, with zeros behind them
pub row_fields : (ns : List ℕ) → 1 ≤ length ns → length ns ≤ 6 → small ns ≡ true → line_fields (row ns) ≡ fields_of ns (replicate (6 - length ns) 0)
unfolding line_fields no_field
row_fields [] h k s = absurd (omega arith)
row_fields (n ∷ ns) h k s =
    let whole : length (n ∷ ns) + (6 - length (n ∷ ns)) ≡ 6 = omega arith in
    ap (fields_from 44 no_field) (row_printed n ns)
    ∙ all_read 44 (omega arith) (n ∷ ns) (replicate (6 - length (n ∷ ns)) 0)
    (replicate-append-replicate (length (n ∷ ns)) (6 - length (n ∷ ns)) 0 ∙ ap (λ (k : ℕ). replicate k 0) whole) k s

-- the numbers of a line that fits
pub record Fitting (d : ℕ) (line : List ℕ) : Type 0 where
  pub numbers : List ℕ
  pub behind : List ℕ
  pub long : length numbers ≡ d
  pub fit : small numbers ≡ true
  pub spelled : line ≡ row numbers
  pub same : line_fields line ≡ fields_of numbers behind

counted : (ns behind : List ℕ) → (fields_of ns behind).count ≡ length ns
unfolding fields_of
counted ns behind = refl

module _ (d : ℕ) (h : 1 ≤ d) where
  -- a row of d numbers fits
  pub row_fits : (ns : List ℕ) → d ≤ 6 → length ns ≡ d → small ns ≡ true → fits d (row ns) ≡ true
  unfolding fits fields_of
  row_fits ns k e s = rw (row_fields ns (omega arith) (omega arith) s, eq-eqb (length ns) d e)

  -- a line whose fields are these numbers is their row
  row_of : (line ns behind : List ℕ) → (line_fields line).count ≡ d → small ns ≡ true → 44 ∷ line ≡ flat (map (field_by 44) ns) → line_fields line ≡ fields_of ns behind → Fitting d line
  row_of line ns behind c s b e =
      let long : length ns ≡ d = sym (counted ns behind) ∙ ap (λ (f : Fields). f.count) (sym e) ∙ c in
      record { numbers = ns; behind = behind; long = long; fit = s; spelled = go ns long b; same = e }
    where
      go : (ns : List ℕ) → length ns ≡ d → 44 ∷ line ≡ flat (map (field_by 44) ns) → line ≡ row ns
      go [] long b = absurd (omega arith)
      go (n ∷ ns) long b = ap (drop 1) (b ∙ sym (row_printed n ns))

  -- a line that fits is a row of d numbers
  pub fits_row : (line : List ℕ) → fits d line ≡ true → Fitting d line
  unfolding fits line_fields
  fits_row line t =
      let f : Fields = fields_from 44 no_field (44 ∷ line) in
      let both_of = and_left (f.valid && not f.empty) (eqb f.count d) t in
      let count = eqb-true f.count d (and_right (f.valid && not f.empty) (eqb f.count d) t) in
      let u = unspelled 44 (omega arith) (44 ∷ line) (and_left f.valid (not f.empty) both_of) (not-true f.empty (and_right f.valid (not f.empty) both_of)) in
      row_of line u.numbers u.behind count u.fit u.spelled u.same

-- ---- lines that fit

-- the bytes of a line that fits are all of fields
pub fits_plain : (d : ℕ) (line : List ℕ) → fits d line ≡ true → plain line ≡ true
fits_plain d line t = go (fronted line).rest (fronted line).split (fronted line).stop
  where
    go : (rest : List ℕ) → line ≡ field_bytes 44 line ++ rest → Stop rest → plain line ≡ true
    go rest e (end r) =
        let whole : line ≡ field_bytes 44 line = e ∙ ap (λ (l : List ℕ). field_bytes 44 line ++ l) r ∙ append-nil (field_bytes 44 line) in
        ap plain whole ∙ front_plain line
    go rest e (foreign byte bytes r i) =
        let split : line ≡ field_bytes 44 line ++ (byte ∷ bytes) = e ∙ ap (λ (l : List ℕ). field_bytes 44 line ++ l) r in
        absurd (clash (fits d line) t (ap (fits d) split ∙ foreign_misfit d (field_bytes 44 line) byte bytes i))

-- so there is no CR LF in it
plain_uncut : (line : List ℕ) → plain line ≡ true → uncut line ≡ true
unfolding plain uncut
plain_uncut [] p = refl
plain_uncut (byte ∷ []) p = refl
plain_uncut (byte ∷ next ∷ line) p =
    both (not (eqb byte 13 && eqb next 10)) (uncut (next ∷ line)) (rw (no_return byte (and_left (in_fields 44 byte) (plain (next ∷ line)) p)))
    (plain_uncut (next ∷ line) (and_right (in_fields 44 byte) (plain (next ∷ line)) p))

-- and it is not empty
fits_full : (d : ℕ) (line : List ℕ) → fits d line ≡ true → full line ≡ true
unfolding full
fits_full d [] t = absurd (clash (fits d []) t (none_misfit d))
fits_full d (byte ∷ line) t = refl

pub fit_uncut : (d : ℕ) (ls : List (List ℕ)) → all_fit d ls ≡ true → all_uncut ls ≡ true
unfolding all_fit all_uncut
fit_uncut d [] t = refl
fit_uncut d (l ∷ ls) t =
    both (uncut l) (all_uncut ls) (plain_uncut l (fits_plain d l (and_left (fits d l) (all_fit d ls) t))) (fit_uncut d ls (and_right (fits d l) (all_fit d ls) t))

pub fit_full : (d : ℕ) (ls : List (List ℕ)) → all_fit d ls ≡ true → last_full ls ≡ true
unfolding all_fit last_full
fit_full d [] t = refl
fit_full d (l ∷ []) t = fits_full d l (and_left (fits d l) true t)
fit_full d (l ∷ m ∷ ls) t = fit_full d (m ∷ ls) (and_right (fits d l) (all_fit d (m ∷ ls)) t)

-- ---- files that spell quotes

module _ (d : ℕ) (h : 1 ≤ d) where
  rows_fit : (qs : List (List ℕ)) → d ≤ 6 → quotes_of d qs ≡ true → all_fit d (map row qs) ≡ true
  unfolding quotes_of all_fit
  rows_fit [] k t = refl
  rows_fit (q ∷ qs) k t =
      let here = and_left (eqb (length q) d && small q) (quotes_of d qs) t in
      both (fits d (row q)) (all_fit d (map row qs))
      (row_fits d h q k (eqb-true (length q) d (and_left (eqb (length q) d) (small q) here)) (and_right (eqb (length q) d) (small q) here))
      (rows_fit qs k (and_right (eqb (length q) d && small q) (quotes_of d qs) t))

  -- the lines of a file that spells quotes are their rows, and fit
  pub spelled_lines : {file : List ℕ} {qs : List (List ℕ)} → d ≤ 6 → Spells d file qs → (lines file ≡ map row qs) × (all_fit d (lines file) ≡ true)
  spelled_lines {file} {qs} k s =
      let fit = rows_fit qs k s.fit in
      let e : lines file ≡ map row qs =
      ap lines s.bytes ∙ lines_joined s.ended (map row qs) (fit_uncut d (map row qs) fit)
      (or_right s.ended (last_full (map row qs)) (fit_full d (map row qs) fit)) in
      (e, rw e fit)

  -- the quotes of lines that fit
  pub record Quotes (ls : List (List ℕ)) : Type 0 where
    pub quotes : List (List ℕ)
    pub fit : quotes_of d quotes ≡ true
    pub rows : ls ≡ map row quotes

  pub quotes_of_lem : (ls : List (List ℕ)) → all_fit d ls ≡ true → Quotes ls
  unfolding all_fit quotes_of
  quotes_of_lem [] t = record { quotes = []; fit = refl; rows = refl }
  quotes_of_lem (l ∷ ls) t =
      let f = fits_row d h l (and_left (fits d l) (all_fit d ls) t) in
      let r = quotes_of_lem ls (and_right (fits d l) (all_fit d ls) t) in
      record {
        quotes = f.numbers ∷ r.quotes;
        fit = both (eqb (length f.numbers) d && small f.numbers) (quotes_of d r.quotes) (both (eqb (length f.numbers) d) (small f.numbers) (eq-eqb (length f.numbers) d f.long) f.fit) r.fit;
        rows = ap₂ (λ (k : List ℕ) (ks : List (List ℕ)). k ∷ ks) f.spelled r.rows;
      }

  -- a file whose lines fit spells quotes
  pub lines_spelled : (file : List ℕ) (t : all_fit d (lines file) ≡ true) → Spells d file (quotes_of_lem (lines file) t).quotes
  lines_spelled file t =
      let q = quotes_of_lem (lines file) t in
      let c = cut_lines file in
      record { fit = q.fit; ended = c.ended; bytes = c.bytes ∙ ap (joined c.ended) q.rows }
