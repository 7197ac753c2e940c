-- The theorems on the import: it accepts exactly the files that spell quotes, names the first line that does not fit, and asks for the room of
-- its frames; and each frame reads back.
use mathlib.Core.Path.{◌≡◌, refl, sym, ap, ap₂, ◌∙◌}
use mathlib.Core.Logic.{◌⊎◌, inl, inr, ◌↔◌}
use Prim.Native.Nat.{ℕ, zero, suc, ◌+◌, ◌-◌, ◌*◌, ◌≤◌, ◌<◌}
use native.Mathlib.Omega.{arith}
use mathlib.Core.Bool.{Bool, true, false, ◌&&◌, not, cond}
use mathlib.Core.List.{List, [], ◌∷◌, ◌++◌, map}
use lib.Dec.{ltb, eqb}
use lib.ListN.{length, get_or, take, replicate}
use lib.Seq.{take_at, take_all}
use borrow.Author.Tests.{ltb-true, lt-ltb, le-ltb, eqb-true, eq-eqb, ne_eqb}
use Rattle.lists.specs.Lists.{flat}
use Rattle.lists.proofs.Booleans.{either, both, and_left, and_right}
use Rattle.lists.proofs.Filters.{flat_append, map-append}
use Rattle.refusals.specs.Refusals.{first_of}
use Rattle.octets.specs.Bytes.{bytes4}
use Rattle.frame_kinds.specs.Kinds.{within}
use Rattle.frame_kinds.proofs.Shapes.{within_bounds}
use Rattle.frames.specs.declared.Message.TheVariants.{Quote}
use Rattle.frames.specs.Frames.{frame, told, read_at}
use Rattle.frames.proofs.RoundTrips.{read_after_write}
use Rattle.line_fields.specs.Fields.{small}
use Rattle.line_fields.specs.declared.Fields.{Fields}
use Rattle.line_fields.proofs.Spelled.{fields_of}
use Rattle.csv_frames.specs.Lines.{lines, line_fields, fits, all_fit}
use Rattle.csv_frames.specs.Spelling.{row, quotes_of}
use Rattle.csv_frames.proofs.Rows.{row_fields, spelled_lines, quotes_of_lem, lines_spelled}
use Rattle.csv_frames.specs.Imports.{misfit_from, misfit, line_frame, frames_of, import_answer, import_line, SpelledAs, FirstMisfit}
use Rattle.csv_frames.proofs.Frames.{quote_framed, quote_long, frames_long}
use Rattle.csv_frames.proofs.Importing.{none_misfit_fits}

-- ---- the three conditions of an answer

chosen : Bool → Bool → Bool → ℕ
chosen a b c = cond (not a) 3 (cond (not b) 18 (cond c 13 0))

answer_chosen : (d : ℕ) (file : List ℕ) (room : ℕ) → import_answer d file room ≡ chosen (within 1 6 d) (eqb (misfit d file) 0) (ltb room (length (frames_of d (lines file))))
unfolding import_answer first_of chosen
answer_chosen d file room = refl

chosen_none : (a b c : Bool) → chosen a b c ≡ 0 → (a ≡ true) × (b ≡ true) × (c ≡ false)
unfolding chosen
chosen_none false b c e = absurd (omega arith)
chosen_none true false c e = absurd (omega arith)
chosen_none true true true e = absurd (omega arith)
chosen_none true true false e = (refl, refl, refl)

chosen_line : (a b c : Bool) → chosen a b c ≡ 18 → (a ≡ true) × (b ≡ false)
unfolding chosen
chosen_line false b c e = absurd (omega arith)
chosen_line true false c e = (refl, refl)
chosen_line true true true e = absurd (omega arith)
chosen_line true true false e = absurd (omega arith)

chosen_short : (a b c : Bool) → chosen a b c ≡ 13 → (a ≡ true) × (b ≡ true) × (c ≡ true)
unfolding chosen
chosen_short false b c e = absurd (omega arith)
chosen_short true false c e = absurd (omega arith)
chosen_short true true true e = (refl, refl, refl)
chosen_short true true false e = absurd (omega arith)

named : (a b c : Bool) → a ≡ true → b ≡ false → chosen a b c ≡ 18
unfolding chosen
named a b c e f = rw (e, f)

shortened : (a b c : Bool) → a ≡ true → b ≡ true → c ≡ true → chosen a b c ≡ 13
unfolding chosen
shortened a b c e f g = rw (e, f, g)

taken : (a b c : Bool) → a ≡ true → b ≡ true → c ≡ false → chosen a b c ≡ 0
unfolding chosen
taken a b c e f g = rw (e, f, g)

-- ---- the first line that does not fit

-- no number below the first is named
misfit_from_lem : (k d : ℕ) (ls : List (List ℕ)) (m : ℕ) → misfit_from k d ls ≡ suc m → k ≤ suc m
unfolding misfit_from
misfit_from_lem k d [] m e = absurd (omega arith)
misfit_from_lem k d (l ∷ ls) m e = go (either (fits d l)) (misfit_from_lem (suc k) d ls m)
  where
    go : (fits d l ≡ true) ⊎ (fits d l ≡ false) → (misfit_from (suc k) d ls ≡ suc m → suc k ≤ suc m) → k ≤ suc m
    go (inl t) r = omega (arith, r (rw t at e))
    go (inr t) r = let same : k ≡ suc m = rw t at e in omega arith

misfit_first : (k d : ℕ) (ls : List (List ℕ)) (place : ℕ) → misfit_from (suc k) d ls ≡ suc (k + place) → FirstMisfit d ls place
unfolding misfit_from all_fit
misfit_first k d [] place e = absurd (omega arith)
misfit_first k d (l ∷ ls) place e = go (either (fits d l)) place e (misfit_first (suc k) d ls)
  where
    go : (fits d l ≡ true) ⊎ (fits d l ≡ false) → (place : ℕ) → cond (fits d l) (misfit_from (suc (suc k)) d ls) (suc k) ≡ suc (k + place)
        → ((p : ℕ) → misfit_from (suc (suc k)) d ls ≡ suc (suc k + p) → FirstMisfit d ls p) → FirstMisfit d (l ∷ ls) place
    go (inl t) zero e r = let low = misfit_from_lem (suc (suc k)) d ls (k + zero) (rw t at e) in absurd (omega arith)
    go (inl t) (suc p) e r =
        let same : suc (k + suc p) ≡ suc (suc k + p) = omega arith in
        let f = r p ((rw t at e) ∙ same) in
        record { inside = let i = f.inside in omega arith; before = both (fits d l) (all_fit d (take p ls)) t f.before; here = f.here }
    go (inr t) zero e r = record { inside = omega arith; before = refl; here = t }
    go (inr t) (suc p) e r = let same : suc k ≡ suc (k + suc p) = rw t at e in absurd (omega arith)

first_misfits : (k d : ℕ) (ls : List (List ℕ)) (place : ℕ) → FirstMisfit d ls place → misfit_from (suc k) d ls ≡ suc (k + place)
unfolding misfit_from all_fit
first_misfits k d [] place f = absurd (let i = f.inside in omega arith)
first_misfits k d (l ∷ ls) zero f = let wrong : fits d l ≡ false = f.here in rw wrong (let e : suc k ≡ suc (k + 0) = omega arith in e)
first_misfits k d (l ∷ ls) (suc p) f =
    let fit : fits d l ≡ true = and_left (fits d l) (all_fit d (take p ls)) f.before in
    let others : FirstMisfit d ls p = record { inside = let i = f.inside in omega arith; before = and_right (fits d l) (all_fit d (take p ls)) f.before; here = f.here } in
    rw fit (first_misfits (suc k) d ls p others ∙ (let e : suc (suc k + p) ≡ suc (k + suc p) = omega arith in e))

-- 18 with the number place + 1 is said exactly if that line does not fit and all before it do
pub first_misfit : (d : ℕ) (file : List ℕ) (room place : ℕ)
    → ((import_answer d file room ≡ 18) × (import_line d file room ≡ suc place)) ↔ ((within 1 6 d ≡ true) × FirstMisfit d (lines file) place)
unfolding import_line misfit
first_misfit d file room place = (forth, back)
  where
    zeroed : misfit_from 1 d (lines file) ≡ suc place → suc place ≡ suc (0 + place)
    zeroed e = omega arith

    forth : (import_answer d file room ≡ 18) × (cond (eqb (import_answer d file room) 18) (misfit_from 1 d (lines file)) 0 ≡ suc place) → (within 1 6 d ≡ true) × FirstMisfit d (lines file) place
    forth p =
        let at : misfit_from 1 d (lines file) ≡ suc place = rw p.0 at p.1 in (
          (chosen_line (within 1 6 d) (eqb (misfit d file) 0) (ltb room (length (frames_of d (lines file)))) (sym (answer_chosen d file room) ∙ p.0)).0,
          misfit_first 0 d (lines file) place (at ∙ zeroed at),
        )

    back : (within 1 6 d ≡ true) × FirstMisfit d (lines file) place → (import_answer d file room ≡ 18) × (cond (eqb (import_answer d file room) 18) (misfit_from 1 d (lines file)) 0 ≡ suc place)
    back p =
        let at : misfit_from 1 d (lines file) ≡ suc place = first_misfits 0 d (lines file) place p.1 ∙ (let e : suc (0 + place) ≡ suc place = omega arith in e) in
        let some : eqb (misfit d file) 0 ≡ false = ne_eqb (misfit d file) 0 (λ z. omega arith) in
        let said : import_answer d file room ≡ 18 =
        answer_chosen d file room ∙ named (within 1 6 d) (eqb (misfit d file) 0) (ltb room (length (frames_of d (lines file)))) p.0 some in
        (said, rw said at)

-- ---- the room

-- 13 is said exactly if d is a quote's, every line fits, and the room is below 1 + 4 d bytes for each line
pub short_iff : (d : ℕ) (file : List ℕ) (room : ℕ)
    → (import_answer d file room ≡ 13) ↔ ((within 1 6 d ≡ true) × (misfit d file ≡ 0) × (room < length (lines file) * (1 + 4 * d)))
short_iff d file room = (forth, back)
  where
    long : within 1 6 d ≡ true → length (frames_of d (lines file)) ≡ length (lines file) * (1 + 4 * d)
    long w = let b = within_bounds 1 6 d w in frames_long d b.0 b.1 (lines file)

    forth : import_answer d file room ≡ 13 → (within 1 6 d ≡ true) × (misfit d file ≡ 0) × (room < length (lines file) * (1 + 4 * d))
    forth e =
        let p = chosen_short (within 1 6 d) (eqb (misfit d file) 0) (ltb room (length (frames_of d (lines file)))) (sym (answer_chosen d file room) ∙ e) in
        (p.0, eqb-true (misfit d file) 0 p.1, omega (arith, long p.0, ltb-true room (length (frames_of d (lines file))) p.2))

    back : (within 1 6 d ≡ true) × (misfit d file ≡ 0) × (room < length (lines file) * (1 + 4 * d)) → import_answer d file room ≡ 13
    back p =
        answer_chosen d file room
        ∙ shortened (within 1 6 d) (eqb (misfit d file) 0) (ltb room (length (frames_of d (lines file)))) p.0 (eq-eqb (misfit d file) 0 p.1)
        (lt-ltb room (length (frames_of d (lines file))) (rw (long p.0) p.2))

-- ---- what is spelled

fits_none : (k d : ℕ) (ls : List (List ℕ)) → all_fit d ls ≡ true → misfit_from k d ls ≡ 0
unfolding misfit_from all_fit
fits_none k d [] t = refl
fits_none k d (l ∷ ls) t = rw (and_left (fits d l) (all_fit d ls) t) (fits_none (suc k) d ls (and_right (fits d l) (all_fit d ls) t))

-- the frame of a row is that of its numbers
row_frame : (d : ℕ) (q : List ℕ) → 1 ≤ d → d ≤ 6 → length q ≡ d → small q ≡ true → line_frame d (row q) ≡ frame (Quote d) q
unfolding line_frame frame fields_of
row_frame d q h k e s =
    let numbers : (line_fields (row q)).numbers ≡ q ++ replicate (6 - length q) 0 = ap (λ (f : Fields). f.numbers) (row_fields q (omega arith) (omega arith) s) in
    let front : take d (line_fields (row q)).numbers ≡ take d q =
    ap (take d) numbers ∙ take_at q (replicate (6 - length q) 0) d e ∙ sym (take_all d q (omega arith)) in
    ap (λ (l : List ℕ). d ∷ flat (map bytes4 l)) front

row_frames : (d : ℕ) → 1 ≤ d → d ≤ 6 → (qs : List (List ℕ)) → quotes_of d qs ≡ true → frames_of d (map row qs) ≡ flat (map (frame (Quote d)) qs)
unfolding frames_of flat quotes_of
row_frames d h k [] t = refl
row_frames d h k (q ∷ qs) t =
    let here = and_left (eqb (length q) d && small q) (quotes_of d qs) t in
    ap₂ (λ (x y : List ℕ). x ++ y)
    (row_frame d q h k (eqb-true (length q) d (and_left (eqb (length q) d) (small q) here)) (and_right (eqb (length q) d) (small q) here))
    (row_frames d h k qs (and_right (eqb (length q) d && small q) (quotes_of d qs) t))

-- a file is accepted, given room, exactly if it spells quotes of d columns, and then the bytes are their frames
pub import_iff_spelled : (d : ℕ) (file : List ℕ) (room : ℕ) → length (lines file) * (1 + 4 * d) ≤ room
    → (import_answer d file room ≡ 0) ↔ SpelledAs d file (frames_of d (lines file))
unfolding misfit
import_iff_spelled d file room r = (forth, back)
  where
    forth : import_answer d file room ≡ 0 → SpelledAs d file (frames_of d (lines file))
    forth e =
        let p = chosen_none (within 1 6 d) (eqb (misfit d file) 0) (ltb room (length (frames_of d (lines file)))) (sym (answer_chosen d file room) ∙ e) in
        let b = within_bounds 1 6 d p.0 in
        let fit = none_misfit_fits 0 d (lines file) (eqb-true (misfit d file) 0 p.1) in
        let q = quotes_of_lem d b.0 (lines file) fit in
        record {
          columns = p.0;
          quotes = q.quotes;
          spells = lines_spelled d b.0 file fit;
          frames = ap (frames_of d) q.rows ∙ row_frames d b.0 b.1 q.quotes q.fit;
        }

    back : SpelledAs d file (frames_of d (lines file)) → import_answer d file room ≡ 0
    back s =
        let b = within_bounds 1 6 d s.columns in
        let l = spelled_lines d b.0 b.1 s.spells in
        answer_chosen d file room
        ∙ taken (within 1 6 d) (eqb (misfit d file) 0) (ltb room (length (frames_of d (lines file)))) s.columns
        (eq-eqb (misfit d file) 0 (fits_none 1 d (lines file) l.1))
        (le-ltb room (length (frames_of d (lines file))) (omega (arith, frames_long d b.0 b.1 (lines file))))

-- ---- reading back

small_at : (q : List ℕ) (i : ℕ) → small q ≡ true → get_or q i 0 < 4294967296
unfolding small
small_at [] i s = omega arith
small_at (n ∷ q) zero s = ltb-true n 4294967296 (and_left (ltb n 4294967296) (small q) s)
small_at (n ∷ q) (suc i) s = small_at q i (and_right (ltb n 4294967296) (small q) s)

-- each frame of quotes reads back as its quote, with zeros behind its columns
pub frames_read : (d : ℕ) (before : List (List ℕ)) (q : List ℕ) (after : List (List ℕ)) → within 1 6 d ≡ true → length q ≡ d → small q ≡ true
    → read_at (flat (map (frame (Quote d)) (before ++ (q ∷ after)))) (length (flat (map (frame (Quote d)) before)))
    ≡ record { says = told (Quote d); columns = q ++ replicate (6 - d) 0; next = length (flat (map (frame (Quote d)) before)) + (1 + 4 * d) }
unfolding flat
frames_read d before q after w e s =
    let b = within_bounds 1 6 d w in
    let F : List (List ℕ) → List ℕ = λ qs. flat (map (frame (Quote d)) qs) in
    let split : F (before ++ (q ∷ after)) ≡ F before ++ (frame (Quote d) q ++ F after) = rw (map-append, flat_append) in
    let same : take d q ≡ q = take_all d q (omega arith) in
    let size : length (frame (Quote d) q) ≡ 1 + 4 * d = quote_long d b.0 b.1 q (omega arith) in
    ap (λ (l : List ℕ). read_at l (length (F before))) split
    ∙ read_after_write (F before) (F after) (Quote d) q
    (record { has_frame = quote_framed d b.0 b.1; typed = omega arith; enough = omega arith; fits = λ i h. small_at q i s })
    ∙ rw (same, size)
