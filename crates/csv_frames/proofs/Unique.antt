-- The lines of a file are the only lines that it is.
use mathlib.Core.Path.{◌≡◌, refl, sym, ap, ◌∙◌}
use mathlib.Core.Logic.{◌⊎◌, inl, inr, ◌↔◌}
use Prim.Native.Nat.{ℕ, suc}
use native.Mathlib.Omega.{arith}
use mathlib.Core.Bool.{Bool, true, false, ◌&&◌, ◌||◌, not, cond}
use mathlib.Core.List.{List, [], ◌∷◌, ◌++◌, append-nil}
use lib.Dec.{eqb}
use lib.ListN.{length, get_or}
use borrow.Author.Tests.{not-true, eqb-true}
use Rattle.lists.proofs.Booleans.{either, clash, both, not_of, and_left, and_right, and_false, or_right}
use Rattle.csv_frames.specs.Lines.{ahead, lines, joined, uncut, all_uncut, full, last_full, Cut}

-- ---- the lines of joined lines

-- CR LF behind a line without one
lines_cut : (l rest : List ℕ) → uncut l ≡ true → lines (l ++ (13 ∷ 10 ∷ rest)) ≡ l ∷ lines rest
unfolding lines uncut ahead
lines_cut [] rest u = refl
lines_cut (byte ∷ []) rest u = rw and_false
lines_cut (byte ∷ next ∷ l) rest u =
    let here = not-true (eqb byte 13 && eqb next 10) (and_left (not (eqb byte 13 && eqb next 10)) (uncut (next ∷ l)) u) in
    rw here (ap (ahead byte) (lines_cut (next ∷ l) rest (and_right (not (eqb byte 13 && eqb next 10)) (uncut (next ∷ l)) u)))

-- nothing behind it
lines_last : (byte : ℕ) (l : List ℕ) → uncut (byte ∷ l) ≡ true → lines (byte ∷ l) ≡ (byte ∷ l) ∷ []
unfolding lines uncut ahead
lines_last byte [] u = refl
lines_last byte (next ∷ l) u =
    let here = not-true (eqb byte 13 && eqb next 10) (and_left (not (eqb byte 13 && eqb next 10)) (uncut (next ∷ l)) u) in
    rw here (ap (ahead byte) (lines_last next l (and_right (not (eqb byte 13 && eqb next 10)) (uncut (next ∷ l)) u)))

lines_rest : (l : List ℕ) → uncut l ≡ true → full l ≡ true → lines l ≡ l ∷ []
unfolding full
lines_rest [] u f = absurd (clash false f refl)
lines_rest (byte ∷ l) u f = lines_last byte l u

pub lines_joined : (ended : Bool) (ls : List (List ℕ)) → all_uncut ls ≡ true → ended || last_full ls ≡ true → lines (joined ended ls) ≡ ls
unfolding joined all_uncut last_full lines
lines_joined ended [] u f = refl
lines_joined true (l ∷ []) u f = lines_cut l [] (and_left (uncut l) true u)
lines_joined false (l ∷ []) u f = ap lines (append-nil l) ∙ lines_rest l (and_left (uncut l) true u) f
lines_joined ended (l ∷ m ∷ ls) u f =
    lines_cut l (joined ended (m ∷ ls)) (and_left (uncut l) (all_uncut (m ∷ ls)) u)
    ∙ ap (λ (ks : List (List ℕ)). l ∷ ks) (lines_joined ended (m ∷ ls) (and_right (uncut l) (all_uncut (m ∷ ls)) u) f)

-- ---- a file is its lines

-- CR LF, and a file behind it
cut_returned : (bytes : List ℕ) (ls : List (List ℕ)) → Cut bytes ls → Cut (13 ∷ 10 ∷ bytes) ([] ∷ ls)
unfolding joined all_uncut uncut last_full
cut_returned bytes [] c = record { ended = true; bytes = ap (λ (l : List ℕ). 13 ∷ 10 ∷ l) c.bytes; whole = refl; rest = refl }
cut_returned bytes (l ∷ ls) c = record { ended = c.ended; bytes = ap (λ (l : List ℕ). 13 ∷ 10 ∷ l) c.bytes; whole = c.whole; rest = c.rest }

-- a byte in front of a file's first line
module _ (byte next : ℕ) (e : eqb byte 13 && eqb next 10 ≡ false) where
  joined_ahead : (ended : Bool) (l : List ℕ) (ls : List (List ℕ)) → joined ended ((byte ∷ l) ∷ ls) ≡ byte ∷ joined ended (l ∷ ls)
  unfolding joined
  joined_ahead ended l [] = refl
  joined_ahead ended l (m ∷ ls) = refl

  first_byte : (ended : Bool) (z : ℕ) (l : List ℕ) (ls : List (List ℕ)) → get_or (joined ended ((z ∷ l) ∷ ls)) 0 0 ≡ z
  unfolding joined
  first_byte ended z l [] = refl
  first_byte ended z l (m ∷ ls) = refl

  uncut_ahead : (ended : Bool) (bytes l : List ℕ) (ls : List (List ℕ)) → next ∷ bytes ≡ joined ended (l ∷ ls) → uncut l ≡ true → uncut (byte ∷ l) ≡ true
  unfolding uncut
  uncut_ahead ended bytes [] ls q u = refl
  uncut_ahead ended bytes (z ∷ l) ls q u =
      let same : next ≡ z = ap (λ (k : List ℕ). get_or k 0 0) q ∙ first_byte ended z l ls in
      both (not (eqb byte 13 && eqb z 10)) (uncut (z ∷ l)) (not_of (eqb byte 13 && eqb z 10) (rw (← same) e)) u

  full_ahead : (ended : Bool) (l : List ℕ) (ls : List (List ℕ)) → ended || last_full (l ∷ ls) ≡ true → ended || last_full ((byte ∷ l) ∷ ls) ≡ true
  unfolding last_full full
  full_ahead ended l [] f = or_right ended true refl
  full_ahead ended l (m ∷ ls) f = f

  cut_ahead : (bytes : List ℕ) (ls : List (List ℕ)) → Cut (next ∷ bytes) ls → Cut (byte ∷ next ∷ bytes) (ahead byte ls)
  unfolding ahead all_uncut joined
  cut_ahead bytes [] c = absurd (let long : suc (length bytes) ≡ 0 = ap length c.bytes in omega arith)
  cut_ahead bytes (l ∷ ls) c =
      record {
        ended = c.ended;
        bytes = ap (λ (k : List ℕ). byte ∷ k) c.bytes ∙ sym (joined_ahead c.ended l ls);
        whole =
            both (uncut (byte ∷ l)) (all_uncut ls) (uncut_ahead c.ended bytes l ls c.bytes (and_left (uncut l) (all_uncut ls) c.whole))
            (and_right (uncut l) (all_uncut ls) c.whole);
        rest = full_ahead c.ended l ls c.rest;
      }

pub cut_lines : (file : List ℕ) → Cut file (lines file)
unfolding lines joined all_uncut uncut last_full full
cut_lines [] = record { ended = true; bytes = refl; whole = refl; rest = refl }
cut_lines (byte ∷ []) = record { ended = false; bytes = refl; whole = refl; rest = refl }
cut_lines (byte ∷ next ∷ bytes) = go (either (eqb byte 13 && eqb next 10)) (cut_lines bytes) (cut_lines (next ∷ bytes))
  where
    go : (eqb byte 13 && eqb next 10 ≡ true) ⊎ (eqb byte 13 && eqb next 10 ≡ false) → Cut bytes (lines bytes) → Cut (next ∷ bytes) (lines (next ∷ bytes))
        → Cut (byte ∷ next ∷ bytes) (cond (eqb byte 13 && eqb next 10) ([] ∷ lines bytes) (ahead byte (lines (next ∷ bytes))))
    go (inl t) a b =
        let x = eqb-true byte 13 (and_left (eqb byte 13) (eqb next 10) t) in
        let y = eqb-true next 10 (and_right (eqb byte 13) (eqb next 10) t) in
        rw (t, x, y) (cut_returned bytes (lines bytes) a)
    go (inr t) a b = rw t (cut_ahead byte next t bytes (lines (next ∷ bytes)) b)

-- a file is exactly its lines
pub lines_unique : (file : List ℕ) (ls : List (List ℕ)) → Cut file ls ↔ (ls ≡ lines file)
lines_unique file ls = (λ c. sym (ap lines c.bytes ∙ lines_joined c.ended ls c.whole c.rest), λ e. rw e (cut_lines file))
