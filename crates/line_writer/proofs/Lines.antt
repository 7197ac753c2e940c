-- The lines of an input that comes in pieces: the first line, a line that is begun, and one that is too long.
use Rattle.std.proofs.Common.{◌≡◌, ℕ, zero, suc, ◌+◌, ◌<◌, ◌≤◌, Bool, true, false, cond, eqb, List, [], ◌∷◌, ◌++◌, length, take, drop, refl, ap, ◌∙◌, append_assoc, append-nil, zero-le, arith, length-append, le-ltb}
use Rattle.line_fields.specs.Fields.{line_length}
use Rattle.line_fields.proofs.Scanning.{end_inside}
use Rattle.line_writer.specs.Written.{last_line, lines_from, says, frame_of, name_of, frames_of, names_from}

-- a line stands within its bytes
pub line_inside : (bytes : List ℕ) → line_length bytes ≤ length bytes
line_inside bytes = let e : 0 + line_length bytes ≤ length bytes = end_inside bytes 0 zero-le in omega (arith, e)

-- the first line of an input that has its newline
pub first_line : (begun bytes more : List ℕ) → line_length bytes < length bytes
    → lines_from begun (bytes ++ more) ≡ (begun ++ take (line_length bytes) bytes) ∷ lines_from [] (drop (suc (line_length bytes)) bytes ++ more)
unfolding lines_from line_length
first_line begun [] more h = absurd (omega arith)
first_line begun (byte ∷ bytes) more h = go (eqb byte 10) (first_line (begun ++ (byte ∷ [])) bytes more) h
  where
    go : (b : Bool) → (line_length bytes < length bytes → lines_from (begun ++ (byte ∷ [])) (bytes ++ more) ≡ ((begun ++ (byte ∷ [])) ++ take (line_length bytes) bytes) ∷ lines_from [] (drop (suc (line_length bytes)) bytes ++ more))
        → cond b 0 (suc (line_length bytes)) < suc (length bytes)
        → cond b (begun ∷ lines_from [] (bytes ++ more)) (lines_from (begun ++ (byte ∷ [])) (bytes ++ more))
        ≡ (begun ++ take (cond b 0 (suc (line_length bytes))) (byte ∷ bytes)) ∷ lines_from [] (drop (suc (cond b 0 (suc (line_length bytes)))) (byte ∷ bytes) ++ more)
    go true _ k = rw append-nil
    go false again k = again (omega (arith, k)) ∙ rw append_assoc

-- bytes without a newline only go on with a line
pub no_line : (begun bytes more : List ℕ) → line_length bytes ≡ length bytes → lines_from begun (bytes ++ more) ≡ lines_from (begun ++ bytes) more
unfolding lines_from line_length
no_line begun [] more h = rw append-nil
no_line begun (byte ∷ bytes) more h = go (eqb byte 10) (no_line (begun ++ (byte ∷ [])) bytes more) h
  where
    go : (b : Bool) → (line_length bytes ≡ length bytes → lines_from (begun ++ (byte ∷ [])) (bytes ++ more) ≡ lines_from ((begun ++ (byte ∷ [])) ++ bytes) more)
        → cond b 0 (suc (line_length bytes)) ≡ suc (length bytes)
        → cond b (begun ∷ lines_from [] (bytes ++ more)) (lines_from (begun ++ (byte ∷ [])) (bytes ++ more)) ≡ lines_from (begun ++ (byte ∷ bytes)) more
    go true _ k = absurd (omega (arith, k))
    go false again k = again (omega (arith, k)) ∙ rw append_assoc

-- nor does their beginning have one
pub none_in_front : (n : ℕ) (bytes : List ℕ) → line_length bytes ≡ length bytes → line_length (take n bytes) ≡ length (take n bytes)
unfolding line_length
none_in_front zero bytes h = refl
none_in_front (suc n) [] h = refl
none_in_front (suc n) (byte ∷ bytes) h = go (eqb byte 10) (none_in_front n bytes) h
  where
    go : (b : Bool) → (line_length bytes ≡ length bytes → line_length (take n bytes) ≡ length (take n bytes))
        → cond b 0 (suc (line_length bytes)) ≡ suc (length bytes) → cond b 0 (suc (line_length (take n bytes))) ≡ suc (length (take n bytes))
    go true _ k = absurd (omega (arith, k))
    go false again k = ap suc (again (omega (arith, k)))

-- the last line, if it has a byte
pub last_line_lem : (bytes : List ℕ) → 0 < length bytes → last_line bytes ≡ bytes ∷ []
unfolding last_line
last_line_lem [] h = absurd (omega arith)
last_line_lem (byte ∷ bytes) h = refl

-- ---- a line that is too long

-- two lists of lines come to the same
pub record Same (xs ys : List (List ℕ)) : Type 0 where
  pub frames : frames_of xs ≡ frames_of ys
  pub names : (many : ℕ) → names_from many xs ≡ names_from many ys

long_says : (line : List ℕ) → 68 ≤ length line → says line ≡ false
unfolding says
long_says line h = rw (le-ltb (length line) 68 h)

-- two lines that are too long, and the same behind them
same_long : (one other : List ℕ) (rest : List (List ℕ)) → 68 ≤ length one → 68 ≤ length other → Same (one ∷ rest) (other ∷ rest)
unfolding frames_of names_from frame_of name_of
same_long one other rest h k = record { frames = rw (long_says one h, long_says other k); names = λ many. rw (long_says one h, long_says other k) }

-- how a line goes on that is too long already does not matter
pub long_lines : (one other bytes : List ℕ) → 68 ≤ length one → 68 ≤ length other → Same (lines_from one bytes) (lines_from other bytes)
unfolding lines_from
long_lines one other [] h k = rw (last_line_lem one (omega arith), last_line_lem other (omega arith)) (same_long one other [] h k)
long_lines one other (byte ∷ bytes) h k =
    go (eqb byte 10) (long_lines (one ++ (byte ∷ [])) (other ++ (byte ∷ [])) bytes (simp length-append (omega arith)) (simp length-append (omega arith)))
  where
    go : (b : Bool) → Same (lines_from (one ++ (byte ∷ [])) bytes) (lines_from (other ++ (byte ∷ [])) bytes)
        → Same (cond b (one ∷ lines_from [] bytes) (lines_from (one ++ (byte ∷ [])) bytes)) (cond b (other ∷ lines_from [] bytes) (lines_from (other ++ (byte ∷ [])) bytes))
    go true _ = same_long one other (lines_from [] bytes) h k
    go false again = again
