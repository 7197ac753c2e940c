-- A quote and look in one: what the reference model tells of it where it takes both and where it leaves both, and that both models answer it
-- alike, by the case of the quote and that of the look on the book after it.
use mathlib.Core.Path.{◌≡◌, refl}
use mathlib.Core.Logic.{◌⊎◌, inl, inr}
use Prim.Native.Nat.{ℕ, zero, suc, ◌≤◌, ◌<◌}
use native.Mathlib.Omega.{arith}
use mathlib.Core.Bool.{false}
use mathlib.Core.List.{List, [], ◌∷◌}
use lib.ListN.{length}
use borrow.Author.Tests.{leb-false, eqb-true, eqb-false, not-false}
use lib.Dec.{eqb}
use Rattle.lists.specs.Lists.{laid}
use Rattle.refusals.specs.Refusals.{granted}
use Rattle.refusals.proofs.Numbers.{zero_passed}
use Rattle.head.specs.Heads.{last_position}
use Rattle.model.specs.Reference.{Reference, Lengths, Told, newest, head_of, with_quote, tells, tells_both, reference_step}
use Rattle.model.specs.Book.{reply_of, quote_tables, quote_out, both_list, both_answer, both_reply, both_listed, both_tables, both_out, both_cells}
use Rattle.model.specs.Calls.{Quote, Look, Both, Outputs, Lent, book_seen, head_after, world_after, book_step, lengths_of, expected_step}
use Rattle.model.proofs.Simulation.{Invariant, Agree, reference_with, book_with, simulation, shown_still}
use Rattle.model.proofs.Quoting as quoting
use Rattle.model.proofs.Watching.{look_answer_lem, look_answers, look_cells_lem}

-- ---- what the reference model tells

module _ (x : List ℕ) (n : ℕ) (l : Lengths) (s : Reference) where
  -- what is told of the two in one, of the quote by itself, and of the look on the model after it
  abbrev told : Told
  told = reference_step (Both x n) l s

  abbrev quoted : Told
  quoted = reference_step (Quote x) l s

  abbrev looked : Told
  looked = reference_step (Look n) l (with_quote s x)

  -- both are taken: what is told is the quote's, with the look's positions
  pub record Taken : Type 0 where
    pub number : told.number ≡ 0
    pub quote_number : quoted.number ≡ 0
    pub look_number : looked.number ≡ 0
    pub head : told.head ≡ quoted.head
    pub count : told.count ≡ quoted.count
    pub bytes : told.bytes ≡ quoted.bytes
    pub cells : told.cells ≡ looked.cells
    pub counts : told.counts ≡ looked.count ∷ []
    pub next : told.next ≡ with_quote s x
    pub quote_next : quoted.next ≡ with_quote s x

  -- both are left: nothing is written, and the model stays
  pub record Left : Type 0 where
    pub number : 1 ≤ told.number
    pub head : told.head ≡ head_of s
    pub count : told.count ≡ 0
    pub bytes : told.bytes ≡ []
    pub cells : told.cells ≡ []
    pub counts : told.counts ≡ 0 ∷ []
    pub next : told.next ≡ s

  -- one or the other
  pub both_told : Taken ⊎ Left
  unfolding reference_step tells tells_both granted
  both_told = go quoted.number refl
    where
      behind : quoted.number ≡ 0 → (b : ℕ) → looked.number ≡ b → Taken ⊎ Left
      behind e zero g = inl (record {
        number = rw (e, g);
        quote_number = e;
        look_number = g;
        head = rw (e, g);
        count = rw (e, g);
        bytes = rw (e, g);
        cells = rw (e, g);
        counts = rw (e, g);
        next = rw (e, g);
        quote_next = rw e;
      })
      behind e (suc k) g = inr (record {
        number = rw (e, g) (omega arith);
        head = rw (e, g);
        count = rw (e, g);
        bytes = rw (e, g);
        cells = rw (e, g);
        counts = rw (e, g);
        next = rw (e, g);
      })

      go : (a : ℕ) → quoted.number ≡ a → Taken ⊎ Left
      go zero e = behind e looked.number refl
      go (suc k) e = inr (record {
        number = rw e (omega arith);
        head = rw e;
        count = rw e;
        bytes = rw e;
        cells = rw e;
        counts = rw e;
        next = rw e;
      })

  -- answered with 0, both are taken
  pub both_taken : told.number ≡ 0 → Taken
  both_taken e = go both_told
    where
      go : Taken ⊎ Left → Taken
      go (inl taken) = taken
      go (inr left) = absurd (omega (arith, left.number))

  -- with any other number, both are left
  pub both_left : eqb told.number 0 ≡ false → Left
  both_left e = go both_told
    where
      go : Taken ⊎ Left → Left
      go (inl taken) = absurd (eqb-false told.number 0 e taken.number)
      go (inr left) = left

-- ---- by both models

module _ (s : Reference) (l : Lent) (f : Invariant s l) (x : List ℕ) (n : ℕ) (o : Outputs) where
  pub both : Agree (Both x n) o (reference_with s l) (book_with s l)
  unfolding book_seen head_after world_after book_step expected_step reference_step tells tells_both lengths_of
      both_list both_answer both_reply both_listed both_tables both_out both_cells quote_tables quote_out reply_of granted laid head_of
  both = go (quoting.answer s l f x o) refl
    where
      -- the look, on what an accepted quote leaves
      behind : quoting.answer s l f x o ≡ 0 → newest s < last_position → (i : Invariant (quoting.s' s l f x) (quoting.relent s l f x)) (b : ℕ)
          → look_answer_lem (quoting.s' s l f x) (quoting.relent s l f x) i n o ≡ b → Agree (Both x n) o (reference_with s l) (book_with s l)
      behind e room i zero g =
          let answers = look_answers (quoting.s' s l f x) (quoting.relent s l f x) i n o in
          let cells = look_cells_lem (quoting.s' s l f x) (quoting.relent s l f x) i n o (zero_passed _ _ _ (zero_passed _ _ _ g).1).0 in
          rw (quoting.answers s l f x o, e, quoting.bytes_are s l f x room, quoting.head_is s l f x room, answers, g, cells, quoting.shown_after s l f x)
          (refl, record { head = refl; lent = refl; since = inr i })
      behind e room i (suc k) g =
          let answers = look_answers (quoting.s' s l f x) (quoting.relent s l f x) i n o in
          rw (quoting.answers s l f x o, e, quoting.head_is s l f x room, answers, g, shown_still s l f) (refl, simulation s l f)

      go : (a : ℕ) → quoting.answer s l f x o ≡ a → Agree (Both x n) o (reference_with s l) (book_with s l)
      go zero e =
          let a = zero_passed _ _ _ (zero_passed _ _ _ e).1 in
          let wide = eqb-true (length x) s.dimensions (not-false (eqb (length x) s.dimensions) a.0) in
          let room = leb-false last_position (newest s) (zero_passed _ _ _ a.1).0 in
          behind e room (quoting.invariant s l f x wide room) _ refl
      go (suc k) e = rw (quoting.answers s l f x o, e, shown_still s l f) (refl, simulation s l f)
