-- The answer of a quote and look in one, from that of its parts: of the quote, of the size, and of the cells.
use Rattle.std.specs.Prelude.{Result, Ok, Err}
use Rattle.std.specs.Result.{IsErr, IsErrAnd}
use mathlib.Core.Path.{◌≡◌, refl, sym, ap, ◌∙◌}
use Prim.Native.Nat.{ℕ, zero, suc, ◌≤◌, ◌<◌}
use native.Mathlib.Omega.{arith}
use mathlib.Core.Bool.{Bool, false}
use mathlib.Core.List.{List, [], ◌∷◌}
use lib.Dec.{ltb}
use lib.ListN.{length}
use borrow.Author.Tests.{lt-ltb, le-ltb}
use Rattle.head.specs.declared.Head.{Head}
use Rattle.refusals.specs.declared.Refusal.{Refusal}
use Rattle.refusals.specs.declared.Refusal.TheVariants.{WindowSize, ShortOutput}
use Rattle.refusals.specs.Refusals.{number, number_of, first_of, granted}
use Rattle.refusals.proofs.Numbers.{zero_passed, first_of_fails, accepted_number, accepted_granted, handed_refusal, refused_granted}
use Rattle.model.specs.Rows.{Tables}
use Rattle.model.specs.Book.{out_of_range, quote_answer, look_answer, both_list, both_answer}
use Rattle.model.proofs.LookAfter.{look_after_quote}
use Rattle.call_judging.proofs.Answering.{stays}
use Rattle.call_quote_looking.specs.Looks.{sized_answer}

module _ (h : Head) (x : List ℕ) (n : ℕ) (t : Tables) (ws : List ℕ) (room : ℕ) where
  -- the quote's answer
  abbrev quoted : ℕ
  quoted = quote_answer h x t ws room

  -- the tests of the look that may fail: 5, 13
  abbrev size : Bool × ℕ
  size = (out_of_range h n, number WindowSize)

  abbrev cells : ℕ → Bool × ℕ
  cells space = (ltb space (length (both_list h x n t ws room)), number ShortOutput)

  -- behind an accepted quote they are all that is answered
  behind : quoted ≡ 0 → (space : ℕ) → both_answer h x n t ws room space ≡ first_of (size ∷ cells space ∷ [])
  unfolding both_answer
  behind e space = accepted_granted quoted e (look_answer _ n _ space) quoted ∙ look_after_quote h x t ws room e n space

  -- the answer but for the cells is the quote's where that refuses
  pub sized_handed : {q : Result (Unit {0}) Refusal} (a : Result (Unit {0}) Refusal) {k : Refusal} → number_of q ≡ quoted → q ≡ Err k → IsErr a × IsErrAnd a (λ j. j ≡ k)
      → number_of a ≡ sized_answer h x n t ws room
  unfolding sized_answer
  sized_handed a {k} e f g =
      let named : quoted ≡ number k = sym e ∙ ap number_of f in
      ap number_of (handed_refusal a g) ∙ rw named (sym (refused_granted k _ _))

  -- else that of the size
  pub sized_is : {q : Result (Unit {0}) Refusal} {a : ℕ} {beyond : Bool} → number_of q ≡ quoted → q ≡ Ok tt → beyond ≡ out_of_range h n
      → a ≡ first_of ((beyond, number WindowSize) ∷ []) → a ≡ sized_answer h x n t ws room
  unfolding sized_answer
  sized_is {q} e f g k = k ∙ rw g (sym (accepted_granted quoted (sym e ∙ ap number_of f) _ _))

  -- what is refused but for the cells is refused
  pub sized_refused : {a : Result (Unit {0}) Refusal} {k : Refusal} → number_of a ≡ sized_answer h x n t ws room → a ≡ Err k → (space : ℕ)
      → number_of a ≡ both_answer h x n t ws room space
  unfolding sized_answer both_answer granted
  sized_refused {a} e f space = go quoted refl e
    where
      go : (q : ℕ) → quoted ≡ q → number_of a ≡ granted q (first_of (size ∷ [])) q → number_of a ≡ both_answer h x n t ws room space
      go zero g e = stays (size ∷ []) (cells space ∷ []) e f refl ∙ sym (behind g space)
      go (suc k) g e = e ∙ sym (rw g)

  -- where neither the quote nor the size is refused the cells alone are answered
  pub sized_accepted : {a : Result (Unit {0}) Refusal} → number_of a ≡ sized_answer h x n t ws room → a ≡ Ok tt → (quoted ≡ 0) × (out_of_range h n ≡ false)
  unfolding sized_answer granted
  sized_accepted {a} e f = go quoted refl (accepted_number a e f)
    where
      go : (q : ℕ) → quoted ≡ q → granted q (first_of (size ∷ [])) q ≡ 0 → (quoted ≡ 0) × (out_of_range h n ≡ false)
      go zero g e = (g, (zero_passed _ _ _ e).0)
      go (suc k) g e = absurd (omega arith)

  pub cells_answer : quoted ≡ 0 → out_of_range h n ≡ false → (space : ℕ) → both_answer h x n t ws room space ≡ first_of (cells space ∷ [])
  cells_answer e o space = behind e space ∙ first_of_fails (out_of_range h n) (number WindowSize) (cells space ∷ []) o

  -- without room for the list they are refused
  pub room_refused : quoted ≡ 0 → out_of_range h n ≡ false → (space : ℕ) → space < length (both_list h x n t ws room)
      → number_of (Err ShortOutput) ≡ both_answer h x n t ws room space
  unfolding first_of
  room_refused e o space l = sym (cells_answer e o space ∙ rw (lt-ltb space (length (both_list h x n t ws room)) l))

  -- with room for it both are taken
  pub room_accepted : quoted ≡ 0 → out_of_range h n ≡ false → (space : ℕ) → length (both_list h x n t ws room) ≤ space → both_answer h x n t ws room space ≡ 0
  unfolding first_of
  room_accepted e o space l = cells_answer e o space ∙ rw (le-ltb space (length (both_list h x n t ws room)) l)
