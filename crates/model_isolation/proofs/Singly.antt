-- A quote and look in one that is accepted is, to a desk, the quote played singly with the look behind it: the two runs agree in every concern,
-- and show it the same.
use mathlib.Core.Path.{◌≡◌, refl, sym, ap, ◌∙◌}
use mathlib.Core.Logic.{inl}
use Prim.Native.Nat.{ℕ, zero, suc}
use mathlib.Core.Bool.{Bool, true, false, cond}
use mathlib.Core.List.{List, [], ◌∷◌, ◌++◌}
use lib.Dec.{eqb}
use lib.ListN.{length}
use Rattle.refusals.specs.declared.Refusal.TheVariants.{NoFreeRecord}
use Rattle.refusals.specs.Refusals.{number, granted}
use Rattle.model.specs.Reference.{Reference, tells, reference_step}
use Rattle.model.specs.Calls.{Call, Quote, Look, Both, Outputs, Lending, Lent, Seen, Expected, lengths_of, shown, expected_step, runs, expected_first, expected_at_end}
use Rattle.model.proofs.Both.{both_taken}
use Rattle.model.proofs.Simulation.{shown_same}
use Rattle.model.proofs.Lengths.{Since, since_step}
use Rattle.model_isolation.specs.Isolation.{Concern, concerns, heard_as, of_concerning, nines, asked, concerning, SameConcern, SameShown}
use Rattle.model_isolation.proofs.Isolated.{isolated}

-- what is left of two that are one
granted_same : {A : Type 0} (a : ℕ) (s : A) → granted a s s ≡ s
unfolding granted
granted_same zero s = refl
granted_same (suc k) s = refl

-- a reference model, shown in what is lent
abbrev showing : Lent → Reference → Expected
showing l s = record { reference = s; lent = shown s l }

-- a look leaves everything, accepted or not
look_leaves : (n : ℕ) (p : Outputs) (k : Expected) → Since k → (expected_step (Look n) p k).1 ≡ k
unfolding expected_step reference_step tells
look_leaves n p k f =
    ap (showing k.lent) (granted_same (reference_step (Look n) (lengths_of k.lent p) k.reference).number k.reference)
    ∙ ap (λ (l : Lent). record { reference = k.reference; lent = l }) (shown_same k.reference k.lent f)

-- a call with these outputs
abbrev pub lending : Call → Outputs → Lending
lending c o = record { call = c; outputs = o }

module _ (x : List ℕ) (n : ℕ) (o p : Outputs) where
  module _ (k : Expected) (f : Since k) (accepted : (expected_step (Both x n) o k).0.outcome.number ≡ 0) where
    -- accepted, the two in one are answered as the quote
    same_answer : (expected_step (Both x n) o k).0.outcome.number ≡ (expected_step (Quote x) o k).0.outcome.number
    unfolding expected_step
    same_answer = accepted ∙ sym (both_taken x n (lengths_of k.lent o) k.reference accepted).quote_number

    -- and leave what the quote leaves, with the look behind it
    same_end : (expected_step (Both x n) o k).1 ≡ (expected_step (Look n) p (expected_step (Quote x) o k).1).1
    unfolding expected_step
    same_end =
        let t = both_taken x n (lengths_of k.lent o) k.reference accepted in
        ap (showing k.lent) (t.next ∙ sym t.quote_next) ∙ sym (look_leaves n p (expected_step (Quote x) o k).1 (since_step (Quote x) o k f))

  module _ {A : Type 0} (concern : Concern) (of : Lending → Seen → A)
      (alike : (one other : Seen) → one.outcome.number ≡ other.outcome.number → of (lending (Both x n) o) one ≡ of (lending (Quote x) o) other) (after : List Lending) where
    -- what is had of the calls that concern a desk, in one or singly
    same_concerning : (before : List Lending) (k : Expected) → Since k
        → (expected_step (Both x n) o (runs expected_step before k).1).0.outcome.number ≡ 0
        → let cs = before ++ lending (Both x n) o ∷ after in
        let cs' = before ++ lending (Quote x) o ∷ lending (Look n) p ∷ after in
        of_concerning concern of cs (runs expected_step cs k).0 ≡ of_concerning concern of cs' (runs expected_step cs' k).0
    unfolding of_concerning concerns runs
    same_concerning [] k f accepted =
        rw (accepted, alike (expected_step (Both x n) o k).0 (expected_step (Quote x) o k).0 (same_answer k f accepted), same_end k f accepted)
    same_concerning (c ∷ cs) k f accepted =
        let one = expected_step c.call c.outputs k in
        rw (same_concerning cs one.1 (since_step c.call c.outputs k f) accepted)

module _ (concern : Concern) (before after : List Lending) (l : Lent) (x : List ℕ) (n : ℕ) (o p : Outputs) where
  -- the calls with the two in one, and with the quote played singly and the look behind it, that one with any outputs
  abbrev in_one_lem : List Lending
  in_one_lem = before ++ lending (Both x n) o ∷ after

  abbrev singly : List Lending
  singly = before ++ lending (Quote x) o ∷ lending (Look n) p ∷ after

  module _ (accepted : (expected_step (Both x n) o (expected_at_end before l)).0.outcome.number ≡ 0) where
    -- if the two in one are accepted, the two runs agree in every concern
    pub singly_or_in_one : SameConcern concern in_one_lem singly l l (runs expected_step in_one_lem (expected_first l)).0 (runs expected_step singly (expected_first l)).0
    unfolding concerning nines asked heard_as
    singly_or_in_one = record {
      lengths = refl;
      calls = same_concerning x n o p concern (λ c s. asked c) (λ _ _ _. refl) after before (expected_first l) (inl refl) accepted;
      refused =
          same_concerning x n o p concern (λ c s. eqb s.outcome.number (number NoFreeRecord))
          (λ one other e. ap (λ (a : ℕ). eqb a (number NoFreeRecord)) e) after before (expected_first l) (inl refl) accepted;
    }

    -- so they show it the same
    pub singly_shown : SameShown concern in_one_lem singly (runs expected_step in_one_lem (expected_first l)).0 (runs expected_step singly (expected_first l)).0
    singly_shown = isolated concern in_one_lem singly l l singly_or_in_one
