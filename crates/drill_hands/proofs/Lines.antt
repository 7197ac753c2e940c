-- The drill with two files' hands by its parts, and the rules of a line. Assumes nothing.
use mathlib.Core.Path.{◌≡◌, refl, sym, ap, ◌∙◌}
use mathlib.Core.List.{List}
use mathlib.Core.Bool.{Bool, true, false, ◌&&◌, not, cond}
use Prim.Native.Nat.{ℕ}
use lib.Dec.{eqb}
use lib.ListN.{get_or}
use Rattle.std.specs.Prelude.{Some, None, Ok, Err}
use Rattle.refusals.specs.Refusals.{number, granted}
use Rattle.refusals.proofs.Numbers.{refused_granted}
use Rattle.line_fields.specs.declared.Fields.{Fields}
use Rattle.line_fields.specs.Fields.{numbers_if}
use Rattle.drill_call.specs.declared.Hand.{Hand}
use Rattle.drill_call.specs.Drills as Drills
use Rattle.drill_turns.specs.declared.game.Rules.{Rules}
use Rattle.drill_hands.specs.declared.Unread.{Unread}
use Rattle.drill_hands.specs.Files.{handed, hand_in, files_drilled, asked_by}

module _ (rules : Rules) (first second : List ℕ) where
  pub first_refused : (u : Unread) → handed (Err u) ≡ hand_in first → Drills.refused (number u.refusal) ≡ files_drilled rules first second
  unfolding files_drilled
  first_refused u e =
      let n : (hand_in first).0 ≡ number u.refusal = sym (ap (λ (x : ℕ × Hand). x.0) e) in
      rw n (sym (refused_granted u.refusal _ (Drills.refused (number u.refusal))))

  module _ (mine : Hand) (e : handed (Ok mine) ≡ hand_in first) where
    taken : (hand_in first).0 ≡ 0
    taken = sym (ap (λ (x : ℕ × Hand). x.0) e)

    pub second_refused : (u : Unread) → handed (Err u) ≡ hand_in second → Drills.refused (number u.refusal) ≡ files_drilled rules first second
    unfolding files_drilled granted
    second_refused u f =
        let n : (hand_in second).0 ≡ number u.refusal = sym (ap (λ (x : ℕ × Hand). x.0) f) in
        rw (taken, n) (sym (refused_granted u.refusal _ (Drills.refused (number u.refusal))))

    pub both_taken : (theirs : Hand) → handed (Ok theirs) ≡ hand_in second → {s : Drills.Saying} → s ≡ Drills.drilled rules mine theirs
        → s ≡ files_drilled rules first second
    unfolding files_drilled granted
    both_taken theirs f d =
        let n : (hand_in second).0 ≡ 0 = sym (ap (λ (x : ℕ × Hand). x.0) f) in
        let one : (hand_in first).1 ≡ mine = sym (ap (λ (x : ℕ × Hand). x.1) e) in
        let two : (hand_in second).1 ≡ theirs = sym (ap (λ (x : ℕ × Hand). x.1) f) in
        d ∙ rw (taken, n, one, two)

-- the rules of a line, by its numbers where there are four
pub asked_none : (f : Fields) → numbers_if f 4 ≡ None → asked_by f ≡ None
unfolding asked_by
asked_none f e = go _ ((f.valid && not f.empty) && eqb f.count 4) e
  where
    go : (r : Rules) (b : Bool) → cond b (Some f.numbers) None ≡ None → cond b (Some r) None ≡ None
    go r true e = cc
    go r false e = refl

abbrev rules_of : List ℕ → Rules
rules_of l = record { dimensions = get_or l 0 0; capacity = get_or l 1 0; directions = get_or l 2 0; n = get_or l 3 0 }

pub asked_some : (f : Fields) {numbers : List ℕ} → numbers_if f 4 ≡ Some numbers → asked_by f ≡ Some (rules_of numbers)
unfolding asked_by
asked_some f {numbers} e = go ((f.valid && not f.empty) && eqb f.count 4) e
  where
    go : (b : Bool) → cond b (Some f.numbers) None ≡ Some numbers → cond b (Some (rules_of f.numbers)) None ≡ Some (rules_of numbers)
    go true e = let n : f.numbers ≡ numbers = cc in ap (λ (l : List ℕ). Some (rules_of l)) n
    go false e = cc
