-- One frame played on a reachable book: the book that it leaves, and what is printed.
use mathlib.Core.Path.{◌≡◌, refl}
use mathlib.Core.Logic.{◌⊎◌}
use Prim.Native.Nat.{ℕ, ◌≤◌, ◌<◌}
use native.Mathlib.Nat.{zero-mul}
use native.Mathlib.Omega.{arith}
use mathlib.Core.Bool.{true, false}
use mathlib.Core.List.{List, [], ◌++◌}
use lib.ListN.{take}
use Rattle.head.specs.declared.Head.{Head}
use Rattle.head.specs.Heads.{settings_hold}
use Rattle.model.specs.Rows.{Tables}
use Rattle.model.specs.Calls.{Reached}
use Rattle.model.specs.Promises.{world}
use Rattle.model_claims.proofs.Places.{reached_in_places}
use Rattle.call_quoting.specs.Entered.{later, Slid, stayed, slid}
use Rattle.tape_model.specs.Play.{Played, Player, book_play}
use Rattle.tape_model.specs.Streams.{ready}
use Rattle.line_answers.specs.Turns.{player}
use Rattle.line_answers.specs.declared.Step.{Step}
use Rattle.tape.specs.Steps.{StepMade}
use Rattle.tape.specs.Prints.{left, Prints, goes_on_lem, slides}
use Rattle.tape.proofs.Reached.{step_reached}
use Rattle.tape.specs.declared.SlidStep.{SlidStep}

-- ---- what is left

-- a book that calls left, where it stands then
slid_reached : {h : Head} {t u : Tables} {ws : List ℕ} {by : ℕ} → Slid h t u by → Reached (world h t ws) → Reached (world h (later h.dimensions by u) ws)
unfolding later
slid_reached {h} (stayed e) c = rw (e, zero-mul h.dimensions) c
slid_reached (slid bounded holds same) c = reached_in_places holds c same

-- the rows slid by at most one place
slid_bounded : {h : Head} {t u : Tables} {by : ℕ} → Slid h t u by → by ≤ 1
slid_bounded (stayed e) = omega arith
slid_bounded (slid bounded holds same) = bounded

-- and only in a book that was opened
slid_holds : {h : Head} {t u : Tables} {by : ℕ} → Slid h t u by → 0 < by → settings_hold h.dimensions h.capacity h.directions ≡ true
slid_holds (stayed e) l = absurd (omega arith)
slid_holds (slid bounded holds same) l = holds

-- what playing one frame leaves
pub left_reached : (tape : List ℕ) (place : ℕ) (h : Head) (t : Tables) (ws bytes : List ℕ) {before : List ℕ} {s : SlidStep} {t' : Tables} {bytes' after : List ℕ}
    → StepMade true (book_play tape place (player h t ws bytes)) before s t' bytes' after → Reached (world h t ws)
    → Reached (world s.step.turn.head (later s.step.turn.head.dimensions s.by t') s.step.turn.watches)
left_reached tape place h t ws bytes m c = slid_reached (m.slides refl) (step_reached tape place h t ws bytes m.stepped c)

module _ {one : Played Player} {before : List ℕ} {s : SlidStep} {t' : Tables} {bytes' after : List ℕ} (m : StepMade true one before s t' bytes' after) where
  pub left_bounded : s.by ≤ 1
  left_bounded = slid_bounded (m.slides refl)

  pub left_holds : 0 < s.by → settings_hold s.step.turn.head.dimensions s.step.turn.head.capacity s.step.turn.head.directions ≡ true
  left_holds = slid_holds (m.slides refl)

-- ---- what is printed

-- the player that a step leaves goes on from where its book stands
slid_prints : (k : Player) (r : Step) {piece rest text bytes' : List ℕ} {place : ℕ} {t u : Tables} {by : ℕ} → Slid r.turn.head t u by
    → Prints piece place (left k r (later r.turn.head.dimensions by u) bytes') rest text → Prints piece place (left k r t bytes') rest text
unfolding later
slid_prints k r (stayed e) p = rw (e, zero-mul r.turn.head.dimensions) at p
slid_prints k r (slid bounded holds same) p = slides holds same p

-- so a step that was made while the rows slide is one by which a player prints
pub slid_goes_on : {piece rest text before after bytes' : List ℕ} {place : ℕ} {k : Player} {s : SlidStep} {t' : Tables} → (ready piece place ≡ true) ⊎ (rest ≡ [])
    → StepMade true (book_play piece place k) before s t' bytes' after → s.step.over ≡ false
    → Prints piece s.step.next (left k s.step (later s.step.turn.head.dimensions s.by t') bytes') rest text
    → Prints piece place k rest (take s.step.turn.count after ++ text)
slid_goes_on {k = k} {s = s} h m o p = goes_on_lem h m.stepped o (slid_prints k s.step (m.slides refl) p)
