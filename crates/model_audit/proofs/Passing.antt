-- A book that calls left passes the audit, once an opening was accepted.
use mathlib.Core.Path.{◌≡◌, refl, sym, ◌∙◌}
use mathlib.Core.Bool.{true}
use Rattle.lists.proofs.Booleans.{clash}
use Rattle.head.specs.declared.Head.{Head}
use Rattle.head.specs.Replies.{yes}
use Rattle.head.specs.Heads.{settings_hold}
use Rattle.model.specs.Reference.{Reference, unopened, row_of, rows_of, head_of, is_open}
use Rattle.model.specs.Calls.{Lent, World, Expected, Reached}
use Rattle.model_audit.specs.Audit.{audit_finding}
use Rattle.model.proofs.Simulation.{Invariant, Simulation, simulation_by}
use Rattle.model.proofs.Reached.{expected, reached_simulation}
use Rattle.model_audit.proofs.Rules.{yes_iff_passed}
use Rattle.model_audit.proofs.Audit.{left_passes}

-- what an opened reference model shows passes the audit
shows_passes : (s : Reference) (l : Lent) → Invariant s l → audit_finding (head_of s) l.tables ≡ yes
unfolding row_of rows_of head_of is_open
shows_passes s l f =
    (yes_iff_passed (head_of s) l.tables).1
    (f.settings, left_passes (head_of s) l.tables f.settings s.quotes refl refl refl f.within f.wide f.tables)

-- so does a book that simulates one
pub simulation_passes : (k : Expected) (w : World) → Simulation k w → is_open k.reference ≡ true → audit_finding w.head w.lent.tables ≡ yes
unfolding is_open settings_hold
simulation_passes =
    simulation_by (λ k w. is_open k.reference ≡ true → audit_finding w.head w.lent.tables ≡ yes)
    (λ l e. absurd (clash (is_open unopened) e refl)) (λ s l f e. shows_passes s l f)

-- the settings of a reference model's head hold where it is opened
head_opened : (h : Head) (s : Reference) → h ≡ head_of s → settings_hold h.dimensions h.capacity h.directions ≡ is_open s
unfolding head_of is_open
head_opened h s e = rw e

-- a book that calls left passes the audit once an opening was accepted
pub reached_passes : {w : World} (r : Reached w) → settings_hold w.head.dimensions w.head.capacity w.head.directions ≡ true
    → audit_finding w.head w.lent.tables ≡ yes
reached_passes {w} r hold =
    let k = expected r in
    let j = reached_simulation r in
    simulation_passes k w j (sym (head_opened w.head k.reference j.head) ∙ hold)
