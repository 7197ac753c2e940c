-- `make` meets its contract: what a frame wants is made; nothing is, where none stands there.
use Rattle.std.specs.Prelude.{Option, Result, Ok}
use mathlib.Core.Path.{ap, ◌∙◌}
use Rattle.refusals.specs.declared.Refusal.{Refusal}
use Rattle.tape_asking.specs.declared.Wanted.{Wanted}
use Rattle.tape_turns.specs.Making.{taken}
use Rattle.tape_turns.proofs.Makes.{stands_made, made_there, nothing_turned}
use Rattle.tape_turns.proofs.make.Goals as goal

-- what was read stands there
abbrev read_there : Option Wanted → Result (Option Wanted) Refusal
read_there o = Ok o

pub returns-in-Ok-Some-clause-made : goal.returns-in-Ok-Some-clause-made
unfolding taken
returns-in-Ok-Some-clause-made c = stands_made _ _ (c.in-Ok-Some.is ∙ ap read_there (rw c.in-Ok-Some.is at c.in-Ok-Some.field-0-is)) c.make_frame.ensures.made

pub returns-in-Ok-None-clause-made : goal.returns-in-Ok-None-clause-made
unfolding taken
returns-in-Ok-None-clause-made c =
    stands_made _ _ (c.in-Ok-None.is ∙ ap read_there (rw c.in-Ok-None.is at c.in-Ok-None.field-0-is)) (made_there (nothing_turned _ _ _ _ _))

pub returns-in-Err-clause-made : goal.returns-in-Err-clause-made
unfolding taken
returns-in-Err-clause-made c = stands_made _ _ c.in-Err.is (made_there (c.put_refusal.ensures _ _))
