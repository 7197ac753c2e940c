-- `look_behind` meets its contract, by the tests it makes.
use native.Mathlib.Omega.{arith}
use Rattle.tape_steps.proofs.Finding.{none_beyond, no_quote_lem, high, too_short_lem, by_kind}
use Rattle.tape_steps.proofs.look_behind.Goals as goal

pub returns-then-tape-place : goal.returns-then-tape-place
returns-then-tape-place c = none_beyond _ _ c.if-tape-place.true

pub returns-then-kind : goal.returns-then-kind
returns-then-kind c = no_quote_lem _ _ c.if-kind.true

pub overflow_cast-frame : goal.overflow_cast-frame
overflow_cast-frame c = record { fits = omega (arith, high c.args.tape.now c.args.place c.if-kind.false) }

pub overflow_mul-frame : goal.overflow_mul-frame
overflow_mul-frame c = omega (arith, high c.args.tape.now c.args.place c.if-kind.false)

pub overflow_add-frame : goal.overflow_add-frame
overflow_add-frame c = omega (arith, high c.args.tape.now c.args.place c.if-kind.false)

pub overflow_add-frame-2 : goal.overflow_add-frame-2
overflow_add-frame-2 c = omega (arith, high c.args.tape.now c.args.place c.if-kind.false)

pub returns-then-tape-place-2 : goal.returns-then-tape-place-2
returns-then-tape-place-2 c = too_short_lem _ _ c.if-kind.false c.if-tape-place-2.true

pub returns : goal.returns
returns c = by_kind _ _ c.if-kind.false c.if-tape-place-2.false
