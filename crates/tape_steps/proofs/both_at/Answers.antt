-- `both_at` meets its contract: it is tested what stands there, and then the quote and n are read.
use native.Mathlib.Omega.{arith}
use Rattle.tape_steps.proofs.Finding.{place_inside, read_inside, tested, none_behind, none_opened, both_there}
use mathlib.Core.Path.{ap}
use mathlib.Core.Bool.{not}
use Rattle.tape_steps.proofs.both_at.Goals as goal

pub returns-then-not-look_behind : goal.returns-then-not-look_behind
returns-then-not-look_behind c = none_behind _ _ _ c.look_behind.ensures (ap not c.if-not-look_behind.true) c.none_at.ensures

pub returns-then-not-settings_hold : goal.returns-then-not-settings_hold
returns-then-not-settings_hold c = none_opened _ _ _ c.settings_hold.ensures (ap not c.if-not-settings_hold.true) c.none_at-then-not-settings_hold.ensures

pub bounds-tape-place : goal.bounds-tape-place
bounds-tape-place c =
    let look = tested _ _ c.look_behind.ensures (ap not c.if-not-look_behind.false) in
    place_inside _ _ look

pub overflow_add-look : goal.overflow_add-look
overflow_add-look c =
    let look = tested _ _ c.look_behind.ensures (ap not c.if-not-look_behind.false) in
    omega (arith, read_inside _ _ look c.read_at-read.result c.read_at-read.ensures)

pub two_at-requires : goal.two_at-requires
two_at-requires c =
    let look = tested _ _ c.look_behind.ensures (ap not c.if-not-look_behind.false) in
    omega (arith, read_inside _ _ look c.read_at-read.result c.read_at-read.ensures)

pub overflow_add-result : goal.overflow_add-result
overflow_add-result c =
    let look = tested _ _ c.look_behind.ensures (ap not c.if-not-look_behind.false) in
    omega (arith, read_inside _ _ look c.read_at-read.result c.read_at-read.ensures)

pub returns : goal.returns
returns c =
    both_there _ _ _ c.look_behind.ensures (ap not c.if-not-look_behind.false) c.settings_hold.ensures (ap not c.if-not-settings_hold.false) c.read_at-read.result
    c.read_at-read.ensures c.two_at.ensures
