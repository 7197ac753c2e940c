-- `join` meets its contract: the part is what the chosen tape was moved past.
use mathlib.Core.Path.{refl}
use Rattle.venue_join.proofs.Joins.{first_bounds, second_bounds, handed_first, handed_second, handed_none, handed_refusal}
use Rattle.std.proofs.Common.{rules}
use Rattle.venue_join.proofs.join.Goals as goal

pub returns-in_err-behind : goal.returns-in_err-behind
returns-in_err-behind c = handed_refusal _ _ _ _ c.join_at.ensures c.in_err-behind.was (search rules)

pub pass-requires : goal.pass-requires
pass-requires c = first_bounds _ _ _ _ c.join_at.ensures c.in_ok-behind.was c.in-Some-First.is c.in-Some-First.field-0-is

pub pass-requires-in-Some-Second : goal.pass-requires-in-Some-Second
pass-requires-in-Some-Second c = second_bounds _ _ _ _ c.join_at.ensures c.in_ok-behind.was c.in-Some-Second.is c.in-Some-Second.field-0-is

pub returns-in-Some-First : goal.returns-in-Some-First
returns-in-Some-First c = handed_first _ _ _ _ c.join_at.ensures c.in_ok-behind.was c.in-Some-First.is c.in-Some-First.field-0-is c.pass.ensures refl

pub returns-in-Some-Second : goal.returns-in-Some-Second
returns-in-Some-Second c =
    handed_second _ _ _ _ c.join_at.ensures c.in_ok-behind.was c.in-Some-Second.is c.in-Some-Second.field-0-is c.pass-in-Some-Second.ensures refl

pub returns-in-None : goal.returns-in-None
returns-in-None c = handed_none _ _ _ _ c.join_at.ensures c.in_ok-behind.was c.in-None.is
