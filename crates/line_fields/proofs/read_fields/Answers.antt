-- `read_fields` meets its contract: what is read of the bytes behind stays the same.
use Rattle.std.proofs.Common.{◌≡◌, ◌≤◌, sym, ◌∙◌, rules, arith}
use Rattle.line_fields.proofs.Steps.{step_few}
use Rattle.line_fields.proofs.Scanning.{scanning_start, scanning_more, scanning_stop, scanning_end}
use Rattle.line_fields.proofs.read_fields.Goals as goal
use Rattle.line_fields.proofs.read_fields.Goals.{After-saturating_sub}

pub loop-at-init : goal.loop-at-init
loop-at-init c = record { scanning = scanning_start _ _ _ _ c.start-scan.ensures; most = omega arith }

-- no more than six fields are begun
last_few : (c : After-saturating_sub) → c.saturating_sub.result ≤ 5
last_few c =
    let few : c.after-scan.result.count ≤ 6 = rw c.after-scan.ensures (step_few _ c.loop-at.invariant.scanning.few _ _) in
    omega (arith, few, c.saturating_sub.ensures)

pub offset_bounds-numbers-saturating_sub : goal.offset_bounds-numbers-saturating_sub
offset_bounds-numbers-saturating_sub c = let few : c.saturating_sub.result ≤ 5 = last_few c in search rules

pub bounds-numbers-saturating_sub : goal.bounds-numbers-saturating_sub
bounds-numbers-saturating_sub c = omega (arith, last_few c)

pub loop-at-preserved : goal.loop-at-preserved
loop-at-preserved c = record {
  scanning = rw c.saturating_sub.ensures (scanning_more c.loop-at.invariant.scanning c.loop-at-test.true c.after-scan.ensures (sym c.in_fields.ensures ∙ c.if-not-in_fields.false));
  most = omega arith;
}

pub returns-then-not-in_fields : goal.returns-then-not-in_fields
returns-then-not-in_fields c = rw c.fields.ensures (scanning_stop c.loop-at.invariant.scanning c.loop-at-test.true (sym c.in_fields.ensures ∙ c.if-not-in_fields.true))

pub returns : goal.returns
returns c =
    let end : c.max.result ≡ c.loop-at.at = omega (arith, c.max.ensures) in
    rw (end, c.fields-2.ensures) (scanning_end c.loop-at.invariant.scanning c.loop-at-test.false)
