-- `quote_known` meets its contract: it is judged, what it does is found, and it is entered by that.
use mathlib.Core.Path.{◌≡◌, refl}
use Prim.Native.Nat.{◌≤◌}
use native.Mathlib.Omega.{arith}
use lib.ListN.{length, take}
use Rattle.refusals.proofs.Numbers.{accepted_number}
use Rattle.lent_tables.specs.Lent.{lent_mut}
use Rattle.lent_tables.proofs.Parts.{parts}
use Rattle.model.specs.Book.{quote_answer}
use Rattle.call_settling.proofs.Standing.{Admitted, within}
use Rattle.call_settling.proofs.Findings.{findable}
use Rattle.call_settling.proofs.Settled.{placed}
use Rattle.call_settling.proofs.Reaching.{reached_sound}
use Rattle.call_quoting.proofs.Quotes.{taken, quote_lent, bounded_held}
use Rattle.call_quoting.proofs.Entries.{entry_refused}
use Rattle.call_quoting.proofs.quote_known.Goals as goal
use Rattle.call_quoting.proofs.quote_known.Goals.{In_default}

pub judge-requires : goal.judge-requires
judge-requires c = rw c.to_read-read.ensures c.requires.reached

pub returns-in-Err : goal.returns-in-Err
returns-in-Err c =
    record {
      same_loan = (refl, refl, refl, refl, refl, refl, refl, refl);
      entered = entry_refused _ _ _ _ _ _ (rw c.to_read-read.ensures at c.judge.ensures) c.in-Err.is c.refused.ensures;
    }

-- what is answered to a quote that is not refused
accepted : (c : In_default) → quote_answer c.args.head c.args.quote.now (lent_mut c.args.tables.now) (take c.args.records c.args.watches) (length c.args.out.now) ≡ 0
accepted c = accepted_number _ (rw c.to_read-read.ensures at c.judge.ensures) c.in_default.is

pub find-found-requires : goal.find-found-requires
find-found-requires c =
    let p = parts c.to_read-read.result c.args.tables.now c.to_read-read.ensures in
    let a = (taken _ _ _ _ _ (accepted (goal.at.find-found-requires c).In_default)).admitted in
    record {
      findable = rw (p.columns, p.upper_ends) (findable a (omega (arith, bounded_held a)));
      placed = rw p.upper_ends (placed a);
      sound = rw (p.columns, p.upper_ends) (λ e. reached_sound _ (c.requires.reached e) (within a).some_capacity);
    }

pub enter-requires : goal.enter-requires
enter-requires c =
    let p = parts c.to_read-read.result c.args.tables.now c.to_read-read.ensures in
    let all = quote_lent _ _ _ c.args.watches c.args.records _ (omega (arith, c.well_formed)) (accepted (goal.at.enter-requires c).In_default) in
    record {
      out_value = rw all at (accepted (goal.at.enter-requires c).In_default);
      finds = rw (p.columns, p.upper_ends) at c.find-found.ensures.finds;
      known = rw c.find-found.ensures.reachable_value (rw all at c.requires);
    }

pub returns : goal.returns
returns c =
    let all = quote_lent _ _ _ c.args.watches c.args.records _ (omega (arith, c.well_formed)) (accepted (goal.at.returns c).In_default) in
    record {
      same_loan = c.enter.ensures.same_loan;
      entered = rw all (rw c.find-found.ensures.reachable_value at c.enter.ensures.entered);
    }
