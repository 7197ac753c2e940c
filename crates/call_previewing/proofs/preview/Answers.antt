-- `preview` meets its contract: it is judged as the quote is, and its changes are those of the quote.
use mathlib.Core.Path.{◌≡◌, refl, sym, ap, ◌∙◌}
use native.Mathlib.Omega.{arith}
use mathlib.Core.Bool.{false}
use Rattle.std.specs.Prelude.{Err}
use Rattle.lists.proofs.Booleans.{clash}
use Rattle.refusals.specs.Refusals.{number_of}
use Rattle.refusals.proofs.Numbers.{accepted_number}
use Rattle.call_settling.proofs.Findings.{findable}
use Rattle.call_settling.proofs.Settled.{placed}
use Rattle.call_quoting.proofs.Quotes.{Entering, taken, quote_lent, bounded_held, reply_is, out_is, quote_refused}
use Rattle.call_quoting.proofs.Reaching.{unknown_sound}
use Rattle.call_previewing.proofs.Previews.{tells_quote, writable_in}
use Rattle.call_previewing.proofs.preview.Goals as goal

pub judge-requires : goal.judge-requires
judge-requires c = λ e. absurd (clash false e refl)

pub returns-in-Err : goal.returns-in-Err
returns-in-Err c =
    let q = quote_refused _ _ _ _ _ {a = Err c.in-Err.refusal} (ap number_of (sym c.in-Err.is) ∙ c.judge.ensures) refl in
    tells_quote _ _ _ _ _ (rw c.refused.ensures at c.effect_of.ensures) q.reply q.out

pub find-found-requires : goal.find-found-requires
find-found-requires c =
    let a = (taken _ _ _ _ _ (accepted_number _ c.judge.ensures c.in_default.is)).admitted in
    record {
      findable = findable a (omega (arith, bounded_held a));
      placed = placed a;
      sound = λ e. absurd (clash false e refl);
    }

pub write-count-requires : goal.write-count-requires
write-count-requires c =
    let accepted = accepted_number _ c.judge.ensures c.in_default.is in
    let all = quote_lent _ _ _ c.args.watches c.args.records _ (omega (arith, c.well_formed)) accepted in
    let v : Entering _ _ _ _ _ _ _ = record { accepted = rw all at accepted; eight = omega (arith, c.well_formed); finds = c.find-found.ensures.finds } in
    record {
      writable = writable_in v (omega (arith, c.find-found.auto));
      sound_if = unknown_sound c.find-found.ensures.reachable_value;
    }

pub returns : goal.returns
returns c =
    let accepted = accepted_number _ c.judge.ensures c.in_default.is in
    let all = quote_lent _ _ _ c.args.watches c.args.records _ (omega (arith, c.well_formed)) accepted in
    let v : Entering _ _ _ _ _ _ _ = record { accepted = rw all at accepted; eight = omega (arith, c.well_formed); finds = c.find-found.ensures.finds } in
    rw all (tells_quote _ _ _ _ _ c.effect_of-2.ensures (reply_is v c.write-count.ensures.value c.accept.ensures) (out_is _ v c.write-count.ensures.out_after))
