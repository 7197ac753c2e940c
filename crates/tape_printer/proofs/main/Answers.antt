-- `main` meets its contract: each call of a turn is made on what the one before left.
use Rattle.std.proofs.Common.{arith, refl, ◌∙◌, length-take}
use Rattle.tape_playback.proofs.Advancing.{plays_inside}
use Rattle.tape_playback.proofs.Gathering.{gathered_fits}
use Rattle.tape_playback.proofs.Starting.{same_reached, same_starts, plays_reached}
use Rattle.tape_printer.proofs.Printing.{slides_through, first_reached}
use Rattle.tape_printer.proofs.main.Goals as goal

pub loop-init : goal.loop-init
loop-init c = record {
  columns = refl;
  positions = refl;
  lower_ends = refl;
  upper_ends = refl;
  tape_long = refl;
  text_long = refl;
  fits = omega arith;
  inside = omega arith;
  come = omega arith;
  starts = record { bounded = omega arith; near = omega arith };
  reached = first_reached _ _ c.fresh.ensures;
}

pub flush-requires : goal.flush-requires
flush-requires c = c.loop.invariant.fits

pub refill-playback-requires : goal.refill-playback-requires
refill-playback-requires c =
    let i = c.loop.invariant in
    let f = c.flush.ensures.flushed in
    record {
      place_le_end = (omega (arith, f.place, f.same.end, i.inside), omega (arith, f.same.end, i.come));
      in_bounds = omega (arith, i.tape_long);
    }

pub slice_bounds-play_piece-end : goal.slice_bounds-play_piece-end
slice_bounds-play_piece-end c =
    let r = c.refill-playback in
    simp length-take (omega (arith, r.ensures.refilled.within, r.auto.tape))

pub play_piece-playback-requires : goal.play_piece-playback-requires
play_piece-playback-requires c =
    let i = c.loop.invariant in
    let f = c.flush.ensures.flushed in
    let r = c.refill-playback.ensures.refilled in
    record {
      used_in_bounds = (omega (arith, r.used, f.used), simp length-take (omega (arith, r.inside, r.within, c.refill-playback.auto.tape)));
      long = slides_through i;
      within = same_starts r.book (same_starts f.book i.starts);
      reached = same_reached _ r.book (same_reached _ f.book i.reached);
    }

pub loop-preserved : goal.loop-preserved
loop-preserved c =
    let i = c.loop.invariant in
    let f = c.flush.ensures.flushed in
    let r = c.refill-playback in
    let p = c.play_piece-playback in
    let inside = plays_inside p.ensures.plays (simp length-take (omega (arith, r.ensures.refilled.inside, r.ensures.refilled.within, r.auto.tape))) in
    record {
      columns = p.auto.columns ∙ i.columns;
      positions = p.auto.positions ∙ i.positions;
      lower_ends = p.auto.lower_ends ∙ i.lower_ends;
      upper_ends = p.auto.upper_ends ∙ i.upper_ends;
      tape_long = r.auto.tape ∙ i.tape_long;
      text_long = p.auto.text ∙ i.text_long;
      fits = gathered_fits p.ensures.gathered (omega (arith, r.ensures.refilled.used, f.used));
      inside = omega (arith, rw length-take at inside, p.ensures.same.end);
      come = omega (arith, p.ensures.same.end, r.ensures.refilled.within, r.auto.tape);
      starts = p.ensures.starts;
      reached = plays_reached p.ensures.plays (same_reached _ r.ensures.refilled.book (same_reached _ f.book i.reached));
    }

pub flush-requires-2 : goal.flush-requires-2
flush-requires-2 c = c.loop.invariant.fits
