-- `write_one` meets its contract: one frame of five bytes, or nothing.
use mathlib.Core.Path.{refl, sym}
use Rattle.lists.specs.Lists.{laid}
use Rattle.frames.specs.Frames.{frame}
use Rattle.frames.proofs.RoundTrips.{position_length}
use Rattle.table_pair_changes.proofs.Sliding.{one_frame, no_frame}
use Rattle.table_pair_changes.proofs.windows.write_one.Goals as goal

pub returns-then-not-asked : goal.returns-then-not-asked
unfolding laid
returns-then-not-asked c =
    record {
      value = rw (no_frame c.args.kind c.args.position c.if-not-asked.true) refl;
      out_after = rw (no_frame c.args.kind c.args.position c.if-not-asked.true) refl;
    }

pub lay_position-requires : goal.lay_position-requires
lay_position-requires c = rw (one_frame c.args.kind c.args.position c.if-not-asked.false, position_length) at c.requires

pub returns : goal.returns
unfolding frame
returns c =
    record {
      value = rw (one_frame c.args.kind c.args.position c.if-not-asked.false) (sym (position_length c.args.kind c.args.position));
      out_after = rw (one_frame c.args.kind c.args.position c.if-not-asked.false) c.lay_position.ensures;
    }
