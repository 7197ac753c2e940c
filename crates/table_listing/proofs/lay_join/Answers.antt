-- `lay_join` meets its contract: the bytes laid are those of the follower's frame.
use native.Mathlib.Omega.{arith}
use Rattle.table_listing.proofs.Joins.{watch_size, watch_laid, pair_size, pair_laid}
use Rattle.table_listing.proofs.lay_join.Goals as goal

pub lay_change-requires : goal.lay_change-requires
lay_change-requires c = omega (arith, watch_size c.args.position c.in-Watch.is, c.requires)

pub returns-in-Watch : goal.returns-in-Watch
returns-in-Watch c =
    let both = watch_laid _ c.in-Watch.is c.join_kind.ensures _ c.lay_change.ensures in
    record {
      value = both.0;
      out_after = both.1;
    }

pub lay_position-requires : goal.lay_position-requires
lay_position-requires c = omega (arith, pair_size c.args.position c.in-Pair.is, c.requires)

pub returns-in-Pair : goal.returns-in-Pair
returns-in-Pair c =
    let both = pair_laid _ c.in-Pair.is _ c.lay_position.ensures in
    record {
      value = both.0;
      out_after = both.1;
    }
