-- `find` meets its contract: what is found among the rows is told.
use Rattle.call_settling.proofs.Numbers.{counts, tellable, tells}
use Rattle.call_settling.proofs.find.Goals as goal

pub expired_places-requires : goal.expired_places-requires
expired_places-requires c = (counts c.requires.findable).2

pub find_rows-found-requires : goal.find_rows-found-requires
find_rows-found-requires c =
    record {
      from_le_to = rw c.expired_places.ensures (counts c.requires.findable).1;
      fits = c.requires.findable.fits;
      to_in_bounds = c.requires.findable.room;
      sound = λ t. rw c.expired_places.ensures (c.requires.sound t);
    }

pub tell-requires : goal.tell-requires
tell-requires c =
    record {
      tellable = tellable c.requires.findable c.expired_places.ensures c.find_rows-found.ensures;
      placed = c.requires.placed;
    }

pub returns : goal.returns
returns c =
    let both = tells c.requires.findable c.expired_places.ensures c.find_rows-found.ensures c.tell.ensures in
    record {
      reachable_value = both.0;
      finds = both.1;
    }
