-- `merge` meets its contract: the older half thinned by the newer, and then the newer by what is left of the older.
use Rattle.day_skyline.proofs.Merging.{older_apart, newer_apart, merged_front}
use Rattle.day_skyline.proofs.day.Day.merge.Goals as goal

pub thin-kept-requires : goal.thin-kept-requires
thin-kept-requires c = older_apart _ _ _ _ _ c.requires

pub thin-requires : goal.thin-requires
thin-requires c = newer_apart _ _ _ _ _ _ c.requires c.thin-kept.ensures

pub returns : goal.returns
returns c = merged_front _ _ _ _ _ _ c.requires c.thin-kept.ensures c.thin.ensures
