-- `numbers_of` meets its contract: a number for each record.
use Rattle.host_plays.proofs.Numbers.{numbers_are}
use Rattle.host_plays.proofs.numbers_of.Goals as goal

pub returns : goal.returns
returns c =
    numbers_are _
    c.record_of.ensures
    c.record_of-2.ensures
    c.record_of-3.ensures
    c.record_of-4.ensures
    c.record_of-5.ensures
    c.record_of-6.ensures
    c.record_of-7.ensures
    c.record_of-8.ensures
