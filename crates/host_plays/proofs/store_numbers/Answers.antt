-- `store_numbers` meets its contract: two cells for each record.
use native.Mathlib.Omega.{arith}
use Rattle.host_plays.proofs.Numbers.{stored_are}
use Rattle.host_plays.proofs.store_numbers.Goals as goal

pub returns : goal.returns
returns c =
    stored_are c.args.watches (omega (arith, c.well_formed))
    c.size_of.ensures c.desk_of.ensures
    c.size_of-2.ensures c.desk_of-2.ensures
    c.size_of-3.ensures c.desk_of-3.ensures
    c.size_of-4.ensures c.desk_of-4.ensures
    c.size_of-5.ensures c.desk_of-5.ensures
    c.size_of-6.ensures c.desk_of-6.ensures
    c.size_of-7.ensures c.desk_of-7.ensures
    c.size_of-8.ensures c.desk_of-8.ensures
