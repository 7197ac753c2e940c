-- The desks' shares of the eight watch records: each desk is sure of 3, and the 2 left over go to whoever wants them first.
use Rattle.std.specs.Prelude.{ℕ, ◌+◌, ◌-◌, Bool, ◌&&◌, List, leb, eqb, length}
use Rattle.lists.specs.Lists.{filter}
use Rattle.head.specs.declared.Desk.{Desk}
use Rattle.head.specs.declared.Desk.TheVariants.{One, Two}
use Rattle.head.specs.Desks.{desk_number, desk_in}

-- a watch is this desk's
unfoldable pub of_desk : Desk → ℕ → Bool
of_desk desk w = eqb (desk_in w) (desk_number desk)

-- how many of these watches a desk has
unfoldable pub count_of : Desk → List ℕ → ℕ
count_of desk watches = length (filter (of_desk desk) watches)

-- how many watches the desks have above 3 each
unfoldable pub above_shares : List ℕ → ℕ
above_shares watches = (count_of One watches - 3) + (count_of Two watches - 3)

-- a desk is full (02: 9): it has 3 or more, and the watches that the desks have above 3 each come to 2
unfoldable pub desk_full : Desk → List ℕ → Bool
desk_full desk watches = leb 3 (count_of desk watches) && leb 2 (above_shares watches)
