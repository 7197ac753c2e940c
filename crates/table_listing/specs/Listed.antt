-- The list of a window and what is due in it, by the rows lent.
use Rattle.std.specs.Prelude.{ℕ, List}
use Rattle.table_listing.specs.declared.window.RowWindow.{RowWindow}
use Rattle.table_listing.specs.Picked.{listed_in}
use Rattle.table_listing.specs.Due.{due_positions}

-- the list of a window of rows
abbrev pub on_list : RowWindow → List ℕ
on_list w = listed_in w.start w.end w.first w.lower_ends.now w.upper_ends.now

-- the positions of a window of rows whose lower end is below c
abbrev pub due_on : RowWindow → ℕ → List ℕ
due_on w c = due_positions w.start w.end c w.first w.lower_ends.now
