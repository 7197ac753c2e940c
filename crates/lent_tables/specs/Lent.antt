-- What the lent tables hold.
use Rattle.std.specs.Prelude.{◌≡◌, length}
use Rattle.lent_tables.specs.declared.LentTables.{LentTables}
use Rattle.lent_tables.specs.declared.LentTablesMut.{LentTablesMut}
use Rattle.model.specs.Rows.{Tables}
use Rattle.model.specs.Promises.{tables}

-- what four tables hold that are lent to read
abbrev pub lent : LentTables → Tables
lent t = tables t.columns.now t.positions.now t.lower_ends.now t.upper_ends.now

-- what four tables hold that are lent to write
abbrev pub lent_mut : LentTablesMut → Tables
lent_mut t = tables t.columns.now t.positions.now t.lower_ends.now t.upper_ends.now

-- the tables that were lent are still the ones lent, and as long, whatever was written to them
abbrev pub SameLoan : LentTablesMut → LentTablesMut → Type 0
SameLoan s t =
    (s.columns.ghost_name ≡ t.columns.ghost_name) × (s.positions.ghost_name ≡ t.positions.ghost_name) ×
    (s.lower_ends.ghost_name ≡ t.lower_ends.ghost_name) × (s.upper_ends.ghost_name ≡ t.upper_ends.ghost_name) ×
    (length t.columns.now ≡ length s.columns.now) × (length t.positions.now ≡ length s.positions.now) ×
    (length t.lower_ends.now ≡ length s.lower_ends.now) × (length t.upper_ends.now ≡ length s.upper_ends.now)
