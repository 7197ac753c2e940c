-- What is read of tables that are lent to write, table by table.
use Rattle.std.proofs.Common.{◌≡◌, ap, ◌∙◌}
use Rattle.lent_tables.specs.declared.LentTables.{LentTables}
use Rattle.lent_tables.specs.declared.LentTablesMut.{LentTablesMut}
use Rattle.lent_tables.specs.Lent.{lent, lent_mut, SameLoan}
use Rattle.model.specs.Rows.{Tables}

-- the four tables of one loan are those of the other
pub record SameParts (r : LentTables) (t : LentTablesMut) : Type 0 where
  pub columns : r.columns.now ≡ t.columns.now
  pub positions : r.positions.now ≡ t.positions.now
  pub lower_ends : r.lower_ends.now ≡ t.lower_ends.now
  pub upper_ends : r.upper_ends.now ≡ t.upper_ends.now

pub parts : (r : LentTables) (t : LentTablesMut) → lent r ≡ lent_mut t → SameParts r t
parts r t e =
    record {
      columns = ap (λ (x : Tables). x.columns) e;
      positions = ap (λ (x : Tables). x.positions) e;
      lower_ends = ap (λ (x : Tables). x.lower_ends) e;
      upper_ends = ap (λ (x : Tables). x.upper_ends) e;
    }

-- a loan that stays the same twice stays the same
pub twice : (r s t : LentTablesMut) → SameLoan r s → SameLoan s t → SameLoan r t
twice r s t a b = (a.0 ∙ b.0, a.1 ∙ b.1, a.2 ∙ b.2, a.3 ∙ b.3, b.4 ∙ a.4, b.5 ∙ a.5, b.6 ∙ a.6, b.7 ∙ a.7)
