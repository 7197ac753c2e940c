-- `audit` meets its contract: each return is one case of what the audit finds.
use mathlib.Core.Path.{sym, ◌∙◌}
use Rattle.head.proofs.Settings.{settings_within}
use Rattle.model_audit.proofs.Audit.{audited}
use Rattle.call_judging.proofs.Answering.{long_enough}
use Rattle.book_audit.proofs.Verdicts.{wrong_settings, too_short_lem, by_verdict}
use Rattle.book_audit.proofs.audit.Goals as goal

pub returns-then-not-settings_hold : goal.returns-then-not-settings_hold
returns-then-not-settings_hold c =
    audited _ _ c.know_small.ensures _
    (sym (wrong_settings _ _ (sym c.settings_hold.ensures ∙ c.if-not-settings_hold.true)))

pub returns-then-short_tables : goal.returns-then-short_tables
returns-then-short_tables c =
    audited _ _ c.know_small.ensures _
    (sym (too_short_lem _ _ (sym c.settings_hold.ensures ∙ c.if-not-settings_hold.false)
    (sym c.short_tables.ensures ∙ c.if-short_tables.true)))

pub meets_rules-requires : goal.meets_rules-requires
meets_rules-requires c =
    let room = long_enough _ _ _ (sym c.short_tables.ensures ∙ c.if-short_tables.false) in
    let within = settings_within _ _ _ (sym c.settings_hold.ensures ∙ c.if-not-settings_hold.false) in
    record {
      le_capacity = within.some_capacity;
      dimensions_in_bounds = room.columns;
      capacity_in_bounds = room.positions;
      capacity_in_bounds_2 = room.lower_ends;
      capacity_in_bounds_3 = room.upper_ends;
    }

pub returns : goal.returns
returns c =
    audited _ _ c.know_small.ensures _
    (by_verdict _ _ (sym c.settings_hold.ensures ∙ c.if-not-settings_hold.false)
    (sym c.short_tables.ensures ∙ c.if-short_tables.false) c.meets_rules.ensures)
