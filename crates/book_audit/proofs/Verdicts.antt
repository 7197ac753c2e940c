-- What the audit finds in each of its cases.
use mathlib.Core.Path.{◌≡◌, refl, sym, ◌∙◌}
use Rattle.std.specs.Prelude.{Ok}
use mathlib.Core.Bool.{Bool, true, false}
use Rattle.head.specs.declared.Head.{Head}
use Rattle.refusals.specs.declared.Refusal.TheVariants.{Settings, ShortLoan}
use Rattle.refusals.specs.Refusals.{number, first_of}
use Rattle.head.specs.Replies.{refused, finding}
use Rattle.head.specs.Heads.{settings_hold}
use Rattle.model.specs.Rows.{Tables}
use Rattle.model.specs.Book.{short_tables}
use Rattle.model_audit.specs.Audit.{passes, finding_of, audit_finding}

module _ (h : Head) (t : Tables) where
  -- settings outside their ranges are refused
  pub wrong_settings : settings_hold h.dimensions h.capacity h.directions ≡ false → audit_finding h t ≡ refused (number Settings)
  unfolding audit_finding finding_of first_of
  wrong_settings e = rw e

  -- then tables that are too short
  pub too_short_lem : settings_hold h.dimensions h.capacity h.directions ≡ true → short_tables t h.dimensions h.capacity ≡ true
      → audit_finding h t ≡ refused (number ShortLoan)
  unfolding audit_finding finding_of first_of
  too_short_lem e f = rw (e, f)

  -- else the rules decide
  pub by_rules : settings_hold h.dimensions h.capacity h.directions ≡ true → short_tables t h.dimensions h.capacity ≡ false
      → (b : Bool) → passes h t ≡ b → audit_finding h t ≡ finding_of 0 b
  unfolding audit_finding first_of
  by_rules e f b g = rw (e, f, g)

  -- what a verdict of yes or no says
  pub by_verdict : settings_hold h.dimensions h.capacity h.directions ≡ true → short_tables t h.dimensions h.capacity ≡ false
      → {b : Bool} → b ≡ passes h t → finding (Ok b) ≡ audit_finding h t
  unfolding finding_of
  by_verdict e f {b} g = sym (by_rules e f b (sym g) ∙ said b)
    where
      said : (b : Bool) → finding_of 0 b ≡ finding (Ok b)
      said true = refl
      said false = refl
