-- The rules of the audit one by one, and that a finding of yes says them all.
use mathlib.Core.Path.{◌≡◌, refl}
use mathlib.Core.Logic.{◌↔◌}
use Prim.Native.Nat.{ℕ, ◌*◌}
use native.Mathlib.Omega.{arith}
use mathlib.Core.Bool.{Bool, true, false, ◌&&◌, ◌||◌, not}
use mathlib.Core.List.{List, [], ◌∷◌}
use lib.Dec.{ltb}
use lib.ListN.{length}
use borrow.Author.Tests.{ltb-false, le-ltb, not-true}
use Rattle.lists.specs.Lists.{any}
use Rattle.lists.proofs.Booleans.{and_left, and_right, none_left, none_right}
use Rattle.head.specs.declared.Head.{Head}
use Rattle.refusals.specs.declared.Refusal.TheVariants.{Settings, ShortLoan}
use Rattle.refusals.specs.Refusals.{number, first_of}
use Rattle.head.specs.Replies.{yes}
use Rattle.head.specs.Heads.{settings_hold}
use Rattle.model.specs.Rows.{Row, Tables}
use Rattle.model.specs.Book.{short_tables, torn_rows, book_rows}
use Rattle.model_audit.specs.Audit.{zero_from, wrong_end, passes, finding_of, audit_finding}
use Rattle.model_audit.proofs.AuditTables.{Clean}

-- all the rules: not torn, no end wrong, and zeros past the count in tables that are long enough
pub record Passed (h : Head) (t : Tables) : Type 0 where
  pub untorn : torn_rows h (book_rows h t) ≡ false
  pub ends_right : any (wrong_end h.dimensions h.directions (book_rows h t)) (book_rows h t) ≡ false
  pub clean : Clean h.dimensions h.capacity h.held t

module _ (h : Head) (t : Tables) where
  -- the columns of a quote
  abbrev d : ℕ
  d = h.dimensions

  -- the capacity
  abbrev N : ℕ
  N = h.capacity

  -- the rows in the tables
  abbrev rs : List Row
  rs = book_rows h t

  -- the cells past the count are 0
  abbrev zeros : Bool
  zeros =
      zero_from (h.held * d) (N * d) t.columns && zero_from h.held N t.positions && zero_from h.held N t.lower_ends
      && zero_from h.held N t.upper_ends

  -- tables that are not too short and hold zeros past the count are clean
  long_clean : short_tables t d N ≡ false → zeros ≡ true → Clean d N h.held t
  unfolding short_tables
  long_clean long e =
      let z1 = zero_from (h.held * d) (N * d) t.columns in
      let z2 = zero_from h.held N t.positions in
      let z3 = zero_from h.held N t.lower_ends in
      let z4 = zero_from h.held N t.upper_ends in
      let three = and_left (z1 && z2 && z3) z4 e in
      let two = and_left (z1 && z2) z3 three in
      let l1 = ltb (length t.columns) (N * d) in
      let l2 = ltb (length t.positions) N in
      let l3 = ltb (length t.lower_ends) N in
      let l4 = ltb (length t.upper_ends) N in
      let first_three = none_left (l1 || l2 || l3) l4 long in
      let first_two = none_left (l1 || l2) l3 first_three in
      record {
        columns_room = ltb-false (length t.columns) (N * d) (none_left l1 l2 first_two);
        positions_room = ltb-false (length t.positions) N (none_right l1 l2 first_two);
        lower_room = ltb-false (length t.lower_ends) N (none_right (l1 || l2) l3 first_three);
        upper_room = ltb-false (length t.upper_ends) N (none_right (l1 || l2 || l3) l4 long);
        columns_zero = and_left z1 z2 two;
        positions_zero = and_right z1 z2 two;
        lower_zero = and_right (z1 && z2) z3 three;
        upper_zero = and_right (z1 && z2 && z3) z4 e;
      }

  -- clean tables are not too short
  clean_long : Clean d N h.held t → short_tables t d N ≡ false
  unfolding short_tables
  clean_long c =
      rw (
        le-ltb (length t.columns) (N * d) c.columns_room,
        le-ltb (length t.positions) N c.positions_room,
        le-ltb (length t.lower_ends) N c.lower_room,
        le-ltb (length t.upper_ends) N c.upper_room,
      )

  -- what `passes` says of tables that are not too short
  passes_says : short_tables t d N ≡ false → passes h t ≡ true → Passed h t
  unfolding passes
  passes_says long e =
      let wrong = any (wrong_end d h.directions rs) rs in
      let two = and_left (not (torn_rows h rs) && not wrong) zeros e in
      record {
        untorn = not-true (torn_rows h rs) (and_left (not (torn_rows h rs)) (not wrong) two);
        ends_right = not-true wrong (and_right (not (torn_rows h rs)) (not wrong) two);
        clean = long_clean long (and_right (not (torn_rows h rs) && not wrong) zeros e);
      }

  -- where all the rules hold, `passes` says so
  passed_passes : Passed h t → passes h t ≡ true
  unfolding passes
  passed_passes p = rw (p.untorn, p.ends_right, p.clean.columns_zero, p.clean.positions_zero, p.clean.lower_zero, p.clean.upper_zero)

  -- the finding is yes exactly if the settings and all the rules hold
  pub yes_iff_passed : (audit_finding h t ≡ yes) ↔ ((settings_hold d N h.directions ≡ true) × Passed h t)
  unfolding audit_finding finding_of first_of
  yes_iff_passed = (
    λ e. let y = there (settings_hold d N h.directions) (short_tables t d N) (passes h t) e in (y.0, passes_says y.1 y.2),
    λ p. rw (p.0, clean_long p.1.clean, passed_passes p.1),
  )
    where
      there : (hold short pass : Bool) → finding_of (first_of ((not hold, number Settings) ∷ (short, number ShortLoan) ∷ [])) pass ≡ yes
          → (hold ≡ true) × (short ≡ false) × (pass ≡ true)
      there true false true e = (refl, refl, refl)
      there true false false e = absurd (let z : ◌≡◌ {A = ℕ} 0 1 = cc in omega arith)
      there true true pass e = absurd (let z : ◌≡◌ {A = ℕ} 0 1 = cc in omega arith)
      there false short pass e = absurd (let z : ◌≡◌ {A = ℕ} 0 1 = cc in omega arith)
