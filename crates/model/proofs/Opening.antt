-- An opening is answered alike by both models, whatever stood before.
use mathlib.Core.Path.{◌≡◌, refl, sym, ◌∙◌}
use mathlib.Core.Logic.{◌⊎◌, inr}
use Prim.Native.Nat.{ℕ, zero, suc, zero-le}
use native.Mathlib.Omega.{arith}
use mathlib.Core.Bool.{true, false}
use mathlib.Core.List.Memᴰ
use mathlib.Core.List.{[]}
use borrow.Author.Tests.{not-false}
use Rattle.lists.specs.Lists.{filter, laid, padded}
use Rattle.lists.proofs.Writing.{length_padded, padded_again}
use Rattle.refusals.specs.Refusals.{granted}
use Rattle.head.specs.Heads.{fresh_head, settings_hold, torn_pair}
use Rattle.refusals.proofs.Numbers.{zero_passed}
use Rattle.model.specs.Rows.{filled, live_rows}
use Rattle.model.specs.Reference.{Reference, unopened, rows_of, head_of, is_open, opening, too_short, tells, reference_step}
use Rattle.model.specs.Book.{short_tables, short_loan, reply_of, open_answer, open_reply, open_tables, open_watches}
use Rattle.model.specs.Calls.{Open, Outputs, Lent, book_seen, head_after, world_after, book_step, lengths_of, shown, expected_step}
use Rattle.model.proofs.Tables.{Fit, filled_again, filled_long}
use Rattle.model.proofs.Records.{no_records}
use Rattle.model.proofs.Sound.{rows_none}
use Rattle.model.proofs.Simulation.{Invariant, Agree, reference_with, book_with, long_tables, long_records, shown_opened, shown_same}

module _ (d N directions : ℕ) (l : Lent) where
  -- the reference model, just opened
  abbrev fresh : Reference
  fresh = opening d N directions

  -- what is lent, once opened
  abbrev cleared : Lent
  cleared = record { tables = filled d N [] l.tables; watches = padded 8 [] l.watches }

  no_rows : rows_of fresh ≡ []
  unfolding opening
  no_rows = rows_none fresh refl

  head_fresh : head_of fresh ≡ fresh_head d N directions
  unfolding head_of opening live_rows filter
  head_fresh = rw no_rows

  nothing : Fit d []
  nothing r m = absurd (Memᴰ.not-nil m)

  module _ (holds : settings_hold d N directions ≡ true) (long : short_loan l.tables l.watches d N ≡ false) where
    shown_cleared : shown fresh l ≡ cleared
    unfolding opening is_open
    shown_cleared = shown_opened fresh l holds ∙ rw no_rows

    -- the invariant holds after an accepted opening
    invariant : Invariant fresh cleared
    unfolding opening is_open short_loan head_of torn_pair
    invariant = record {
      settings = holds;
      wide = λ p h k. absurd (omega arith);
      within = zero-le;
      long =
          rw (
            filled_long d N [] l.tables zero-le nothing (long_tables l.tables l.watches d N long) d N,
            length_padded 8 [] l.watches zero-le (long_records l.tables l.watches d N long),
          )
          long;
      tables = rw no_rows (filled_again d N [] l.tables zero-le nothing []);
      records = padded_again 8 [] [] l.watches zero-le;
      watches = no_records N;
      pair = refl;
    }

  module _ (o : Outputs) (s : Reference) (since : (s ≡ unopened) ⊎ Invariant s l) where
    -- the answer, in both models
    abbrev answer : ℕ
    answer = open_answer d N directions l.tables l.watches

    -- the opening is seen alike
    pub opens : Agree (Open d N directions) o (reference_with s l) (book_with s l)
    unfolding book_seen head_after world_after book_step expected_step reference_step tells lengths_of open_reply open_tables open_watches reply_of granted laid too_short short_loan short_tables open_answer
    opens = go answer refl
      where
        go : (a : ℕ) → answer ≡ a → Agree (Open d N directions) o (reference_with s l) (book_with s l)
        go zero e =
            let a = zero_passed _ _ _ e in
            let holds = not-false (settings_hold d N directions) a.0 in
            let long = (zero_passed _ _ _ a.1).0 in
            rw (e, shown_cleared holds long, head_fresh) (refl, record { head = sym head_fresh; lent = refl; since = inr (invariant holds long) })
        go (suc k) e = rw (e, shown_same s l since) (refl, record { head = refl; lent = refl; since = since })
