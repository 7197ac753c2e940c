-- The audit says yes exactly if some tape leaves the book.
use mathlib.Core.Path.{◌≡◌, refl, sym, ap, ◌∙◌}
use mathlib.Core.Logic.{◌↔◌}
use Prim.Native.Nat.{ℕ, ◌-◌, ◌≤◌}
use native.Mathlib.Omega.{arith}
use mathlib.Core.Bool.{true, false}
use mathlib.Core.List.{List}
use lib.ListN.{length, length-map}
use Rattle.lists.specs.Lists.{any}
use Rattle.dominance.specs.Renewal.{quote_at}
use Rattle.skyline.specs.Skyline.{window_start}
use Rattle.head.specs.declared.Head.{Head}
use Rattle.head.specs.Replies.{Finding, yes}
use Rattle.head.specs.Heads.{settings_hold, last_position}
use Rattle.head.proofs.Settings.{settings_within}
use Rattle.model.specs.Rows.{Row, Tables, rows_in, filled}
use Rattle.model.specs.Reference.{Reference, newest, head_of, row_of, rows_of}
use Rattle.model.specs.Book.{book_rows}
use Rattle.model_audit.specs.Audit.{Small, wrong_end, audit_finding, Tape, Audited}
use Rattle.model.proofs.Tables.{length_read, read_fit, rows_filled}
use Rattle.model.proofs.Sound.{Wide, positions_are, row_held, rows_wide, rows_bounded, rows_whole}
use Rattle.model_audit.proofs.Plays.{holding, opening_plays, opening_took, opening_accepted, accepted_settings, opening_next}
use Rattle.model_audit.proofs.AuditTables.{read_small, clean_filled, filled_clean}
use Rattle.model_audit.proofs.Rules.{Passed, yes_iff_passed}
use Rattle.model_audit.proofs.RightEnds.{are_ends}
use Rattle.model.proofs.Torn.{Whole, window_bounded, untorn_whole, whole_untorn}
use Rattle.model_audit.proofs.RulesToTape.{tape_of, length_tape, tape_wide, tape_small, tape_rows}

-- the rows of a reference model have the ends that the audit asks
own_ends : (s : Reference) → any (wrong_end s.dimensions s.directions (rows_of s)) (rows_of s) ≡ false
unfolding row_of window_start
own_ends s =
    are_ends s.dimensions s.directions (window_start (newest s) s.capacity) (newest s) s.quotes (rows_of s) (omega arith) (positions_are s)
    (λ r m. rw (row_held s r m).4) (λ r m. rw (row_held s r m).4 (refl, refl))

module _ (h : Head) (t : Tables) (hold : settings_hold h.dimensions h.capacity h.directions ≡ true) where
  -- the columns of a quote
  abbrev d : ℕ
  d = h.dimensions

  -- the capacity
  abbrev N : ℕ
  N = h.capacity

  some : 1 ≤ N
  some = (settings_within d N h.directions hold).some_capacity

  -- the reference model with these quotes, and the head's settings
  abbrev with : List (List ℕ) → Reference
  with qs = holding d N h.directions qs

  -- what it leaves in the tables passes, with its newest position and counts in the head
  pub left_passes : (qs : List (List ℕ)) → newest (with qs) ≡ h.newest → (head_of (with qs)).live ≡ h.live → (head_of (with qs)).held ≡ h.held → newest (with qs) ≤ last_position → Wide (with qs)
      → filled d N (rows_of (with qs)) t ≡ t → Passed h t
  unfolding head_of book_rows
  left_passes qs n lives helds room wide left =
      let s = with qs in
      let fit = rows_wide s wide in
      let w = rows_whole s some room in
      let read : book_rows h t ≡ rows_of s = ap (λ (k : ℕ). rows_in d k t) (sym helds) ∙ rw left at (rows_filled d N (rows_of s) t (rows_bounded s some) fit) in
      let whole : Whole h (rows_of s) = record {
        low_newest = rw n at room;
        window = rw n at (positions_are s);
        lower_ends_lem = w.lower_ends_lem;
        upper_ends_lem = rw n at w.upper_ends_lem;
        live_count = sym lives;
      } in
      record {
        untorn = rw read (whole_untorn h (rows_of s) (sym helds) some whole);
        ends_right = rw read (own_ends s);
        clean = rw helds at (filled_clean d N (rows_of s) t fit left);
      }

  -- what a tape leaves passes
  tape_passes : Tape h t → Passed h t
  unfolding quote_at head_of
  tape_passes T =
      let qs = T.quotes in
      let took = opening_took d N h.directions hold qs (rw (opening_next h hold) at T.newest ∙ sym T.count) in
      let plays = opening_plays d N h.directions hold qs took.0 took.1 in
      left_passes qs (rw (opening_next h hold, plays) at T.newest) (rw (opening_next h hold, plays) at T.live) (rw (opening_next h hold, plays) at T.held) took.1
      (λ p u v. took.0 (p - 1) (omega arith)) (rw (opening_next h hold, plays) at T.tables)

  -- a book that passes is left by a tape
  passes_tape : Small t.columns → Passed h t → Tape h t
  unfolding head_of book_rows
  passes_tape small P =
      let w = untorn_whole h rs (sym rows_counted) some P.untorn in
      let bounded : h.held ≤ N = omega (arith, rows_counted, length-map rs Row.position, ap length w.window, window_bounded N some M) in
      let rows-small = read_small d h.held t small in
      let left = tape_rows d h.directions N M rs w.window P.ends_right in
      let fit = read_fit d N h.held t bounded P.clean.columns_room in
      let plays = opening_plays d N h.directions hold qs (tape_wide d M rs fit) (rw counted w.low_newest) in
      record {
        quotes = qs;
        values = tape_small d M rs rows-small;
        accepted = opening_accepted h hold;
        count = counted;
        newest = rw (opening_next h hold, plays) counted;
        live = rw (opening_next h hold, plays, left) (sym w.live_count);
        held = rw (opening_next h hold, plays, left) rows_counted;
        tables = rw (opening_next h hold, plays, left) (clean_filled d N h.held t bounded P.clean);
      }
    where
      rs : List Row
      rs = book_rows h t

      M : ℕ
      M = h.newest

      qs : List (List ℕ)
      qs = tape_of d M rs

      counted : length qs ≡ M
      counted = length_tape d M rs

      rows_counted : length rs ≡ h.held
      rows_counted = length_read d h.held t

-- with cells of 32 bits, the audit says yes exactly if some tape of an accepted opening and accepted quotes leaves this newest position, these
-- counts and these tables
pub audit_iff_tape : (h : Head) (t : Tables) → Small t.columns → (audit_finding h t ≡ yes) ↔ Tape h t
audit_iff_tape h t small =
    let y = yes_iff_passed h t in (
      λ e. let p = y.0 e in passes_tape h t p.0 small p.1,
      λ T. let hold = accepted_settings h T.accepted in y.1 (hold, tape_passes h t hold T),
    )

-- so does every audit that finds what the rules say
pub audited : (h : Head) (t : Tables) → Small t.columns → (finding : Finding) → finding ≡ audit_finding h t → Audited h t finding
audited h t small finding e = record { found = e; tape = rw e (audit_iff_tape h t small) }
