-- A quote and its preview are answered alike by both models.
use mathlib.Core.Path.{◌≡◌, refl, sym, ◌∙◌}
use mathlib.Core.Logic.{inr}
use Prim.Native.Nat.{ℕ, zero, suc, ◌≤◌, ◌<◌}
use native.Mathlib.Omega.{arith}
use native.Mathlib.Decide.{dec_le}
use mathlib.Core.Bool.{Bool, not}
use mathlib.Core.List.{List, [], ◌∷◌, ◌++◌}
use lib.Dec.{ltb, leb, eqb}
use lib.ListN.{length}
use borrow.Author.Tests.{leb-false, eqb-true, not-false}
use Rattle.lists.specs.Lists.{laid}
use Rattle.dominance.specs.Renewal.{quote_at}
use Rattle.refusals.specs.declared.Refusal.TheVariants.{Settings, ColumnCount, TapeFull, ShortOutput}
use Rattle.refusals.specs.Refusals.{number, first_of, granted}
use Rattle.head.specs.Heads.{last_position}
use Rattle.refusals.proofs.Numbers.{zero_passed}
use Rattle.model.specs.Rows.{filled}
use Rattle.model.specs.Changes.{change_room}
use Rattle.model.specs.Reference.{Reference, newest, rows_of, head_of, is_open, with_quote, tells, foretells, reference_step}
use Rattle.model.specs.Book.{short_loan, reply_of, quote_rows, quote_head, quote_bytes, quote_answer, quote_reply, quote_tables, quote_out, preview_reply, preview_counts, preview_out}
use Rattle.model.specs.Calls.{Quote, Preview, Outputs, Lent, book_seen, head_after, world_after, book_step, lengths_of, shown, expected_step}
use Rattle.model.proofs.Quotes.{newest_after, quote_within, quote_new, rows_after_quote, head_after_quote}
use Rattle.model.proofs.Written.{written, pair_kept, written_is}
use Rattle.model.proofs.Tables.{filled_again, filled_long}
use Rattle.model.proofs.Sound.{Wide, rows_bounded, rows_wide}
use Rattle.model.proofs.Simulation.{Invariant, Agree, reference_with, book_with, long_tables, simulation, some_capacity, shown_opened, shown_still, rows_read, watches_read, judged_watchful}

module _ (s : Reference) (l : Lent) (f : Invariant s l) (x : List ℕ) where
  -- the reference model with the quote
  abbrev pub s' : Reference
  s' = with_quote s x

  -- the quotes of d columns, and one more
  wide_after : length x ≡ s.dimensions → Wide s'
  unfolding with_quote
  wide_after e p h k = go (dec_le p (newest s))
    where
      some : 1 ≤ s.capacity
      some = some_capacity s l f

      go : Dec (p ≤ newest s) → length (quote_at (s.quotes ++ (x ∷ [])) p) ≡ s.dimensions
      go (yes u) = rw (quote_within s.quotes (x ∷ []) p h u) (f.wide p h u)
      go (no u) = let z : p ≡ suc (newest s) = omega (arith, newest_after s x some) in rw (z, quote_new s x some) e

  -- the book model's rows and head after the quote are the reference model's
  rows_are : quote_rows (head_of s) x l.tables l.watches ≡ rows_of s'
  unfolding quote_rows head_of
  rows_are = rw (rows_read s l f) (sym (rows_after_quote s x (some_capacity s l f)))

  pub head_is : newest s < last_position → quote_head (head_of s) x l.tables l.watches ≡ head_of s'
  unfolding quote_head quote_rows head_of
  head_is h = rw (rows_read s l f) (head_after_quote s x (some_capacity s l f) h)

  -- the book model writes the same
  pub bytes_are : newest s < last_position → quote_bytes (head_of s) x l.tables l.watches ≡ written s x
  unfolding quote_bytes
  bytes_are h = rw (head_is h, rows_are, rows_read s l f, watches_read s l f) (written_is s x f.watches f.pair)

  -- ---- what is left

  -- what is lent, with the book model's rows after the quote
  abbrev pub relent : Lent
  relent = record { tables = filled s.dimensions s.capacity (quote_rows (head_of s) x l.tables l.watches) l.tables; watches = l.watches }

  pub shown_after : shown s' l ≡ relent
  unfolding with_quote is_open
  shown_after = shown_opened s' l f.settings ∙ rw (f.records, rows_are)

  module _ (wide : length x ≡ s.dimensions) (room : newest s < last_position) where
    -- the invariant holds after an accepted quote
    pub invariant : Invariant s' relent
    unfolding with_quote is_open short_loan
    invariant =
        let bounded = rows_bounded s' (some_capacity s l f) in
        let fit = rows_wide s' (wide_after wide) in
        rw rows_are record {
          settings = f.settings;
          wide = wide_after wide;
          within = omega (arith, newest_after s x (some_capacity s l f));
          long = rw (filled_long s.dimensions s.capacity (rows_of s') l.tables bounded fit (long_tables l.tables l.watches s.dimensions s.capacity f.long) s.dimensions s.capacity) f.long;
          tables = filled_again s.dimensions s.capacity (rows_of s') l.tables bounded fit (rows_of s');
          records = f.records;
          watches = f.watches;
          pair = pair_kept s x f.pair;
        }

  -- ---- the call

  module _ (o : Outputs) where
    -- the refusals of a quote
    abbrev pub refusals : List (Bool × ℕ)
    refusals =
        (not (eqb (length x) s.dimensions), number ColumnCount) ∷ (leb last_position (newest s), number TapeFull)
        ∷ (ltb (length o.bytes) change_room, number ShortOutput) ∷ []

    -- the reference model's answer
    abbrev pub answer : ℕ
    answer = first_of ((not (is_open s), number Settings) ∷ refusals)

    -- the book model's answer is the same
    pub answers : quote_answer (head_of s) x l.tables l.watches (length o.bytes) ≡ answer
    unfolding quote_answer head_of
    answers = judged_watchful s l f refusals refusals refl

    -- the quote is seen alike
    pub quotes : Agree (Quote x) o (reference_with s l) (book_with s l)
    unfolding book_seen head_after world_after book_step expected_step reference_step tells lengths_of quote_reply quote_tables quote_out reply_of granted laid head_of
    quotes = go answer refl
      where
        go : (a : ℕ) → answer ≡ a → Agree (Quote x) o (reference_with s l) (book_with s l)
        go zero e =
            let a = zero_passed _ _ _ (zero_passed _ _ _ e).1 in
            let wide = eqb-true (length x) s.dimensions (not-false (eqb (length x) s.dimensions) a.0) in
            let room = leb-false last_position (newest s) (zero_passed _ _ _ a.1).0 in
            rw (answers, e, bytes_are room, head_is room, shown_after) (refl, record { head = refl; lent = refl; since = inr (invariant wide room) })
        go (suc k) e = rw (answers, e, shown_still s l f) (refl, simulation s l f)

    -- so is its preview, which leaves both models as they are
    pub previews : Agree (Preview x) o (reference_with s l) (book_with s l)
    unfolding book_seen head_after world_after book_step expected_step reference_step tells foretells lengths_of
        preview_reply preview_counts preview_out quote_reply quote_out reply_of granted laid
    previews = go answer refl
      where
        go : (a : ℕ) → answer ≡ a → Agree (Preview x) o (reference_with s l) (book_with s l)
        go zero e =
            let room = leb-false last_position (newest s) (zero_passed _ _ _ (zero_passed _ _ _ (zero_passed _ _ _ e).1).1).0 in
            rw (answers, e, bytes_are room, head_is room, shown_still s l f) (refl, simulation s l f)
        go (suc k) e = rw (answers, e, shown_still s l f) (refl, simulation s l f)
