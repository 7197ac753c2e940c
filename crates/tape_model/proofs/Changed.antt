-- What a quote, a watch and a pair print by the reference model: the lines of the changes themselves.
use mathlib.Core.Path.{◌≡◌}
use Prim.Native.Nat.{ℕ, ◌<◌}
use native.Mathlib.Omega.{arith}
use mathlib.Core.Bool.{false}
use mathlib.Core.List.{List, [], ◌∷◌, ◌++◌, map}
use lib.Dec.{ltb}
use lib.ListN.{length, take}
use lib.Seq.{take_all}
use native.Mathlib.Nat.{le_refl}
use borrow.Author.Tests.{leb-false}
use Rattle.head.specs.declared.Desk.{Desk}
use Rattle.head.specs.Desks.{watch_of}
use Rattle.refusals.specs.Refusals.{granted}
use Rattle.head.specs.Heads.{last_position}
use Rattle.refusals.proofs.Numbers.{zero_passed}
use Rattle.frames.specs.declared.Message.{Message}
use Rattle.model.specs.Changes.{join, pair_join, all_changes, pair_changes, frames}
use Rattle.model.specs.Rows.{live_rows}
use Rattle.model.specs.Reference.{Reference, Lengths, unopened, newest, skyline_of, past_of, pair_of, rows_of, head_of, is_open, outside, outside_pair, with_quote, tells, reference_step}
use Rattle.model.specs.Calls.{Call}
use Rattle.model.proofs.Simulation.{Bounded, bounded, in_pair_range}
use Rattle.model_watcher.proofs.Following.{sent_watch, sent_pairing, sent_quote}
use Rattle.text.specs.Text.{line}
use Rattle.line_changes.specs.Printed.{change_lines, changes_text}
use Rattle.line_changes.proofs.Printing.{changes_printed}
use Rattle.tape_model.specs.Print.{desk_line, lines_of, text_of}
use Rattle.tape_model.specs.Play.{reference_make}
use Rattle.tape_model.specs.Ample.{Reaches}
use Rattle.tape_model.proofs.Agrees.{reached_alike}

-- all that was written
written_all : {l : List ℕ} → take (length l) l ≡ l
written_all {l} = take_all (length l) l (le_refl (length l))

-- the changes of a quote: those of the watches and, behind them, those of the pair
abbrev pub quote_changes : Reference → List ℕ → List Message
quote_changes s x = let next = with_quote s x in all_changes s.watched (skyline_of s) (skyline_of next) ++ pair_changes (pair_of s) (pair_of next)

module _ (s : Reference) (ok : Bounded s) where
  -- those of a quote that the tape has room for
  pub quote_printed : (x : List ℕ) → newest s < last_position
      → let ms = quote_changes s x in changes_text (frames ms) ≡ change_lines ms
  quote_printed x room = changes_printed (quote_changes s x) (sent_quote s ok x room)

  -- those of a desk's watch of an n in range
  pub watch_printed : (desk : Desk) (n : ℕ) → outside s n ≡ false → let ms = map (join (watch_of desk n)) (skyline_of s n) in changes_text (frames ms) ≡ change_lines ms
  watch_printed desk n e = changes_printed (map (join (watch_of desk n)) (skyline_of s n)) (sent_watch s ok desk n e)

  -- those of a pair in range
  pub pair_printed : (n1 n2 : ℕ) → outside_pair s n1 n2 ≡ false → ltb n2 n1 ≡ false
      → let ms = map pair_join (past_of s n1 n2) in changes_text (frames ms) ≡ change_lines ms
  pair_printed n1 n2 e f =
      let two = (in_pair_range s n1 n2 e f).two in
      changes_printed (map pair_join (past_of s n1 n2)) (sent_pairing s ok n1 n2 (omega arith))

-- ---- wherever a tape comes to

module _ (lengths : Lengths) (tape : List ℕ) (place : ℕ) (s : Reference) (h : Reaches is_open (reference_make lengths) tape unopened place s) where
  -- the reference model is bounded there
  reached_bounded : Bounded s
  reached_bounded = let t = reached_alike lengths tape h in bounded s t.0.world.lent t.1.simulation.since

  -- an accepted quote prints its position, the number of live rows and the lines of its changes, those of the pair behind the watches'
  pub quote_text : (x : List ℕ) → (reference_make lengths (Call.Quote x) s).0.outcome.number ≡ 0
      → let next = with_quote s x in
      text_of (Call.Quote x) (reference_make lengths (Call.Quote x) s).0
      ≡ line 81 (newest next ∷ length (live_rows (rows_of next)) ∷ []) ++ change_lines (quote_changes s x)
  unfolding reference_make reference_step tells text_of lines_of granted head_of
  quote_text x e =
      let full = (zero_passed _ _ _ (zero_passed _ _ _ (zero_passed _ _ _ e).1).1).0 in
      rw (e, written_all, quote_printed s reached_bounded x (leb-false last_position (newest s) full))

  -- an accepted watch prints its n and the lines of its joins, as its desk's
  pub watch_text : (desk : Desk) (n : ℕ) → (reference_make lengths (Call.Watch desk n) s).0.outcome.number ≡ 0
      → text_of (Call.Watch desk n) (reference_make lengths (Call.Watch desk n) s).0 ≡ desk_line desk 87 (n ∷ []) ++ change_lines (map (join (watch_of desk n)) (skyline_of s n))
  unfolding reference_make reference_step tells text_of lines_of granted
  watch_text desk n e = rw (e, written_all, watch_printed s reached_bounded desk n (zero_passed _ _ _ (zero_passed _ _ _ e).1).0)

  -- an accepted pair prints its n1 and n2 and the lines of its joins
  pub pair_text_lem : (n1 n2 : ℕ) → (reference_make lengths (Call.Pair n1 n2) s).0.outcome.number ≡ 0
      → text_of (Call.Pair n1 n2) (reference_make lengths (Call.Pair n1 n2) s).0 ≡ line 66 (n1 ∷ n2 ∷ []) ++ change_lines (map pair_join (past_of s n1 n2))
  unfolding reference_make reference_step tells text_of lines_of granted
  pair_text_lem n1 n2 e =
      let a = zero_passed _ _ _ (zero_passed _ _ _ e).1 in
      rw (e, written_all, pair_printed s reached_bounded n1 n2 a.0 (zero_passed _ _ _ a.1).0)
