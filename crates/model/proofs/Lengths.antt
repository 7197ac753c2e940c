-- What is lent keeps its lengths over the calls of the reference model, and stays as it shows.
use mathlib.Core.Path.{◌≡◌, refl}
use mathlib.Core.Logic.{◌⊎◌, inl, inr}
use Prim.Native.Nat.{ℕ, zero, suc, ◌*◌, ◌≤◌}
use native.Mathlib.Nat.{mul-le-mul_right}
use mathlib.Core.Bool.{true, false, ◌||◌}
use mathlib.Core.List.{List, map}
use lib.Dec.{ltb}
use lib.ListN.{length, length-map}
use borrow.Author.Tests.{ltb-false}
use Rattle.lists.specs.Lists.{flat}
use Rattle.lists.proofs.Booleans.{clash, none_left, none_right}
use Rattle.lists.proofs.Writing.{length_padded}
use Rattle.refusals.specs.Refusals.{granted}
use Rattle.head.specs.Heads.{settings_hold}
use Rattle.refusals.proofs.Numbers.{zero_passed}
use Rattle.model.specs.Rows.{Row, Tables, filled}
use Rattle.model.specs.Reference.{Reference, unopened, rows_of, is_open, with_quote, with_watched, with_pair_of, opening, too_short, tells, foretells, tells_both, reference_step}
use Rattle.model.specs.Book.{short_tables, short_loan}
use Rattle.model.specs.Calls.{Call, Open, Quote, Look, Watch, End, Past, Pair, Unpair, Due, Preview, Both, Outputs, Lent, lengths_of, shown, Expected, expected_step}
use Rattle.model.proofs.Tables.{cells_counted}
use Rattle.model.proofs.Records.{eight_records_lem}
use Rattle.model.proofs.Sound.{rows_bounded, rows_wide}
use Rattle.model.proofs.Simulation.{Invariant, book_with, long_tables, long_records, some_capacity, shown_opened}
use Rattle.model.proofs.Replay.{call_agrees}

-- what holds where a call is accepted, and where it is refused, holds of what is granted
pub either_way : {A : Type 0} (P : A → Type 0) (a : ℕ) (x y : A) → (a ≡ 0 → P x) → P y → P (granted a x y)
unfolding granted
either_way P zero x y f g = f refl
either_way P (suc k) x y f g = g

-- what is lent is long enough for the settings that were taken
abbrev pub Long : Lent → Reference → Type 0
Long l s = is_open s ≡ true → short_loan l.tables l.watches s.dimensions s.capacity ≡ false

-- it still is after a call: only an accepted opening takes settings, and it is refused where something is too short
pub long_after : (l : Lent) (o : Outputs) (c : Call) (s : Reference) → Long l s → Long l (reference_step c (lengths_of l o) s).next
unfolding reference_step tells foretells tells_both lengths_of opening is_open with_quote with_watched with_pair_of too_short short_loan short_tables
long_after l o (Open d N directions) s h =
    either_way (Long l) _ (opening d N directions) s (λ e _. (zero_passed _ _ _ (zero_passed _ _ _ e).1).0) h
long_after l o (Quote x) s h = either_way (Long l) _ (with_quote s x) s (λ _. h) h
long_after l o (Look n) s h = either_way (Long l) _ s s (λ _. h) h
long_after l o (Watch desk n) s h = either_way (Long l) _ (with_watched s _) s (λ _. h) h
long_after l o (End desk n) s h = either_way (Long l) _ (with_watched s _) s (λ _. h) h
long_after l o (Past n1 n2) s h = either_way (Long l) _ s s (λ _. h) h
long_after l o (Pair n1 n2) s h = either_way (Long l) _ (with_pair_of s n1 n2) s (λ _. h) h
long_after l o Unpair s h = either_way (Long l) _ (with_pair_of s 0 0) s (λ _. h) h
long_after l o Due s h = either_way (Long l) _ s s (λ _. h) h
long_after l o (Preview x) s h = h
long_after l o (Both x n) s h = either_way (Long l) _ _ s (λ _. either_way (Long l) _ (with_quote s x) s (λ _. h) h) h

module _ (s : Reference) (l kept : Lent) (o : Outputs) (f : Invariant s kept) (enough : short_loan l.tables l.watches s.dimensions s.capacity ≡ false) where
  -- the rows are at most N
  bounded : length (rows_of s) ≤ s.capacity
  bounded = rows_bounded s (some_capacity s kept f)

  -- tables that are long enough keep their lengths when they are filled with the rows of a reference model
  filled_lengths : lengths_of (shown s l) o ≡ lengths_of l o
  unfolding filled short_tables lengths_of
  filled_lengths =
      let long = long_tables t l.watches d N enough in
      let one = ltb (length t.columns) (N * d) in
      let two = ltb (length t.positions) N in
      let three = ltb (length t.lower_ends) N in
      let four = ltb (length t.upper_ends) N in
      let first_three = none_left ((one || two) || three) four long in
      let first_two = none_left (one || two) three first_three in
      rw (
        shown_opened s l f.settings,
        length_padded (N * d) (flat (map Row.columns rs)) t.columns (rw (cells_counted d rs (rows_wide s f.wide)) (mul-le-mul_right d bounded))
            (ltb-false (length t.columns) (N * d) (none_left one two first_two)),
        length_padded N (map Row.position rs) t.positions (rw length-map bounded) (ltb-false (length t.positions) N (none_right one two first_two)),
        length_padded N (map Row.lower_end rs) t.lower_ends (rw length-map bounded) (ltb-false (length t.lower_ends) N (none_right (one || two) three first_three)),
        length_padded N (map Row.upper_end rs) t.upper_ends (rw length-map bounded) (ltb-false (length t.upper_ends) N (none_right ((one || two) || three) four long)),
        length_padded 8 s.watched l.watches (eight_records_lem f.watches) (long_records t l.watches d N enough),
      )
    where
      t : Tables
      t = l.tables

      d : ℕ
      d = s.dimensions

      N : ℕ
      N = s.capacity

      rs : List Row
      rs = rows_of s

-- what is lent keeps its lengths when a reference model is shown in it
pub lengths_kept : (s : Reference) (l kept : Lent) (o : Outputs) → Long l s → (s ≡ unopened) ⊎ Invariant s kept → lengths_of (shown s l) o ≡ lengths_of l o
unfolding shown is_open settings_hold
lengths_kept s l kept o h (inl e) = rw e
lengths_kept s l kept o h (inr f) = filled_lengths s l kept o f (h f.settings)

-- no opening was accepted, or what is lent keeps the invariant
abbrev pub Since : Expected → Type 0
Since k = (k.reference ≡ unopened) ⊎ Invariant k.reference k.lent

-- what is lent is long enough between two calls
pub since_long : (s : Reference) (l : Lent) → (s ≡ unopened) ⊎ Invariant s l → Long l s
unfolding is_open settings_hold
since_long s l (inl e) t = absurd (clash (is_open s) t (rw e))
since_long s l (inr f) t = f.long

-- so it stays over a call
pub since_step : (c : Call) (o : Outputs) (k : Expected) → Since k → Since (expected_step c o k).1
since_step c o k f = (call_agrees c o k (book_with k.reference k.lent) (record { head = refl; lent = refl; since = f })).1.since

-- and what is lent keeps its lengths
pub lengths_step : (c : Call) (o more : Outputs) (k : Expected) → Since k → lengths_of (expected_step c o k).1.lent more ≡ lengths_of k.lent more
unfolding expected_step
lengths_step c o more k f =
    let l = k.lent in
    let next = (reference_step c (lengths_of l o) k.reference).next in
    lengths_kept next l (shown next l) more (long_after l o c k.reference (since_long k.reference l f)) (since_step c o k f)
