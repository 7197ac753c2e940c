-- With ample lengths no call of a tape is refused with 11 or 13, and the print does not depend on the lengths.
use mathlib.Core.Path.{◌≡◌, refl, sym, ap, ◌∙◌}
use Prim.Native.Nat.{ℕ, zero, suc, ◌+◌, ◌-◌, ◌*◌, ◌≤◌}
use native.Mathlib.Nat.{mul-le-mul_right}
use native.Mathlib.Omega.{arith}
use mathlib.Core.Bool.{Bool, true, false, not, cond}
use mathlib.Core.List.{List, [], ◌∷◌, ◌++◌}
use lib.Dec.{ltb, leb, eqb}
use lib.ListN.{length}
use borrow.Author.Tests.{le-ltb, eq-eqb, not-false}
use Rattle.lists.specs.Lists.{any, contains}
use Rattle.lists.proofs.Booleans.{clash, none_left, none_right}
use Rattle.head.specs.declared.Desk.{Desk}
use Rattle.head.specs.Desks.{watch_of}
use Rattle.refusals.specs.declared.Refusal.TheVariants.{Settings, ColumnCount, WindowSize, TapeFull, AlreadyWatched, NoFreeRecord, ShortLoan, ShortOutput, WindowOrder}
use Rattle.refusals.specs.Refusals.{number, first_of}
use Rattle.head.specs.Heads.{settings_hold, last_position}
use Rattle.refusals.proofs.Numbers.{first_of_alike, first_of_fails}
use Rattle.head.proofs.Settings.{settings_within}
use Rattle.frames.specs.Frames.{read_at}
use Rattle.model.specs.Changes.{change_room}
use Rattle.model.specs.Shares.{desk_full}
use Rattle.model.specs.Reference.{Reference, Lengths, unopened, newest, skyline_of, past_of, paired, is_open, outside, outside_past, outside_pair, too_short, tells, reference_step}
use Rattle.model.specs.Calls.{Call, Open, Quote, Look, Watch, End, Past, Pair, Unpair, Due, Preview, Both, Outputs, Lent, lengths_of, world_first}
use Rattle.model.proofs.Simulation.{in_range, in_past_range}
use Rattle.model.proofs.Short.{skyline_short, past_short}
use Rattle.tape_asking.specs.Asking.{Asked, finished, unread, misplaced, request, asked, playable}
use Rattle.tape_asking.proofs.Places.{asks_playable, asked_playable}
use Rattle.tape_model.specs.Play.{play_asked, play_at, print_from, print, reference_make, book_make, begun}
use Rattle.tape_model.specs.Ample.{Ample, Unshort}
use Rattle.tape_model.proofs.Agrees.{print_agrees}

-- ---- an opening

-- settings that hold find ample lengths long enough
roomy : (lengths : Lengths) (d N directions : ℕ) → Ample lengths → settings_hold d N directions ≡ true → too_short lengths d N ≡ false
unfolding too_short
roomy lengths d N directions a e =
    let w = settings_within d N directions e in
    let bounded = w.bounded_columns in
    let small = w.small_capacity in
    rw (
      le-ltb lengths.columns (N * d) (omega (arith, a.columns, mul-le-mul_right d small)),
      le-ltb lengths.positions N (omega (arith, a.positions)),
      le-ltb lengths.lower_ends N (omega (arith, a.lower_ends)),
      le-ltb lengths.upper_ends N (omega (arith, a.upper_ends)),
      le-ltb lengths.watches 8 a.watches,
    )

-- ---- the two looks

-- the list of an n in range fits into 1,024 cells
list_short : (s : Reference) (n : ℕ) → is_open s ≡ true → outside s n ≡ false → length (skyline_of s n) ≤ 1024
unfolding is_open
list_short s n o e =
    let r = in_range s n e in
    let some = r.0 in
    let most = r.1 in
    let small = (settings_within s.dimensions s.capacity s.directions o).small_capacity in
    omega (arith, skyline_short s n some)

-- and so does the past list of n1 and n2 in range
past_list_short : (s : Reference) (n1 n2 : ℕ) → is_open s ≡ true → 1 ≤ n1 → n1 ≤ n2 → n2 ≤ s.capacity → length (past_of s n1 n2) ≤ 1024
unfolding is_open
past_list_short s n1 n2 o some order most =
    let small = (settings_within s.dimensions s.capacity s.directions o).small_capacity in
    omega (arith, past_short s n1 n2 some order)

-- ---- the answers with ample lengths

module _ (lengths : Lengths) (a : Ample lengths) (s : Reference) where
  -- an opening is judged by its settings alone
  open_plain : (d N directions : ℕ) → (reference_step (Open d N directions) lengths s).number ≡ first_of ((not (settings_hold d N directions), number Settings) ∷ [])
  unfolding reference_step tells
  open_plain d N directions =
      first_of_alike (not (settings_hold d N directions)) (number Settings) _ []
      (λ e. first_of_fails (too_short lengths d N) (number ShortLoan) [] (roomy lengths d N directions a (not-false (settings_hold d N directions) e)))

  -- a look by its n alone
  look_plain : (n : ℕ) → (reference_step (Look n) lengths s).number ≡ first_of ((not (is_open s), number Settings) ∷ (outside s n, number WindowSize) ∷ [])
  unfolding reference_step tells
  look_plain n =
      first_of_alike (not (is_open s)) (number Settings) _ _
      (λ o. first_of_alike (outside s n) (number WindowSize) _ [] (λ e. first_of_fails (ltb lengths.cells (length (skyline_of s n))) (number ShortOutput) [] (le-ltb lengths.cells (length (skyline_of s n)) (omega (arith, a.cells, list_short s n (not-false (is_open s) o) e)))))

  -- a past look by its n1 and n2 alone
  past_plain : (n1 n2 : ℕ)
      → (reference_step (Past n1 n2) lengths s).number
      ≡ first_of ((not (is_open s), number Settings) ∷ (outside_past s n1 n2, number WindowSize) ∷ (ltb n2 n1, number WindowOrder) ∷ [])
  unfolding reference_step tells
  past_plain n1 n2 =
      first_of_alike (not (is_open s)) (number Settings) _ _
      (λ o. first_of_alike (outside_past s n1 n2) (number WindowSize) _ _
      (λ e. first_of_alike (ltb n2 n1) (number WindowOrder) _ []
      (λ f.
      let r = in_past_range s n1 n2 e f in
      first_of_fails (ltb lengths.cells (length (past_of s n1 n2))) (number ShortOutput) []
      (le-ltb lengths.cells (length (past_of s n1 n2)) (omega (arith, a.cells, past_list_short s n1 n2 (not-false (is_open s) o) r.0 r.1 r.2))))))

  -- a watch by its desk, its n and the watches
  watch_plain : (desk : Desk) (n : ℕ)
      → (reference_step (Watch desk n) lengths s).number
      ≡ first_of ((not (is_open s), number Settings) ∷ (outside s n, number WindowSize) ∷ (contains (watch_of desk n) s.watched, number AlreadyWatched) ∷ (desk_full desk s.watched, number NoFreeRecord) ∷ [])
  unfolding reference_step tells first_of
  watch_plain desk n = rw (le-ltb lengths.bytes change_room a.bytes)

  -- a pair by its n1 and n2 and whether one stands
  pair_plain : (n1 n2 : ℕ)
      → (reference_step (Pair n1 n2) lengths s).number
      ≡ first_of ((not (is_open s), number Settings) ∷ (outside_pair s n1 n2, number WindowSize) ∷ (ltb n2 n1, number WindowOrder) ∷ (paired s, number NoFreeRecord) ∷ [])
  unfolding reference_step tells first_of
  pair_plain n1 n2 = rw (le-ltb lengths.bytes change_room a.bytes)

  -- a quote by its columns and the newest position
  quote_plain : (x : List ℕ)
      → (reference_step (Quote x) lengths s).number
      ≡ first_of ((not (is_open s), number Settings) ∷ (not (eqb (length x) s.dimensions), number ColumnCount) ∷ (leb last_position (newest s), number TapeFull) ∷ [])
  unfolding reference_step tells first_of
  quote_plain x = rw (le-ltb lengths.bytes change_room a.bytes)

-- ---- never 11, never 13

-- the number is among those of a list
abbrev named : ℕ → List (Bool × ℕ) → Bool
named k cs = any (λ c. eqb c.1 k) cs

-- a number that is not in the list is not the answer
unnamed : (cs : List (Bool × ℕ)) (k : ℕ) → 1 ≤ k → named k cs ≡ false → first_of cs ≡ k → ⊥
unfolding first_of any
unnamed [] k some n e = absurd (omega arith)
unnamed (c ∷ cs) k some n e = go c.0 e (unnamed cs k some (none_right (eqb c.1 k) (named k cs) n))
  where
    go : (b : Bool) → first_of ((b, c.1) ∷ cs) ≡ k → (first_of cs ≡ k → ⊥) → ⊥
    go true f rest = clash (eqb c.1 k) (eq-eqb c.1 k f) (none_left (eqb c.1 k) (named k cs) n)
    go false f rest = rest f

-- an answer by conditions of which none gives 11 or 13 is neither
plainly : (cs : List (Bool × ℕ)) {answer : ℕ} → answer ≡ first_of cs → named (number ShortLoan) cs ≡ false → named (number ShortOutput) cs ≡ false → Unshort answer
plainly cs e u v = (λ f. unnamed cs (number ShortLoan) (omega arith) u (sym e ∙ f), λ f. unnamed cs (number ShortOutput) (omega arith) v (sym e ∙ f))

module _ (lengths : Lengths) (a : Ample lengths) where
  -- no call that a frame asks for is answered with 11 or 13, wherever a tape has come to
  pub never_short : (c : Call) → playable c ≡ true → (s : Reference) → Unshort (reference_make lengths c s).0.outcome.number
  unfolding reference_make reference_step tells any playable
  never_short (Open d N directions) p s = plainly _ (open_plain lengths a s d N directions) refl refl
  never_short (Quote x) p s = plainly _ (quote_plain lengths a s x) refl refl
  never_short (Look n) p s = plainly _ (look_plain lengths a s n) refl refl
  never_short (Watch desk n) p s = plainly _ (watch_plain lengths a s desk n) refl refl
  never_short (End desk n) p s = plainly _ refl refl refl
  never_short (Past n1 n2) p s = plainly _ (past_plain lengths a s n1 n2) refl refl
  never_short (Pair n1 n2) p s = plainly _ (pair_plain lengths a s n1 n2) refl refl
  never_short Unpair p s = plainly _ refl refl refl
  never_short Due p s = absurd (clash false p refl)
  never_short (Preview x) p s = absurd (clash false p refl)
  never_short (Both x n) p s = absurd (clash false p refl)

-- ---- the print does not depend on ample lengths

module _ (lengths lengths' : Lengths) (a : Ample lengths) (a' : Ample lengths') where
  -- a call that a frame asks for is answered alike with other ample lengths
  made_same : (c : Call) → playable c ≡ true → (s : Reference) → reference_make lengths c s ≡ reference_make lengths' c s
  unfolding reference_make reference_step tells playable
  made_same (Open d N directions) p s = rw (open_plain lengths a s d N directions, open_plain lengths' a' s d N directions)
  made_same (Quote x) p s = rw (quote_plain lengths a s x, quote_plain lengths' a' s x)
  made_same (Look n) p s = rw (look_plain lengths a s n, look_plain lengths' a' s n)
  made_same (Watch desk n) p s = rw (watch_plain lengths a s desk n, watch_plain lengths' a' s desk n)
  made_same (End desk n) p s = refl
  made_same (Past n1 n2) p s = rw (past_plain lengths a s n1 n2, past_plain lengths' a' s n1 n2)
  made_same (Pair n1 n2) p s = rw (pair_plain lengths a s n1 n2, pair_plain lengths' a' s n1 n2)
  made_same Unpair p s = refl
  made_same Due p s = absurd (clash false p refl)
  made_same (Preview x) p s = absurd (clash false p refl)
  made_same (Both x n) p s = absurd (clash false p refl)

  -- what is asked at a place is played alike
  asked_same : (q : Asked) → asks_playable q ≡ true → (next : ℕ) (s : Reference) → play_asked is_open (reference_make lengths) q next s ≡ play_asked is_open (reference_make lengths') q next s
  unfolding play_asked asks_playable
  asked_same finished p next s = refl
  asked_same (unread e) p next s = refl
  asked_same misplaced p next s = refl
  asked_same (request c) p next s = rw (made_same c p s)

  -- and so is any number of frames
  frames_same : (frames : ℕ) (tape : List ℕ) (place : ℕ) (s : Reference)
      → print_from is_open (reference_make lengths) frames tape place s ≡ print_from is_open (reference_make lengths') frames tape place s
  unfolding print_from play_at
  frames_same zero tape place s = refl
  frames_same (suc frames) tape place s =
      let one = play_at is_open (reference_make lengths) tape place s in
      let read = read_at tape place in
      let rest = frames_same frames tape one.next one.state in
      rw (← (asked_same (asked (is_open s) read.says read.columns) (asked_playable (is_open s) tape place read.columns) read.next s)) (ap (λ (l : List ℕ). one.text ++ cond one.over [] l) rest)

-- the print by the reference model is the same for all ample lengths
pub ample_alike : (lengths lengths' : Lengths) → Ample lengths → Ample lengths' → (tape : List ℕ)
    → print is_open (reference_make lengths) tape unopened ≡ print is_open (reference_make lengths') tape unopened
unfolding print
ample_alike lengths lengths' a a' tape = frames_same lengths lengths' a a' (suc (length tape)) tape 0 unopened

-- so a book that is lent ample lengths prints of every tape what the reference model prints with any ample lengths
pub ample_agrees : (tape : List ℕ) (l : Lent) (o : Outputs) (lengths : Lengths) → Ample (lengths_of l o) → Ample lengths
    → print begun book_make tape (record { world = world_first l; outputs = o }) ≡ print is_open (reference_make lengths) tape unopened
ample_agrees tape l o lengths a a' = print_agrees tape l o ∙ ample_alike (lengths_of l o) lengths a a' tape
