-- For a day of at most N quotes the sheet is the list of N of a book with these settings that is fed this day alone.
use mathlib.Core.Path.{◌≡◌, refl, sym, ap, ◌∙◌}
use Prim.Native.Nat.{ℕ, zero, suc, ◌+◌, ◌-◌, ◌*◌, ◌/◌, ◌^◌, ◌≤◌, ◌<◌, max}
use native.Mathlib.Nat.{zero-add, suc-mul, mul_comm, mul-le-mul_right}
use native.Mathlib.Omega.{arith}
use mathlib.Core.Bool.{Bool, true, false, ◌&&◌, not}
use mathlib.Core.List.{List, [], ◌∷◌, ◌++◌, map, append-nil, append_assoc, Memᴰ}
use lib.Dec.{ltb, leb, eqb}
use lib.ListN.{length, take, drop, length-append, length-drop, length-map}
use lib.Seq.{length-take-le}
use borrow.Author.Tests.{eq-eqb, lt-leb, le-leb, le-ltb}
use Rattle.lists.specs.Lists.{run, laid}
use Rattle.lists.proofs.Booleans.{and_left, and_right}
use Rattle.lists.proofs.Members.{of_map}
use Rattle.lists.proofs.Runs.{length_run, of_run}
use Rattle.dominance.specs.Renewal.{renewed}
use Rattle.skyline.specs.Skyline.{window_start, skyline}
use Rattle.head.specs.Heads.{settings_hold, max_capacity, last_position}
use Rattle.refusals.specs.declared.Refusal.TheVariants.{ShortOutput}
use Rattle.refusals.specs.Refusals.{number, first_of, granted}
use Rattle.model.specs.Changes.{change_room}
use Rattle.model.specs.Reference.{Reference, unopened, newest, opening, is_open, outside, skyline_of, with_quote, too_short, tells, reference_step}
use Rattle.model.specs.Calls.{Open, Quote, Look, Outputs, Lending, Lent, Seen, Expected, lengths_of, expected_step, book_seen, book_step, runs, expected_first, expected_at_end, reference_at_end, world_at_end}
use Rattle.model.proofs.Replay.{call_agrees, replay_ends}
use Rattle.std.specs.Prelude.{Result}
use Rattle.refusals.specs.declared.Refusal.{Refusal}
use Rattle.day_skyline.specs.Sheet.{longest_day, columns_hold, quotes_in, sheet_of, sheet_answer, sheet_number, sheet_count, Sheeted}
use Rattle.day_lists.specs.Fed.{lending, fed, look_after, Feeds}

-- ---- the reference model fed with a day

-- the reference model that holds these quotes alone
abbrev holding : ℕ → ℕ → ℕ → List (List ℕ) → Reference
holding d N directions qs = record { dimensions = d; capacity = N; directions = directions; quotes = qs; watched = []; n1 = 0; n2 = 0 }

-- settings that hold for the columns and N
settings_hold_lem : (d N directions : ℕ) → columns_hold d directions ≡ true → 1 ≤ N → N ≤ 1024 → settings_hold d N directions ≡ true
unfolding columns_hold settings_hold
settings_hold_lem d N directions e h k = rw (le-leb 1 N h, le-leb N 1024 k) (go (leb 1 d && leb d 6) (eqb (directions / 2 ^ d) 0) e)
  where
    go : (a b : Bool) → a && b ≡ true → (a && true) && b ≡ true
    go true b e = e
    go false b e = e

module _ (d N directions : ℕ) (hold : settings_hold d N directions ≡ true) (o : Outputs) (bytes : change_room ≤ length o.bytes) where
  -- an opening is taken
  opened : (k : Expected) → too_short (lengths_of k.lent o) d N ≡ false → (expected_step (Open d N directions) o k).1.reference ≡ holding d N directions []
  unfolding expected_step reference_step tells first_of granted opening
  opened k e = rw (hold, e)

  -- a quote is taken
  quoted : (x : List ℕ) (qs : List (List ℕ)) (k : Expected) → k.reference ≡ holding d N directions qs → length x ≡ d → length qs < last_position
      → (expected_step (Quote x) o k).1.reference ≡ holding d N directions (qs ++ (x ∷ []))
  unfolding expected_step reference_step tells first_of granted is_open with_quote lengths_of
  quoted x qs k e w h =
      rw (e, hold, eq-eqb (length x) d w, lt-leb last_position (length qs) h, le-ltb (length o.bytes) change_room bytes)

  -- and so are all
  all_quoted : (xs qs : List (List ℕ)) (k : Expected) → k.reference ≡ holding d N directions qs
      → ((x : List ℕ) → Memᴰ x xs → length x ≡ d) → length qs + length xs ≤ last_position
      → (runs expected_step (map (λ x. lending o (Quote x)) xs) k).1.reference ≡ holding d N directions (qs ++ xs)
  unfolding runs
  all_quoted [] qs k e w h = e ∙ ap (holding d N directions) (sym (append-nil qs))
  all_quoted (x ∷ xs) qs k e w h =
      all_quoted xs (qs ++ (x ∷ [])) (expected_step (Quote x) o k).1 (quoted x qs k e (w x (Memᴰ.head refl)) (omega arith))
      (λ y m. w y (Memᴰ.tail m)) (rw length-append (omega arith))
      ∙ ap (holding d N directions) (append_assoc qs (x ∷ []) xs)

-- ---- the day's quotes

quotes_counted : (d count : ℕ) (columns : List ℕ) → length (quotes_in d count columns) ≡ count
unfolding quotes_in
quotes_counted d count columns = length-map (run 0 count) (λ i. take d (drop (i * d) columns)) ∙ length_run 0 count

quotes_wide : (d count : ℕ) (columns : List ℕ) → d * count ≤ length columns → (x : List ℕ) → Memᴰ x (quotes_in d count columns) → length x ≡ d
unfolding quotes_in
quotes_wide d count columns h x m =
    let t = of_map (λ i. take d (drop (i * d) columns)) x (run 0 count) m in
    let i : ℕ = t.0 in
    let r = of_run 0 count i t.1 in
    let b : suc i ≤ count = omega arith in
    let fits : i * d + d ≤ count * d = rw (← suc-mul i d) (mul-le-mul_right d b) in
    rw t.2 (length-take-le d (drop (i * d) columns) (simp length-drop (omega (arith, fits, mul_comm d count))))

module _ (d N directions count : ℕ) (columns : List ℕ) (fits : d * count ≤ length columns) where
  abbrev quotes : List (List ℕ)
  quotes = quotes_in d count columns

  -- the list of N of the reference model that holds the day is the sheet
  pub sheet_is_list : count ≤ N → skyline_of (holding d N directions quotes) N ≡ sheet_of d directions count columns
  unfolding skyline_of sheet_of window_start
  sheet_is_list h =
      let e = quotes_counted d count columns in
      let s : max 1 (count + 1 - N) ≡ 1 = omega arith in
      rw (e, s)

  module _ (o : Outputs) (l : Lent) (f : Feeds d N directions count columns o l) where
    hold : settings_hold d N directions ≡ true
    hold =
        let w = f.within in
        settings_hold_lem d N directions f.columns_hold_lem (omega arith) f.bounded

    -- so does the model after the calls that feed it
    pub day_fed : reference_at_end (fed d N directions quotes o) l ≡ holding d N directions quotes
    unfolding fed runs
    day_fed =
        let w = f.within in
        let b = f.bounded in
        all_quoted d N directions hold o f.bytes quotes [] (expected_step (Open d N directions) o (expected_first l)).1
        (opened d N directions hold o f.bytes (expected_first l) f.table) (quotes_wide d count columns fits)
        (omega (arith, quotes_counted d count columns))

    -- the answer of the look: 13 where the sheet does not fit, and nothing else
    room : Outputs → ℕ
    room out = first_of ((ltb (length out.cells) (length (sheet_of d directions count columns)), number ShortOutput) ∷ [])

    -- what the reference model says of the look at the list of N
    record Says (out : Outputs) (seen : Seen) : Type 0 where
      number_is : seen.outcome.number ≡ room out
      count_is : seen.outcome.count ≡ granted (room out) (length (sheet_of d directions count columns)) 0
      cells_are : seen.outputs.cells ≡ granted (room out) (laid (sheet_of d directions count columns) out.cells) out.cells

    -- what is laid where it is granted
    laid_granted : (n : ℕ) (a before : List ℕ) → laid (granted n a []) before ≡ granted n (laid a before) before
    unfolding granted laid
    laid_granted zero a before = refl
    laid_granted (suc n) a before = refl

    look_says : (out : Outputs) (k : Expected) → k.reference ≡ holding d N directions quotes → Says out (expected_step (Look N) out k).0
    unfolding expected_step reference_step tells first_of is_open outside lengths_of room
    look_says out k e =
        let w = f.within in
        let one : 1 ≤ N = omega arith in
        let list = sheet_is_list (omega arith) in
        let within : leb 1 N && leb N N ≡ true = rw (le-leb 1 N one, le-leb N N (omega arith)) in
        record {
          number_is = rw (e, hold, within, list) refl;
          count_is = rw (e, hold, within, list) refl;
          cells_are = rw (e, hold, within, list) (laid_granted (room out) (sheet_of d directions count columns) out.cells);
        }

    answer_is : (out : Outputs) → sheet_answer d directions count columns (length out.cells) ≡ room out
    unfolding sheet_answer first_of room
    answer_is out =
        let w = f.within in
        let b = f.bounded in
        rw (f.columns_hold_lem, le-ltb longest_day count (omega arith), le-ltb (length columns) (d * count) fits)

    -- the book's look at the list of N, once it was fed the day alone, answers, counts and writes what the sheet does
    pub sheet_is_look : (out : Outputs) {r : Result ℕ Refusal} {after : List ℕ} → Sheeted d directions count columns out.cells r after
        → (sheet_number r ≡ (look_after d N directions count columns o l out).outcome.number)
        × (sheet_count r ≡ (look_after d N directions count columns o l out).outcome.count)
        × (after ≡ (look_after d N directions count columns o l out).outputs.cells)
    unfolding look_after book_step
    sheet_is_look out s =
        let cs : List Lending = fed d N directions quotes o in
        let agree = (call_agrees (Look N) out (expected_at_end cs l) (world_at_end cs l) (replay_ends cs l)).0 in
        let says = look_says out (expected_at_end cs l) day_fed in (
          s.answered ∙ answer_is out ∙ sym (ap (λ (x : Seen). x.outcome.number) agree ∙ says.number_is),
          s.counted ∙ rw (answer_is out) (sym (ap (λ (x : Seen). x.outcome.count) agree ∙ says.count_is)),
          s.out ∙ rw (answer_is out) (sym (ap (λ (x : Seen). x.outputs.cells) agree ∙ says.cells_are)),
        )
