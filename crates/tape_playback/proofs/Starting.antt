-- Where the rows of a book start, from frame to frame.
use mathlib.Core.Path.{◌≡◌, refl, sym, ap, subst, ◌∙◌}
use mathlib.Core.Bool.{Bool, true}
use Prim.Native.Nat.{ℕ, ◌+◌, ◌-◌, ◌*◌, ◌≤◌, ◌<◌}
use native.Mathlib.Nat.{zero-mul}
use native.Mathlib.Decide.{dec_lt}
use native.Mathlib.Omega.{arith}
use mathlib.Core.List.{List, [], ◌++◌, append-nil}
use lib.ListN.{length, take, drop, length-drop, drop_of_length-le}
use lib.Seq.{length-take-le, take_all, drop_at, drop-drop}
use borrow.Rule.Slice.PartMut.{mid_of, put_mid}
use Rattle.head.specs.declared.Head.{Head}
use Rattle.head.proofs.Settings.{settings_within}
use Rattle.model.specs.Rows.{Tables}
use Rattle.model.specs.Calls.{Reached}
use Rattle.model.specs.Promises.{tables, world}
use Rattle.call_quoting.specs.Known.{Roomy}
use Rattle.call_quoting.specs.Entered.{later, Slid, stayed, slid}
use Rattle.tape_model.specs.Play.{Played, Player}
use Rattle.tape.specs.Prints.{left}
use Rattle.tape.proofs.Prints.{its_player}
use Rattle.tape.proofs.Reached.{frame_reached}
use Rattle.tape.specs.declared.SlidStep.{SlidStep}
use Rattle.tape.specs.Steps.{StepMade}
use Rattle.tape.proofs.Slides.{left_bounded, left_holds}
use Rattle.table_starts.specs.declared.Start.{Start}
use Rattle.tape_playback.specs.declared.Playback.{Playback}
use Rattle.tape_playback.specs.Played.{Resumes, resumes, SameBook, Plays, none, frame, moved}
use Rattle.table_starts.specs.Starts.{Long, Within, FullOpened, onward, Moved, stays, moves}
use Rattle.table_starts.proofs.Rewinding.{bounded_cells, moved_reached}

-- players with the same book: it stands for both, and starts as near
pub same_reached : {s r : Playback} (t : Tables) → SameBook s r → Reached (world s.head (onward s.start t) s.watches) → Reached (world r.head (onward r.start t) r.watches)
same_reached t b c = rw (b.head, b.watches, b.start) c

pub same_starts : {s r : Playback} → SameBook s r → Within 1023 s.start → Within 1023 r.start
same_starts b w = rw b.start w

-- ---- the part of a table from a place on, lent and come back

abbrev part : ℕ → List ℕ → List ℕ
part a xs = mid_of a (length xs - a) xs

abbrev back : ℕ → List ℕ → List ℕ → List ℕ
back a xs ys = put_mid a (length xs - a) xs ys

part_is : (a : ℕ) (xs : List ℕ) → part a xs ≡ drop a xs
part_is a xs = take_all (length xs - a) (drop a xs) (omega (arith, length-drop a xs))

back_is : (a b : ℕ) (xs ys : List ℕ) → a ≤ length xs → drop (a + b) (back a xs ys) ≡ drop b ys
back_is a b xs ys h =
    let none : drop (length xs - a) (drop a xs) ≡ [] = drop_of_length-le (drop a xs) {i = length xs - a} (omega (arith, length-drop a xs)) in
    sym (drop-drop b a (back a xs ys))
    ∙ ap (drop b) (drop_at (take a xs) (ys ++ drop (length xs - a) (drop a xs)) a (length-take-le a xs h) ∙ rw (none, append-nil))

module _ (s : Start) (t : Tables) where
  -- the tables from where the rows start on
  abbrev pub parts : Tables
  parts = tables (part s.cell t.columns) (part s.row t.positions) (part s.row t.lower_ends) (part s.row t.upper_ends)

  -- the tables once those came back
  abbrev pub backs : Tables → Tables
  backs t' = tables (back s.cell t.columns t'.columns) (back s.row t.positions t'.positions) (back s.row t.lower_ends t'.lower_ends) (back s.row t.upper_ends t'.upper_ends)

  pub parts_are : parts ≡ onward s t
  unfolding onward
  parts_are = rw (part_is s.cell t.columns, part_is s.row t.positions, part_is s.row t.lower_ends, part_is s.row t.upper_ends)

  module _ (k : Long t) (w : Within 1023 s) where
    -- they start within the tables
    pub starts_inside : (s.cell ≤ length t.columns) × (s.row ≤ length t.positions) × (s.row ≤ length t.lower_ends) × (s.row ≤ length t.upper_ends)
    starts_inside = omega (arith, k.columns, k.positions, k.lower_ends, k.upper_ends, w.bounded, w.near)

    -- there is room for a row behind them
    pub parts_roomy : Roomy parts
    unfolding onward
    parts_roomy =
        rw parts_are (record {
          columns = omega (arith, length-drop s.cell t.columns, k.columns, w.bounded, w.near);
          positions = omega (arith, length-drop s.row t.positions, k.positions, w.bounded);
          lower_ends = omega (arith, length-drop s.row t.lower_ends, k.lower_ends, w.bounded);
          upper_ends = omega (arith, length-drop s.row t.upper_ends, k.upper_ends, w.bounded);
        })

    -- the rows so many places on
    backs_later : (t' : Tables) (by d : ℕ) → onward (record { row = s.row + by; cell = s.cell + by * d }) (backs t') ≡ later d by t'
    unfolding onward later
    backs_later t' by d =
        let i = starts_inside in
        rw (
          back_is s.cell (by * d) t.columns t'.columns i.0,
          back_is s.row by t.positions t'.positions i.1,
          back_is s.row by t.lower_ends t'.lower_ends i.2,
          back_is s.row by t.upper_ends t'.upper_ends i.3,
        )

  -- a book that calls left stands in them
  pub parts_reached : {h : Head} {ws : List ℕ} → Reached (world h (onward s t) ws) → Reached (world h parts ws)
  parts_reached c = rw parts_are c

-- ---- a frame is played

slid_cells : {by d : ℕ} → by ≤ 1 → Dec (0 < by) → (0 < by → d ≤ 6) → by * d ≤ 6 * by
slid_cells {by} {d} k (yes l) h = omega (arith, bounded_cells d k, h l)
slid_cells {by} {d} k (no n) h = let z : by ≡ 0 = omega arith in omega (arith, bounded_cells d k, ap (λ (j : ℕ). j * d) z, zero-mul d)

module _ {one : Played Player} {before : List ℕ} {z : SlidStep} {t' : Tables} {bytes' after : List ℕ}
    (m : StepMade true one before z t' bytes' after) {s s' : Start} (w : Within 1023 s)
    (e : s' ≡ record { row = s.row + z.by; cell = s.cell + z.by * z.step.turn.head.dimensions }) where
  -- only a book that was opened slides
  six : 0 < z.by → z.step.turn.head.dimensions ≤ 6
  six l = (settings_within _ _ _ (left_holds m l)).bounded_columns

  -- where the rows start then
  pub start_within : Within 1024 s'
  start_within = rw e record {
    bounded = omega (arith, w.bounded, left_bounded m);
    near = omega (arith, w.near, slid_cells (left_bounded m) (dec_lt 0 z.by) six);
  }

  pub start_opened : FullOpened s' z.step.turn.head
  start_opened = rw e record { opened = λ q. left_holds m (omega (arith, w.bounded)) }

-- rows that slid, where they go on
slid_moved : {h : Head} {t u : Tables} {by : ℕ} → Slid h t u by → Moved h t (later h.dimensions by u)
unfolding later
slid_moved {h} (stayed e) = rw (e, zero-mul h.dimensions) stays
slid_moved (slid bounded holds same) = moves holds same

-- and the book stands there
pub start_resumes : (s : Start) (t : Tables) (k : Player) {one : Played Player} {before : List ℕ} {z : SlidStep} {t' : Tables} {bytes' after : List ℕ} {s' : Start}
    → StepMade true one before z t' bytes' after → one.state.outputs.cells ≡ k.outputs.cells → Within 1023 s
    → s' ≡ record { row = s.row + z.by; cell = s.cell + z.by * z.step.turn.head.dimensions } → Long t
    → Resumes one.state (left k z.step (onward s' (backs s t t')) bytes')
start_resumes s t k {z = z} {t' = t'} {bytes' = bytes'} {s' = s'} m same w e l =
    subst (λ (q : Player). Resumes q (left k z.step (onward s' (backs s t t')) bytes')) (its_player m.stepped k same)
    (resumes {u = onward s' (backs s t t')} (rw (e, backs_later s t l w t' z.by z.step.turn.head.dimensions) (slid_moved (m.slides refl))))

-- frames that are played on a book that calls left leave such a book
pub plays_reached : {tape : List ℕ} {ended : Bool} {place : ℕ} {k : Player} {over : Bool} {lines : List ℕ} {next : ℕ} {now : Player} {over' : Bool}
    → Plays tape ended place k over lines next now over' → Reached k.world → Reached now.world
plays_reached none c = c
plays_reached {tape = tape} (frame {next = at} {now = who} p r) c = frame_reached who (plays_reached p c) tape at
plays_reached (moved p m) c = moved_reached m (plays_reached p c)
