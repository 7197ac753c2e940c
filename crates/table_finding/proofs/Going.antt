-- The invariant of the loops that go through rows from the youngest back, and blocks of rows that need not be gone through.
use mathlib.Core.Path.{◌≡◌, refl, sym, ◌∙◌}
use mathlib.Core.Logic.{inl}
use Prim.Native.Nat.{ℕ, suc, ◌+◌, ◌-◌, ◌≤◌, ◌<◌}
use native.Mathlib.Nat.{le_refl}
use native.Mathlib.Omega.{arith}
use mathlib.Core.Bool.{Bool, true, false, ◌&&◌, ◌||◌, not}
use mathlib.Core.List.{List}
use Rattle.std.proofs.Common.{None}
use Rattle.std.specs.Option.{is_some}
use lib.Dec.{eqb}
use lib.ListN.{length, get_or}
use lib.Seq.{drop-length}
use borrow.Author.Tests.{eqb-true, not-true}
use Rattle.lists.specs.Lists.{filter, run}
use Rattle.lists.proofs.Booleans.{and_left, and_right}
use Rattle.table_finding.specs.Found.{live, taken_live, Rows, over, under, retires, retired, Room, Finds, Passing, Idle}
use Rattle.table_finding.specs.declared.Found.{Found}
use Rattle.table_finding.proofs.Looping.{none_taken}
use Rattle.table_finding.proofs.Youngest.{youngest_none, sound_later}
use Rattle.table_finding.proofs.Passing.{passed, dead_rows, sound_stops}
use Rattle.table_finding.proofs.Idling.{passed_any}

module _ (s : Rows) where
  -- before any row is gone through
  pub finds_none : (b : ℕ) (places : List ℕ) (f : Found) → f.at ≡ length places → f.last ≡ None → Finds s b b places f
  unfolding retired filter run
  finds_none b places f e z = record {
    listed = let n : b - b ≡ 0 = omega arith in rw (n, e, drop-length);
    last = rw z (sym (youngest_none s b b (λ q u l. absurd (omega arith))));
    most = omega (arith, e);
  }

  -- there is room for the places below an earlier one
  pub room_less : {from to at : ℕ} {places : List ℕ} → from ≤ to → Room s to places at → Room s from places at
  room_less h r = record { least = omega (arith, r.least); most = r.most }

  -- the rows below to have been gone through down to place i: what was found below to, and what is found since
  pub record Going (sound : Bool) (from to : ℕ) (before : List ℕ) (f : Found) (places : List ℕ) (i : ℕ) (g : Found) : Type 0 where
    pub least : from ≤ i
    pub most : i ≤ to
    pub room : Room s i places g.at
    pub same_length : length places ≡ length before
    pub gone : (b : ℕ) → to ≤ b → Passing s sound i to b before f places g

  pub going_start : {sound : Bool} {from to : ℕ} {places : List ℕ} {f : Found} → from ≤ to → Room s to places f.at → Going sound from to places f places to f
  going_start {to = to} h r = record { least = h; most = le_refl to; room = r; same_length = refl; gone = λ b l w v. v }

  module _ {sound : Bool} {from to : ℕ} {before : List ℕ} {f : Found} {places : List ℕ} {i : ℕ} {g : Found} (v : Going sound from to before f places i g) where
    -- one row or one block further back
    pub going_turn : (k : ℕ) → from ≤ k → k ≤ i → (places' : List ℕ) (g' : Found) → Room s k places' g'.at → length places' ≡ length places
        → ((b : ℕ) → i ≤ b → Passing s sound k i b places g places' g') → Going sound from to before f places' k g'
    going_turn k h l places' g' r e o = record {
      least = h;
      most = omega (arith, v.most);
      room = r;
      same_length = e ∙ v.same_length;
      gone = λ b m w u. o b (omega (arith, v.most)) w (v.gone b m (λ t. sound_later s (w t) i l) u);
    }

    -- past rows that say nothing
    pub going_pass : {sought : Bool} (k : ℕ) → from ≤ k → k ≤ i → is_some g.last ≡ not sought → ((q : ℕ) → k ≤ q → q < i → Idle s sought q)
        → Going sound from to before f places k g
    going_pass k h l t o = going_turn k h l places g (room_less l v.room) refl (λ b m w u. passed_any s l m t o u)

    -- down to the first row
    pub going_end : i ≤ from → Room s from places g.at × ((b : ℕ) → to ≤ b → Passing s sound from to b before f places g)
    going_end h = let e : i ≡ from = omega (arith, v.least) in (rw (← e) v.room, λ b l w u. rw (← e) (v.gone b l (λ t. sound_later s (w t) i v.least) u))

    -- down to one over the quote, where the rows' ends are sound
    pub going_stop : sound && is_some g.last ≡ true → Room s from places g.at × ((b : ℕ) → to ≤ b → Passing s sound from to b before f places g)
    going_stop t =
        let sure = and_left sound (is_some g.last) t in
        let found = and_right sound (is_some g.last) t in (
          room_less v.least v.room,
          λ b l w u. sound_stops s (w sure) v.least (omega (arith, v.most)) found (v.gone b l (λ t. sound_later s (w t) i v.least) u),
        )

  -- what one row more says
  pub row_next : {sound : Bool} {i : ℕ} {places places' : List ℕ} {f f' : Found} → 0 < i
      → ((b : ℕ) → suc (i - 1) ≤ b → Passing s sound (i - 1) (suc (i - 1)) b places f places' f') → (b : ℕ) → i ≤ b → Passing s sound (i - 1) i b places f places' f'
  row_next {i = i} h o b l w v = let e : suc (i - 1) ≡ i = omega arith in o b (omega arith) w (rw e v)

  -- a row that is not live, where its end is sound or a row over the quote is found
  pub dead_row : (sound : Bool) {i b : ℕ} {places : List ℕ} {f : Found} → i < b → not (eqb (get_or s.uppers i 0) 0) && (sound || is_some f.last) ≡ true
      → Passing s sound i (suc i) b places f places f
  unfolding live
  dead_row sound {i} {f = f} h t w v =
      let one = not (eqb (get_or s.uppers i 0) 0) in
      let dead = not-true (live s.uppers i) (and_left one (sound || is_some f.last) t) in
      dead_rows s sound (omega arith) h (λ q u l. let e : q ≡ i = omega arith in rw e dead) (and_right one (sound || is_some f.last) t) w v

  module _ {sound : Bool} {from to : ℕ} {places : List ℕ} {f : Found} (h : from ≤ to) (r : Room s to places f.at) where
    -- a block of rows none of which is live
    pub dead_block : (dense : Bool) {n : ℕ} → to ≤ from + 64 → n ≡ taken_live dense s.uppers to → eqb n 0 && (sound || is_some f.last) ≡ true
        → Room s from places f.at × ((b : ℕ) → to ≤ b → Passing s sound from to b places f places f)
    dead_block dense {n} k e t =
        let z = eqb-true n 0 (and_left (eqb n 0) (sound || is_some f.last) t) in
        (room_less h r, λ b l w v. dead_rows s sound h l (none_taken s dense k (sym e ∙ z)) (and_right (eqb n 0) (sound || is_some f.last) t) w v)

    -- a block of rows none of which is comparable
    pub apart_block : ((q : ℕ) → from ≤ q → q < to → (over s q ≡ false) × (under s q ≡ false))
        → Room s from places f.at × ((b : ℕ) → to ≤ b → Passing s sound from to b places f places f)
    unfolding retires
    apart_block g = (room_less h r, λ b l w v. passed s h l (λ q u m. none q u m (live s.uppers q)) (inl (λ q u m. (g q u m).1)) v)
      where
        none : (q : ℕ) → from ≤ q → q < to → (x : Bool) → x && over s q ≡ false
        none q u m true = (g q u m).0
        none q u m false = refl
