-- The changes of the pair told by the ends of the rows are those of the model, on any rows that are not torn.
use mathlib.Core.Path.{◌≡◌, refl}
use Prim.Native.Nat.{ℕ, suc, ◌+◌, ◌-◌, ◌≤◌, ◌<◌}
use native.Mathlib.Decide.{dec_lt}
use native.Mathlib.Omega.{arith}
use mathlib.Core.Bool.{Bool, true, false, not}
use mathlib.Core.List.{List, [], ◌++◌, map, Memᴰ}
use lib.Dec.{ltb, eqb}
use lib.ListN.{length, get_or}
use borrow.Author.Tests.{ltb-true, le-ltb, le-leb, lt-leb, not-false}
use Rattle.lists.specs.Lists.{filter, flat, run}
use Rattle.lists.proofs.Members.{mem_none, into_map}
use Rattle.lists.proofs.Runs.{into_run}
use Rattle.skyline.specs.Skyline.{window_start}
use Rattle.head.specs.declared.Head.{Head}
use Rattle.head.specs.Heads.{last_position, torn_pair}
use Rattle.model.specs.Rows.{Tables, row_at, rows_in}
use Rattle.model.specs.Changes.{pair_leave, pair_join, pair_changes, frames}
use Rattle.model.specs.Book.{book_rows, pair_stands, pair_list_of, quote_rows, quote_head}
use Rattle.model.proofs.Torn.{Whole, lower_astray, pair_within}
use Rattle.table_pair_changes.proofs.PairMoves.{start_before, end_before, start_after, end_after, gone, come, places_full, place_at, pair_changes_are, pair_changes_none}
use Rattle.table_changes.specs.Watches.{shift_of}
use Rattle.table_pair_changes.specs.Pairs.{sought, falls, enters, dropped, gained, leaving, joining, moved, end_shift, begun, pair_frames, Paired}

-- where the window neither moves nor holds a position nothing leaves or joins
none_moved : (first a a' b b' : ℕ) (lowers uppers : List ℕ) → a' ≤ a → suc b ≤ a' → b' ≤ b
    → map pair_leave (gone first a a' b b' lowers uppers) ++ map pair_join (come first a a' b b' lowers uppers) ≡ []
unfolding filter run
none_moved first a a' b b' lowers uppers h k l = let z : suc b - a' ≡ 0 = omega arith in rw (le-ltb a a' h, le-ltb b b' l, z)

-- so it is before the window has begun
early : (M n1 n2 : ℕ) → n1 ≤ n2 → M + 1 < n1 → (window_start (M + 1) n2 ≤ window_start M n2) × (suc (M + 1 - n1) ≤ window_start (M + 1) n2) × (M + 1 + 1 - n1 ≤ M + 1 - n1)
unfolding window_start
early M n1 n2 h k = (omega arith, omega arith, omega arith)

module _ (h : Head) (t : Tables) (whole : Whole h (book_rows h t)) (untorn_pair : torn_pair h ≡ false) (space : h.newest < last_position) where
  -- the frames of the pair's changes are those of the model's
  pub pair_frames_lem : (x ws : List ℕ) → pair_frames h t.lower_ends t.upper_ends ≡ frames (pair_changes (pair_list_of h (book_rows h t)) (pair_list_of (quote_head h x t ws) (quote_rows h x t ws)))
  unfolding pair_frames begun pair_stands frames flat moved leaving joining dropped gained falls enters sought shift_of end_shift
  pair_frames_lem x ws = go (not (eqb h.n1 0)) refl (dec_lt (h.newest + 1) h.n1)
    where
      go : (b : Bool) → not (eqb h.n1 0) ≡ b → Dec (h.newest + 1 < h.n1)
          → pair_frames h t.lower_ends t.upper_ends ≡ frames (pair_changes (pair_list_of h (book_rows h t)) (pair_list_of (quote_head h x t ws) (quote_rows h x t ws)))
      go false e d = rw (e, pair_changes_none h x t ws e)
      go true e (yes l) =
          let within = pair_within h untorn_pair e in
          let z = early h.newest h.n1 h.n2 within.order l in
          rw (e, lt-leb h.n1 (h.newest + 1) l, pair_changes_are h t whole within x ws e space, none_moved (window_start h.newest h.capacity) (start_before h) (start_after h) (end_before h) (end_after h) t.lower_ends t.upper_ends z.0 z.1 z.2)
      go true e (no l) =
          rw (e, le-leb h.n1 (h.newest + 1) (omega arith), pair_changes_are h t whole (pair_within h untorn_pair e) x ws e space)

  -- the lower end of a row is before it
  low : (i : ℕ) → i < h.held → get_or t.lower_ends i 0 < window_start h.newest h.capacity + i
  unfolding book_rows rows_in row_at
  low i l =
      let r = row_at h.dimensions t i in
      let member : Memᴰ r (book_rows h t) = into_map (row_at h.dimensions t) i (run 0 h.held) (into_run 0 h.held i (omega arith) (omega arith)) in
      let below = ltb-true (get_or t.lower_ends i 0) (get_or t.positions i 0) (not-false (ltb (get_or t.lower_ends i 0) (get_or t.positions i 0)) (mem_none lower_astray r (book_rows h t) member whole.lower_ends_lem)) in
      omega (arith, place_at h t whole i l)

  -- what is asked before they are written
  pub paired : h.held ≤ length t.lower_ends → h.held ≤ length t.upper_ends → Paired h t.lower_ends t.upper_ends
  paired lower_room upper_room = record {
    untorn_pair = untorn_pair;
    filled = places_full h t whole;
    space = space;
    lower_room = lower_room;
    upper_room = upper_room;
    low = low;
  }
