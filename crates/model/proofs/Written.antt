-- What the reference model writes: at a quote as the rows' ends say, and never more than the room that is asked for.
use mathlib.Core.Path.{◌≡◌, refl, ap, ap₂}
use Prim.Native.Nat.{ℕ, ◌+◌, ◌-◌, ◌≤◌, ◌<◌}
use native.Mathlib.Nat.{mul-le-mul_right}
use native.Mathlib.Omega.{arith}
use mathlib.Core.Bool.{true, false}
use mathlib.Core.List.{List, [], ◌++◌, map}
use lib.ListN.{length}
use Rattle.lists.specs.Lists.{flat}
use Rattle.lists.proofs.Members.{map_same_mem, mem_contains}
use Rattle.skyline.specs.Skyline.{window_start}
use Rattle.head.specs.declared.Head.{Head}
use Rattle.head.specs.Heads.{last_position, after_quote, torn_pair}
use Rattle.head.specs.Desks.{desk_in, size_in}
use Rattle.head.proofs.Settings.{settings_within}
use Rattle.frames.specs.declared.Message.{Message}
use Rattle.frame_kinds.specs.Kinds.{pair_join_kind}
use Rattle.frames.specs.Frames.{frame}
use Rattle.frames.proofs.RoundTrips.{change_length_lem, position_length}
use Rattle.model.specs.Rows.{Row, live_rows, listed, rows_after}
use Rattle.model.specs.Changes.{join_kind_of, join, pair_join, changes, all_changes, pair_changes, frames, change_room}
use Rattle.model.specs.Reference.{Reference, newest, skyline_of, past_of, pair_of, rows_of, head_of, is_open, with_quote}
use Rattle.model.specs.Book.{list_of, pair_list_of}
use Rattle.model.proofs.Quotes.{past_listed, skyline_listed, rows_after_quote, head_after_quote}
use Rattle.model.proofs.Desks.{watch_parts}
use Rattle.model.proofs.Records.{Records, eight_records_lem}
use Rattle.model.proofs.Sound.{rows_bounded, rows_sound}
use Rattle.model.proofs.Simulation.{Bounded, list_is, pair_is}
use Rattle.model.proofs.ChangesFit.{bytes_fit, length_listed}
use Rattle.model.proofs.ChangeFrames.{frames_bytes}

-- watches whose lists before and after are equal have equal changes
changes_alike : (watched : List ℕ) (before before' after after' : ℕ → List ℕ) (N : ℕ) → Records N watched
    → ((n : ℕ) → 1 ≤ n → n ≤ N → before n ≡ before' n) → ((n : ℕ) → 1 ≤ n → n ≤ N → after n ≡ after' n)
    → all_changes watched before after ≡ all_changes watched before' after'
unfolding all_changes
changes_alike watched before before' after after' N records b a =
    ap flat (map_same_mem (λ w. changes w (before (size_in w)) (after (size_in w))) (λ w. changes w (before' (size_in w)) (after' (size_in w))) watched
    (λ w m.
    let p = watch_parts N w (records.each w (mem_contains w watched m)) in
    ap₂ (changes w) (b (size_in w) p.some_size p.most_size) (a (size_in w) p.some_size p.most_size)))

module _ (s : Reference) (x : List ℕ) where
  -- the reference model with the quote
  abbrev s' : Reference
  s' = with_quote s x

  -- what the reference model writes
  abbrev pub written : List ℕ
  written = frames (all_changes s.watched (skyline_of s) (skyline_of s') ++ pair_changes (pair_of s) (pair_of s'))

  -- the same by the rows' ends
  abbrev pub written_by : List ℕ
  written_by =
      frames (all_changes s.watched (list_of (head_of s) (rows_of s)) (list_of (head_of s') (rows_of s'))
      ++ pair_changes (pair_list_of (head_of s) (rows_of s)) (pair_list_of (head_of s') (rows_of s')))

  -- a quote keeps the pair
  pub pair_kept : torn_pair (head_of s) ≡ false → torn_pair (head_of s') ≡ false
  unfolding torn_pair head_of with_quote
  pair_kept e = e

  list_after_lem : (n : ℕ) → 1 ≤ n → n ≤ s.capacity → list_of (head_of s') (rows_of s') n ≡ skyline_of s' n
  unfolding with_quote
  list_after_lem n u v = list_is s' n u v

  pub written_is : Records s.capacity s.watched → torn_pair (head_of s) ≡ false → written_by ≡ written
  written_is records fine =
      rw (pair_is s fine, pair_is s' (pair_kept fine))
      (ap (λ (ms : List Message). frames (ms ++ pair_changes (pair_of s) (pair_of s')))
      (changes_alike s.watched (list_of (head_of s) (rows_of s)) (skyline_of s) (list_of (head_of s') (rows_of s')) (skyline_of s')
      s.capacity records (list_is s) list_after_lem))

  -- the rows and the head after the quote, by the book model's step
  abbrev rows_next : List Row
  rows_next = rows_after s.dimensions s.directions s.capacity (newest s) x (rows_of s)

  abbrev head_next : Head
  head_next = after_quote (head_of s) (length (live_rows rows_next)) (length rows_next)

  module _ (hold : is_open s ≡ true) (ok : Bounded s) where
    some : 1 ≤ s.capacity
    unfolding is_open
    some = (settings_within s.dimensions s.capacity s.directions hold).some_capacity

    next_fits : length (frames (all_changes s.watched (list_of (head_of s) (rows_of s)) (list_of head_next rows_next)
        ++ pair_changes (pair_list_of (head_of s) (rows_of s)) (pair_list_of head_next rows_next))) ≤ change_room
    unfolding head_of is_open
    next_fits = bytes_fit (head_of s) x (rows_of s) refl hold (rows_sound s some ok.short) ok.pair s.watched (eight_records_lem ok.watches)

    -- an opened reference model writes no more
    pub written_fits : newest s < last_position → length written ≤ change_room
    written_fits room = rw (head_after_quote s x some room, ← (rows_after_quote s x some), written_is ok.watches ok.pair) at next_fits

-- ---- the joins of a watch and of the pair

module _ (s : Reference) (hold : is_open s ≡ true) (ok : Bounded s) where
  -- joins of this many bytes each for a list of the rows
  joins_fit : (k : ℕ) (joins : ℕ → Message) → k ≤ 7 → ((p : ℕ) → length (frame (joins p) []) ≡ k) → (a b : ℕ)
      → length (frames (map joins (listed a b (rows_of s)))) ≤ change_room
  unfolding is_open
  joins_fit k joins h e a b =
      let some = (settings_within s.dimensions s.capacity s.directions hold).some_capacity in
      let list = listed a b (rows_of s) in
      let bounded : length list ≤ 1024 = omega (arith, length_listed a b (rows_of s), rows_bounded s some, ok.small) in
      omega (arith, frames_bytes k joins e list, mul-le-mul_right (length list) h)

  -- those of a watch of n find room
  pub watch_written : (w n : ℕ) → 1 ≤ n → n ≤ s.capacity → length (frames (map (join w) (skyline_of s n))) ≤ change_room
  watch_written w n u v =
      rw (← (skyline_listed s n u v))
      (joins_fit 7 (join w) (omega arith) (change_length_lem (join_kind_of (desk_in w)) (size_in w)) (window_start (newest s) n) (newest s))

  -- and those of the pair
  pub pair_written : (n1 n2 : ℕ) → 1 ≤ n1 → n1 ≤ n2 → n2 ≤ s.capacity → length (frames (map pair_join (past_of s n1 n2))) ≤ change_room
  pair_written n1 n2 u v w =
      rw (← (past_listed s n1 n2 u v w))
      (joins_fit 5 pair_join (omega arith) (position_length pair_join_kind) (window_start (newest s) n2) (newest s + 1 - n1))
