-- `write` meets its contract: the pair's changes stand behind those of the watches.
use Prim.Native.Nat.{ℕ, ◌+◌, ◌≤◌}
use native.Mathlib.Omega.{arith}
use mathlib.Core.List.{List, ◌++◌}
use lib.ListN.{length, length-append}
use Rattle.lists.proofs.Laying.{Front, front_one, front_room, front_rest, front_more}
use Rattle.call_settling.specs.Findings.{held_rows}
use Rattle.table_changes.specs.Watches.{all_frames}
use Rattle.table_pair_changes.specs.Pairs.{pair_frames}
use Rattle.table_changes.proofs.Known.{outdone_listed}
use Rattle.call_writing.specs.Bytes.{change_bytes}
use Rattle.call_writing.proofs.write.Goals as goal
use Rattle.call_writing.proofs.write.Goals.{After-write_all_changes-watched, Start}

-- the changes of the watches, and those of the pair
abbrev W : Start → List ℕ
W c = all_frames c.args.head c.args.tables.now.lower_ends.now (held_rows c.args.head c.args.quote.now c.args.tables.now.columns.now c.args.tables.now.upper_ends.now) c.args.found.lower c.args.watches

abbrev P : Start → List ℕ
P c = pair_frames c.args.head c.args.tables.now.lower_ends.now c.args.tables.now.upper_ends.now

room : (c : Start) → length (W c ++ P c) ≤ length c.args.out.now
unfolding change_bytes
room c = c.requires.writable.fits

watched-room : (c : Start) → length (W c) ≤ length c.args.out.now
watched-room c = omega (arith, room c, length-append (W c) (P c))

-- the output behind it
abbrev out1 : After-write_all_changes-watched → List ℕ
out1 c = c.write_all_changes-watched.new.out

-- the changes of the watches stand at the front
front : (c : After-write_all_changes-watched) → Front (W (goal.at.After-write_all_changes-watched c).Start) c.args.out.now (out1 c) c.write_all_changes-watched.result
front c = front_one (W (goal.at.After-write_all_changes-watched c).Start) c.args.out.now (watched-room (goal.at.After-write_all_changes-watched c).Start) c.write_all_changes-watched.ensures.value c.write_all_changes-watched.ensures.out_after

-- there is room for the pair's
paired-room : (c : After-write_all_changes-watched) → c.write_all_changes-watched.result + length (P (goal.at.After-write_all_changes-watched c).Start) ≤ length (out1 c)
paired-room c = front_room (front c) (P (goal.at.After-write_all_changes-watched c).Start) (room (goal.at.After-write_all_changes-watched c).Start)

pub start_of-first-requires : goal.start_of-first-requires
start_of-first-requires c = omega (arith, c.requires.writable.full.space)

pub invariant_of-before : goal.invariant_of-before
invariant_of-before c =
    record {
      bounded = c.requires.writable.bounded;
      first_value = c.start_of-first.ensures;
      full = c.requires.writable.full;
      listed = outdone_listed c.requires.writable.outdone;
      named = c.requires.sound_if.named;
    }

pub write_all_changes-watched-requires : goal.write_all_changes-watched-requires
write_all_changes-watched-requires c =
    record { watches_value = c.requires.writable.untorn; watches_in_bounds = watched-room (goal.at.write_all_changes-watched-requires c).Start }

pub slice_bounds-write_pair_changes-count : goal.slice_bounds-write_pair_changes-count
slice_bounds-write_pair_changes-count c = omega (arith, paired-room (goal.at.slice_bounds-write_pair_changes-count c).After-write_all_changes-watched)

pub slice_bounds-write_pair_changes-start : goal.slice_bounds-write_pair_changes-start
slice_bounds-write_pair_changes-start c = omega (arith, paired-room (goal.at.slice_bounds-write_pair_changes-start c).After-write_all_changes-watched)

pub write_pair_changes-paired-requires : goal.write_pair_changes-paired-requires
write_pair_changes-paired-requires c =
    record {
      paired = c.requires.writable.paired;
      sound = c.requires.sound_if.ends;
      upper_ends_in_bounds = front_rest (front (goal.at.write_pair_changes-paired-requires c).After-write_all_changes-watched) (P (goal.at.write_pair_changes-paired-requires c).Start) (room (goal.at.write_pair_changes-paired-requires c).Start);
    }

pub overflow_add-result : goal.overflow_add-result
overflow_add-result c =
    omega (arith, paired-room (goal.at.overflow_add-result c).After-write_all_changes-watched, (front (goal.at.overflow_add-result c).After-write_all_changes-watched).long, c.well_formed, c.write_pair_changes-paired.ensures.value)

pub returns : goal.returns
unfolding change_bytes
returns c =
    let v = front_more (front (goal.at.returns c).After-write_all_changes-watched) (P (goal.at.returns c).Start) (room (goal.at.returns c).Start) c.write_pair_changes-paired.ensures.value c.write_pair_changes-paired.ensures.out_after in
    record {
      value = v.place;
      out_after = v.cells;
    }
