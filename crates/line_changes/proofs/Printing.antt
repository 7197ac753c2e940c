-- The lines of changes laid one behind the other: the invariant of the loop that lays them.
use mathlib.Core.Path.{◌≡◌, refl, sym, ap, ◌∙◌}
use Prim.Native.Nat.{ℕ, suc, ◌+◌, ◌-◌, ◌*◌, ◌≤◌, ◌<◌}
use native.Mathlib.Omega.{arith}
use mathlib.Core.List.{List, [], ◌∷◌, ◌++◌, append-nil, append_assoc}
use lib.ListN.{length, get_or, length-append}
use borrow.Rule.Slice.PartMut.{mid_of, put_mid}
use Rattle.lists.specs.Lists.{flat}
use Rattle.lists.proofs.Laying.{Front, front_none, front_more}
use Rattle.frames.specs.declared.Message.{Message}
use Rattle.frames.specs.Frames.{message_at, read_at, messages_from}
use Rattle.frames.proofs.Reading.{Told, told_at, messages_on, messages_none}
use Rattle.model.specs.Changes.{frames}
use Rattle.model_watcher.proofs.ReadBack.{Sent, read_back}
use Rattle.text.specs.Text.{Laid}
use Rattle.line_changes.specs.Printed.{change_line, change_lines, changes_text}
use Rattle.line_changes.proofs.Decoding.{line_fits}

-- a line in front of others
lines_more : (m : Message) (ms : List Message) → change_lines (m ∷ ms) ≡ change_line m ++ change_lines ms
unfolding change_lines flat
lines_more m ms = refl

-- ---- the loop

-- some frames are read: their lines stand at the front, at most 25 bytes for each 7 of theirs, and the lines of
-- the frames to come are all that is missing
pub record Printing (bytes before text : List ℕ) (at place : ℕ) : Type 0 where
  pub enough : 25 * length bytes ≤ 7 * length before
  pub most : ℕ
  pub fuel : length bytes ≤ place + most
  pub lines : List ℕ
  pub short : 7 * length lines ≤ 25 * place
  pub front : Front lines before text at
  pub rest : changes_text bytes ≡ lines ++ change_lines (messages_from most bytes place)

pub printing_start : (bytes before : List ℕ) → 25 * length bytes ≤ 7 * length before → Printing bytes before before 0 0
unfolding changes_text
printing_start bytes before h =
    record {
      enough = h;
      most = length bytes;
      fuel = omega arith;
      lines = [];
      short = omega arith;
      front = front_none before;
      rest = refl;
    }

module _ (bytes : List ℕ) {before text : List ℕ} {at place : ℕ} (v : Printing bytes before text at place) where
  -- all lines stand at the front of the text
  pub printing_finish : place ≡ (read_at bytes place).next → Laid (changes_text bytes) before at text
  unfolding change_lines flat
  printing_finish h =
      let none = messages_none bytes place v.most (omega arith) in
      let all : changes_text bytes ≡ v.lines = v.rest ∙ rw (none, append-nil) in
      rw all (record { counted = v.front.place; text = v.front.cells })

  module _ {next : ℕ} (h : place < next) (ahead : next ≡ (read_at bytes place).next) where
    -- the frame at the place
    frame_there : Told bytes place
    frame_there = told_at bytes place (omega (arith, ahead))

    -- it ends within the bytes
    pub next_inside : next ≤ length bytes
    next_inside = omega (arith, ahead, frame_there.inside)

    -- the lines laid so far are within the text
    pub printing_at : at ≤ length text
    printing_at = let f = v.front in omega (arith, f.place, f.long, v.short, v.enough, next_inside)

    -- there is room for its line
    pub printing_room : 25 * ((read_at bytes place).next - place) ≤ 7 * (length text - at)
    printing_room = let f = v.front in omega (arith, f.place, f.long, v.short, v.enough, ahead, next_inside)

    abbrev message : Message
    message = message_at bytes (place + 1) (get_or bytes place 0)

    -- its line is the first of those to come
    line_next : change_lines (messages_from v.most bytes place) ≡ change_line message ++ change_lines (messages_from (v.most - 1) bytes next)
    line_next =
        let more : v.most ≡ suc (v.most - 1) = omega (arith, v.fuel, next_inside) in
        ap (λ (k : ℕ). change_lines (messages_from k bytes place)) more
        ∙ ap change_lines (messages_on bytes place (v.most - 1) frame_there)
        ∙ lines_more message (messages_from (v.most - 1) bytes (read_at bytes place).next)
        ∙ ap (λ (n : ℕ). change_line message ++ change_lines (messages_from (v.most - 1) bytes n)) (sym ahead)

    -- its line is laid into the rest of the text
    module _ {last : List ℕ} {used : ℕ} (l : Laid (change_line message) (mid_of at (length text - at) text) used last) where
      -- the lines up to there are short
      more_short : 7 * length (v.lines ++ change_line message) ≤ 25 * next
      more_short = rw length-append (omega (arith, v.short, ahead, frame_there.next, line_fits bytes place))

      pub printing_more : Printing bytes before (put_mid at (length text - at) text last) (at + used) next
      printing_more =
          record {
            enough = v.enough;
            most = v.most - 1;
            fuel = omega (arith, v.fuel);
            lines = v.lines ++ change_line message;
            short = more_short;
            front = front_more v.front (change_line message) (omega (arith, more_short, v.enough, next_inside)) l.counted l.text;
            rest = v.rest ∙ ap (λ (r : List ℕ). v.lines ++ r) line_next ∙ sym (append_assoc v.lines (change_line message) (change_lines (messages_from (v.most - 1) bytes next)));
          }

      -- the place behind the line is within the text
      pub printing_used : at + used ≤ length text
      printing_used = let f = printing_more.front in omega (arith, f.place, printing_more.short, v.enough, next_inside, v.front.long)

-- ---- frames of changes

-- the frames of messages that can be sent print the lines of those messages
pub changes_printed : (ms : List Message) → Sent ms → changes_text (frames ms) ≡ change_lines ms
unfolding changes_text
changes_printed ms s = ap change_lines (read_back ms s [] (length (frames ms)) (omega arith))
