-- `put_changed` meets its contract: the changes are laid behind the line.
use native.Mathlib.Omega.{arith}
use lib.ListN.{length-take, length-drop}
use Rattle.line_answers.proofs.Behind.{changes_room, both_room, both_laid}
use Rattle.line_answers.proofs.put_changed.Goals as goal

pub put_answer-at-requires : goal.put_answer-at-requires
put_answer-at-requires c = (omega arith, omega arith)

pub slice_bounds-put_changes-count : goal.slice_bounds-put_changes-count
slice_bounds-put_changes-count c =
    omega (arith, changes_room _ _ _ _ c.args.bytes.now _ c.requires.numbers_len_bound.0 c.requires.numbers_len_bound.1 c.requires.bytes_len_bound.0 c.requires.bytes_len_bound.1 c.put_answer-at.ensures)

pub slice_bounds-put_changes-start : goal.slice_bounds-put_changes-start
slice_bounds-put_changes-start c =
    omega (arith, changes_room _ _ _ _ c.args.bytes.now _ c.requires.numbers_len_bound.0 c.requires.numbers_len_bound.1 c.requires.bytes_len_bound.0 c.requires.bytes_len_bound.1 c.put_answer-at.ensures)

pub put_changes-lines-requires : goal.put_changes-lines-requires
put_changes-lines-requires c =
    record {
      count_in_bounds = omega arith;
      count_bound = simp (length-take, length-drop) (omega (arith, changes_room _ _ _ _ c.args.bytes.now _ c.requires.numbers_len_bound.0 c.requires.numbers_len_bound.1 c.requires.bytes_len_bound.0 c.requires.bytes_len_bound.1 c.put_answer-at.ensures));
    }

pub overflow_add-result : goal.overflow_add-result
overflow_add-result c =
    omega (arith, both_room _ _ _ _ _ _ c.requires.numbers_len_bound.0 c.requires.numbers_len_bound.1 c.requires.bytes_len_bound.0 c.requires.bytes_len_bound.1 c.put_answer-at.ensures c.put_changes-lines.ensures c.put_changes-lines.auto.text c.put_answer-at.auto.text)

pub returns : goal.returns
returns c =
    both_laid _ _ _ _ _ _ c.requires.numbers_len_bound.0 c.requires.numbers_len_bound.1 c.requires.bytes_len_bound.0 c.requires.bytes_len_bound.1 c.put_answer-at.ensures c.put_changes-lines.ensures c.put_changes-lines.auto.text c.put_answer-at.auto.text
