-- `put_both` meets its contract: the line of the look is laid behind those of the quote.
use native.Mathlib.Omega.{arith}
use lib.ListN.{length-take, length-drop}
use Rattle.tape_both.proofs.Lines.{first_short, both_room, both_laid}
use Rattle.tape_both.proofs.put_both.Goals as goal

pub slice_bounds-put_answer-count : goal.slice_bounds-put_answer-count
slice_bounds-put_answer-count c =
    omega (arith, first_short _ _ c.args.bytes.now _ c.args.numbers.now c.requires.count_in_bounds.0 c.requires.count_in_bounds.1 c.requires.numbers_len_bound.0 c.requires.numbers_len_bound.1 c.put_changed-quoted.ensures, c.requires.numbers_len_bound.1, c.put_changed-quoted.auto.text)

pub slice_bounds-put_answer-start : goal.slice_bounds-put_answer-start
slice_bounds-put_answer-start c =
    omega (arith, first_short _ _ c.args.bytes.now _ c.args.numbers.now c.requires.count_in_bounds.0 c.requires.count_in_bounds.1 c.requires.numbers_len_bound.0 c.requires.numbers_len_bound.1 c.put_changed-quoted.ensures, c.requires.numbers_len_bound.1, c.put_changed-quoted.auto.text)

pub put_answer-looked-requires : goal.put_answer-looked-requires
put_answer-looked-requires c =
    let fits = first_short _ _ c.args.bytes.now _ c.args.numbers.now c.requires.count_in_bounds.0 c.requires.count_in_bounds.1 c.requires.numbers_len_bound.0 c.requires.numbers_len_bound.1 c.put_changed-quoted.ensures in
    simp (length-take, length-drop) (omega (arith, fits, c.requires.numbers_len_bound.1, c.put_changed-quoted.auto.text), omega (arith, fits, c.requires.numbers_len_bound.0, c.requires.numbers_len_bound.1, c.put_changed-quoted.auto.text))

pub overflow_add-result : goal.overflow_add-result
overflow_add-result c =
    omega (arith, both_room _ _ c.args.bytes.now _ c.args.numbers.now c.requires.count_in_bounds.0 c.requires.count_in_bounds.1 c.requires.numbers_len_bound.0 c.requires.numbers_len_bound.1 c.put_changed-quoted.ensures c.put_answer-looked.ensures, c.well_formed)

pub returns : goal.returns
returns c =
    both_laid _ _ c.args.bytes.now _ c.args.numbers.now c.requires.count_in_bounds.0 c.requires.count_in_bounds.1 c.requires.numbers_len_bound.0 c.requires.numbers_len_bound.1 c.put_changed-quoted.ensures c.put_answer-looked.ensures
