-- `put_change` meets its contract: the line of a leave or of a join, of a desk's watch or of the pair, or none.
use native.Mathlib.Omega.{arith}
use Rattle.line_changes.proofs.Decoding.{place_inside, desk_asks, pair_asks_lem, one_line, two_line, pair_line, nothing_laid}
use Rattle.line_changes.proofs.put_change.Goals as goal

pub bounds-bytes-place : goal.bounds-bytes-place
bounds-bytes-place c = place_inside _ _ c.requires.place_bound

pub numbers_at-requires : goal.numbers_at-requires
numbers_at-requires c = (desk_asks _ _ _ c.requires.place_bound c.requires.place_bound_2 (omega arith) (omega arith)).0

pub put_line-requires : goal.put_line-requires
put_line-requires c =
    let room = (desk_asks _ _ _ c.requires.place_bound c.requires.place_bound_2 (omega arith) (omega arith)).1 in
    rw c.numbers_at.ensures (omega arith)

pub numbers_at-requires-in-34 : goal.numbers_at-requires-in-34
numbers_at-requires-in-34 c = (desk_asks _ _ _ c.requires.place_bound c.requires.place_bound_2 (omega arith) (omega arith)).0

pub put_line2-requires : goal.put_line2-requires
put_line2-requires c =
    let room = (desk_asks _ _ _ c.requires.place_bound c.requires.place_bound_2 (omega arith) (omega arith)).1 in
    rw c.numbers_at-in-34.ensures (omega arith)

pub four_at-requires : goal.four_at-requires
four_at-requires c = omega (arith, (pair_asks_lem _ _ _ c.requires.place_bound c.requires.place_bound_2 (omega arith) (omega arith)).0)

pub put_line2-requires-in-36 : goal.put_line2-requires-in-36
put_line2-requires-in-36 c = (pair_asks_lem _ _ _ c.requires.place_bound c.requires.place_bound_2 (omega arith) (omega arith)).1

pub returns-in-32 : goal.returns-in-32
returns-in-32 c = rw (one_line c.args.bytes.now c.args.place c.letter_of-letter.ensures (omega arith) (omega arith), ← c.numbers_at.ensures) c.put_line.ensures

pub returns-in-34 : goal.returns-in-34
returns-in-34 c = rw (two_line c.args.bytes.now c.args.place c.letter_of-letter.ensures (omega arith) (omega arith), ← c.numbers_at-in-34.ensures) c.put_line2.ensures

pub returns-in-36 : goal.returns-in-36
returns-in-36 c = rw (pair_line c.args.bytes.now c.args.place c.letter_of-letter.ensures (omega arith) (omega arith), ← c.four_at.ensures) c.put_line2-in-36.ensures

pub returns-in_default : goal.returns-in_default
returns-in_default c = nothing_laid _ _ (λ low high. omega arith) _

pub returns-in_default-2 : goal.returns-in_default-2
returns-in_default-2 c = nothing_laid _ _ (λ low high. omega arith) _
