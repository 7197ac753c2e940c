-- `import` meets its contract: 3, then 18 with the first line that does not fit, then 13, else the frames are laid.
use Rattle.std.proofs.Common.{rules, ◌≡◌}
use Rattle.std.specs.Prelude.{Err}
use Rattle.csv_frames.proofs.Importing.{refused_few, refused_many, refused_line, refused_short, ready, accepted}
use Rattle.csv_frames.proofs.import.Goals as goal
use Rattle.csv_frames.proofs.import.Goals.{then-d-lt1-via-then-d-lt1, then-d-lt1-via-else-d-lt1+then-d-gt6}

pub returns-then-d-lt1 : goal.returns-then-d-lt1
returns-then-d-lt1 c = elim c.then-d-lt1.branch [
  | then-d-lt1-via-then-d-lt1 w ↦ refused_few _ _ _ w.if-d-lt1.true
  | then-d-lt1-via-else-d-lt1+then-d-gt6 w ↦ refused_many _ _ _ w.if-d-gt6.true
]

pub returns-in_err-lines : goal.returns-in_err-lines
returns-in_err-lines c =
    let e : c.from_residual.result ≡ Err c.in_err-lines.field-0.0 = search rules in
    rw e (refused_line _ _ _ c.if-d-lt1.false c.if-d-gt6.false c.in_err-lines.ensures)

pub returns-then-out-d : goal.returns-then-out-d
returns-then-out-d c = refused_short _ _ _ c.if-d-lt1.false c.if-d-gt6.false c.in_ok-lines.ensures c.if-out-d.true

pub write_frames-requires : goal.write_frames-requires
write_frames-requires c = ready _ _ _ c.if-d-lt1.false c.if-d-gt6.false c.in_ok-lines.ensures c.if-out-d.false

pub returns : goal.returns
returns c =
    accepted _ _ _ c.if-d-lt1.false c.if-d-gt6.false c.in_ok-lines.ensures (ready _ _ _ c.if-d-lt1.false c.if-d-gt6.false c.in_ok-lines.ensures c.if-out-d.false) c.write_frames.ensures.0 c.write_frames.ensures.1
