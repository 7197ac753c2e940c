-- `taken_live` meets its contract: where there are 64 rows and the book is not dense they are counted.
use mathlib.Core.Path.{◌≡◌, ◌∙◌}
use Prim.Native.Nat.{◌-◌}
use native.Mathlib.Omega.{arith}
use Rattle.table_finding.proofs.Looping.{taken_counted, counted}
use Rattle.table_finding.proofs.ComparedRows.taken_live.Goals as goal

pub returns : goal.returns
returns c =
    let n : c.args.to - (c.args.to - 64) ≡ 64 = omega (arith, c.if-to-lt64.false) in
    taken_counted _ _ _ c.if-to-lt64.false c.if-self.false ((rw n at c.count_live.ensures) ∙ counted _ _ 64 (omega (arith, c.requires, c.if-to-lt64.false)))
