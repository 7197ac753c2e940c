-- `lay_quote` meets its contract: the kind, then each column behind the one before.
use mathlib.Core.Path.{◌≡◌}
use mathlib.Core.List.{◌∷◌, map}
use lib.ListN.{take}
use Rattle.lists.specs.Lists.{flat, laid}
use Rattle.octets.specs.Bytes.{bytes4}
use Rattle.frame_writer.proofs.lay_quote.Given as goal

abbrev pub invariant-loop-i : goal.invariant-loop-i
invariant-loop-i l = l.out ≡ laid (l.kind ∷ flat (map bytes4 (take l.i l.columns))) l.fn.out
