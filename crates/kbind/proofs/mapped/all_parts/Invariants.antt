use Rattle.std.proofs.Common.{drop}
use Rattle.kbind.specs.CellsKept.{ArePairs}
use Rattle.kbind.proofs.mapped.all_parts.Given as goal

abbrev pub invariant-loop-n : goal.invariant-loop-n
invariant-loop-n l = ArePairs (drop l.n l.lines) l.pairs
