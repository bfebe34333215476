use Rattle.std.proofs.Common.{◌≡◌, map, take}
use Rattle.kbind.specs.Cells.{cell_parts}
use Rattle.kbind.proofs.mapped.cell_classes.Given as goal

abbrev pub invariant-loop-line : goal.invariant-loop-line
invariant-loop-line l = map (λ word. word.now) l.words.items ≡ map (λ line. (cell_parts line.field).0) (take l.line-index l.lines)
