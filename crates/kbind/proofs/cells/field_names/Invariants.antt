use Rattle.kbind.specs.Kept.{field_seen}
use Rattle.kbind.proofs.Seeing.{AreFor}
use Rattle.kbind.proofs.cells.field_names.Given as goal

abbrev pub invariant-loop-n : goal.invariant-loop-n
invariant-loop-n l = AreFor (field_seen l.world) l.n l.tables.items
