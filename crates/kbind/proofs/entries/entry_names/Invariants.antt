use Rattle.kbind.specs.Kept.{entry_seen}
use Rattle.kbind.proofs.Seeing.{AreFor}
use Rattle.kbind.proofs.entries.entry_names.Given as goal

abbrev pub invariant-loop-n : goal.invariant-loop-n
invariant-loop-n l = AreFor (entry_seen l.world) l.n l.tables.items
