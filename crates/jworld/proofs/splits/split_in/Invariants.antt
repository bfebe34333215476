use Rattle.std.proofs.Common.{◌≡◌, drop}
use Rattle.jworld.specs.Faults.{split_in}
use Rattle.jworld.proofs.splits.split_in.Given as goal

abbrev pub invariant-loop-method : goal.invariant-loop-method
invariant-loop-method l = split_in l.classes l.file (drop l.method-index l.methods) ≡ split_in l.classes l.file l.methods
