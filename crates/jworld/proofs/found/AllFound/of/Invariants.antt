use Rattle.std.proofs.Common.{◌≡◌, length}
use Rattle.jworld.proofs.Finding.{TellsBelow}
use Rattle.jworld.proofs.found.AllFound.of.Given as goal

abbrev pub invariant-loop-n : goal.invariant-loop-n
invariant-loop-n l = record {
  count : length l.all.items ≡ l.n;
  below : TellsBelow l.classes l.n l.all.items;
}
