use Rattle.std.proofs.Common.{◌≡◌, ◌<◌, ℕ, length}
use Rattle.jworld.specs.Above.{supers_of}
use Rattle.jworld.specs.Edges.{graph_of}
use Rattle.jworld.proofs.above.all_supers.Given as goal

abbrev pub invariant-loop-n : goal.invariant-loop-n
invariant-loop-n l = record {
  count : length l.all ≡ l.n;
  supers : (class : ℕ) → class < l.n → graph_of l.all class ≡ supers_of l.classes class;
}
