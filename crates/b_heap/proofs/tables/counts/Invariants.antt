use Rattle.std.proofs.Common.{◌≡◌, ◌-◌, ◌≤◌, length, take, map}
use Rattle.std.specs.Prelude.{All}
use Rattle.b_heap.proofs.tables.counts.Given as goal

abbrev pub invariant-loop-own : goal.invariant-loop-own
invariant-loop-own l = record {
  made : l.counts ≡ map length (take l.own-index l.shapes);
  few : All (λ n. n ≤ 524288) l.counts;
}
