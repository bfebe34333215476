use Rattle.std.proofs.Common.{◌≡◌, ◌-◌, ◌≤◌, take, map}
use Rattle.std.specs.Prelude.{All}
use Rattle.b_heap.specs.Objects.{level_cost}
use Rattle.b_heap.proofs.tables.level_costs.Given as goal

abbrev pub invariant-loop-own : goal.invariant-loop-own
invariant-loop-own l = record {
  made : l.costs ≡ map level_cost (take l.own-index l.shapes);
  few : All (λ n. n ≤ 524288) l.costs;
}
