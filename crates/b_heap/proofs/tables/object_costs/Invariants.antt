use Rattle.std.proofs.Common.{◌≡◌, map}
use Rattle.std.specs.List.{range_with_len}
use Rattle.b_heap.specs.Objects.{object_cost}
use Rattle.b_heap.proofs.tables.object_costs.Given as goal

abbrev pub invariant-loop-n : goal.invariant-loop-n
invariant-loop-n l = l.costs ≡ map (object_cost l.world) (range_with_len 0 l.n)
