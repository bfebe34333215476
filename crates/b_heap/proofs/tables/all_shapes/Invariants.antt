use Rattle.std.proofs.Common.{◌≡◌, ◌-◌, ◌≤◌, length, map}
use Rattle.std.specs.Prelude.{All}
use Rattle.std.specs.List.{range_with_len}
use Rattle.b_heap.specs.Objects.{own_shapes}
use Rattle.b_heap.proofs.tables.all_shapes.Given as goal

abbrev pub invariant-loop-n : goal.invariant-loop-n
invariant-loop-n l = record {
  made : l.shapes ≡ map (own_shapes l.world) (range_with_len 0 l.n);
  few : All (λ own. length own ≤ 65536) l.shapes;
}
