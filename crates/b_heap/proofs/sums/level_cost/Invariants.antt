use Rattle.std.proofs.Common.{◌≡◌, ◌-◌, ◌*◌, ◌≤◌, take}
use Rattle.std.specs.Prelude.{sum_by}
use Rattle.jnames.specs.Width.{width_of}
use Rattle.b_heap.proofs.sums.level_cost.Given as goal

abbrev pub invariant-loop-shape : goal.invariant-loop-shape
invariant-loop-shape l = record {
  sum : l.sum ≡ sum_by width_of (take l.shape-index l.shapes);
  few : l.sum ≤ 8 * l.shape-index;
}
