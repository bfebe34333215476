use Rattle.std.proofs.Common.{◌≡◌, ◌+◌, ◌-◌, ◌≤◌, ◌++◌, length, drop}
use Rattle.b_heap.specs.Shapes.{instance_shapes}
use Rattle.b_heap.proofs.shapes.instance_shapes.Given as goal

abbrev pub invariant-loop-field : goal.invariant-loop-field
invariant-loop-field l = record {
  made : l.shapes ++ instance_shapes (drop l.field-index l.fields) ≡ instance_shapes l.fields;
  few : length l.shapes ≤ l.field-index;
}
