use Rattle.std.proofs.Common.{◌≡◌, ◌++◌, map, take}
use Rattle.values.specs.Values.{zero_of}
use Rattle.b_heap.proofs.fields.push_zeros.Given as goal

abbrev pub invariant-loop-shape : goal.invariant-loop-shape
invariant-loop-shape l = l.values ≡ l.initial.values ++ map zero_of (take l.shape-index l.shapes)
