use Rattle.std.proofs.Common.{◌≡◌, ◌++◌, map, reverse}
use Rattle.std.specs.List.{flat_map}
use Rattle.values.specs.Values.{zero_of}
use Rattle.jworld.proofs.Walking.{number}
use Rattle.b_heap.specs.Objects.{own_shapes}
use Rattle.b_heap.proofs.fields.Fields.zeros_down.Given as goal

abbrev pub invariant-loop-class : goal.invariant-loop-class
invariant-loop-class l =
    l.values ++ map zero_of (flat_map (own_shapes l.self) (map number (reverse l.class-iterator.iter.rest.now)))
    ≡ map zero_of (flat_map (own_shapes l.self) (map number (reverse l.classes)))
