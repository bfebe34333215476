use Rattle.std.proofs.Common.{◌≡◌, ◌-◌}
use Rattle.std.specs.List.{flat_map, range_with_len}
use Rattle.jworld.specs.Members.{fields_of}
use Rattle.b_heap.specs.Statics.{first_values}
use Rattle.b_heap.proofs.statics.Statics.new.Given as goal

abbrev pub invariant-loop-n : goal.invariant-loop-n
invariant-loop-n l = l.values ≡ flat_map (λ class. first_values (fields_of l.world class)) (range_with_len 0 l.n)
