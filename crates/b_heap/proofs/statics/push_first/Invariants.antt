use Rattle.std.proofs.Common.{◌≡◌, ◌+◌, ◌-◌, ◌++◌, drop}
use Rattle.b_heap.specs.Statics.{first_values}
use Rattle.b_heap.proofs.statics.push_first.Given as goal

abbrev pub invariant-loop-field : goal.invariant-loop-field
invariant-loop-field l = l.values ++ first_values (drop l.field-index l.fields) ≡ l.initial.values ++ first_values l.fields
