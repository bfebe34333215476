use Rattle.std.proofs.Common.{◌≡◌, ◌+◌, ◌-◌, ◌≤◌, ◌++◌, drop}
use Rattle.b_heap.specs.Rows.{places_from}
use Rattle.b_heap.proofs.places.places_from.Given as goal

abbrev pub invariant-loop-field : goal.invariant-loop-field
invariant-loop-field l = record {
  made : l.places ++ places_from l.before (drop l.field-index l.fields) ≡ places_from l.fn.before l.fields;
  slots : l.before.slots ≤ l.fn.before.slots + l.field-index;
  statics : l.before.statics ≤ l.fn.before.statics + l.field-index;
}
