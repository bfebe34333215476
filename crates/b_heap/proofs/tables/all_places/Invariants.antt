use Rattle.std.proofs.Common.{◌≡◌, ◌-◌, ◌*◌, ◌≤◌, map}
use Rattle.std.specs.List.{range_with_len}
use Rattle.b_heap.specs.Places.{statics_before}
use Rattle.b_heap.specs.Rows.{row_of}
use Rattle.b_heap.proofs.tables.all_places.Given as goal

abbrev pub invariant-loop-n : goal.invariant-loop-n
invariant-loop-n l = record {
  rows : l.rows ≡ map (row_of l.world) (range_with_len 0 l.n);
  statics : l.statics ≡ statics_before l.world l.n;
  few : l.statics ≤ 65536 * l.n;
}
