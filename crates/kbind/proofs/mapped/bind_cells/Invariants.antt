use Rattle.std.proofs.Common.{◌≡◌, ◌++◌, drop}
use Rattle.std.specs.List.{filter_map}
use Rattle.kbind.specs.Cells.{cell_named}
use Rattle.kbind.specs.Bound.{cell_faults}
use Rattle.kbind.proofs.mapped.bind_cells.Given as goal

abbrev pub invariant-loop-n : goal.invariant-loop-n
invariant-loop-n l = record {
  members : l.members ++ filter_map (cell_named l.classes) (drop l.n l.line-items) ≡ filter_map (cell_named l.classes) l.line-items;
  faults : l.faults ++ cell_faults l.classes l.cells l.n (drop l.n l.line-items) ≡ l.initial.faults ++ cell_faults l.classes l.cells 0 l.line-items;
}
