use Rattle.std.proofs.Common.{◌≡◌, drop}
use Rattle.std.specs.List.{list_all}
use Rattle.kbind.specs.Cells.{has_cell}
use Rattle.kbind.proofs.mapped.have_cells.Given as goal

abbrev pub invariant-loop-field : goal.invariant-loop-field
invariant-loop-field l = list_all (has_cell l.cells l.class) (drop l.field-index l.fields) ≡ list_all (has_cell l.cells l.class) l.fields
