use Rattle.std.proofs.Common.{is_some, ap, ◌∙◌}
use Rattle.kbind.specs.Cells.{is_cell_of}
use Rattle.kbind.proofs.Searching.{any_found}
use Rattle.kbind.proofs.objects.has_cell.Goals as goal

pub returns : goal.returns
returns c = c.is_some.ensures ∙ ap is_some c.first_of.ensures ∙ any_found (is_cell_of c.args.class.now) c.args.cells.now
