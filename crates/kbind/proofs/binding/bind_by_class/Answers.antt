use Rattle.std.proofs.Common.{List, ap, ◌∙◌, ◌++◌}
use Rattle.std.specs.List.{filter_map}
use Rattle.kconfig.specs.declared.config.TaskLine.{TaskLine}
use Rattle.kconfig.specs.declared.config.CellLine.{CellLine}
use Rattle.kconfig.specs.declared.config.ObjectLine.{ObjectLine}
use Rattle.kbind.specs.Cells.{cell_named}
use Rattle.kbind.specs.Objects.{object_class}
use Rattle.kbind.specs.Bound.{entry_of, entry_faults, cell_faults, object_faults, class_faults}
use Rattle.kbind.proofs.Joining.{three}
use Rattle.kbind.proofs.binding.bind_by_class.Goals as goal

pub returns-clause-entries : goal.returns-clause-entries
returns-clause-entries c = c.in_ok-entries.ensures.members ∙ ap (filter_map (entry_of c.args.classes.now)) c.as_slice.ensures

pub returns-clause-cells : goal.returns-clause-cells
returns-clause-cells c = c.in_ok-cells.ensures.members ∙ ap (filter_map (cell_named c.args.classes.now)) c.requires

pub returns-clause-objects : goal.returns-clause-objects
returns-clause-objects c = c.in_ok-objects.ensures.members ∙ ap (filter_map (object_class c.args.classes.now)) c.as_slice-2.ensures

pub returns-clause-faults : goal.returns-clause-faults
unfolding class_faults
returns-clause-faults c =
    let files = c.args.classes.now in
    let size = c.args.config.now.devices.size in
    let none = c.args.faults.now in
    let entries = c.bind_entries.new.faults in
    let cells = c.bind_cells.new.faults in
    three none entries cells c.bind_objects.new.faults _ _ _
    (c.in_ok-entries.ensures.faults ∙ ap (λ (lines : List TaskLine). none ++ entry_faults files lines) c.as_slice.ensures)
    (c.in_ok-cells.ensures.faults ∙ ap (λ (lines : List CellLine). entries ++ cell_faults files lines 0 lines) c.requires)
    (c.in_ok-objects.ensures.faults ∙ ap (λ (lines : List CellLine). cells ++ object_faults size lines c.as_slice-2.result.now 0 c.as_slice-2.result.now) c.requires
    ∙ ap (λ (lines : List ObjectLine). cells ++ object_faults size c.args.config.now.cells lines 0 lines) c.as_slice-2.ensures)
