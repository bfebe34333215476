use Rattle.std.proofs.Common.{Bool, List, is_some, ap, ◌∙◌, ◌++◌}
use Rattle.std.specs.List.{filter_map}
use Rattle.kes_text.specs.declared.refusal.Kind.TheVariants as kind
use Rattle.kconfig.specs.declared.config.CellLine.{CellLine}
use Rattle.kbind.specs.Cells.{cell_named}
use Rattle.kbind.specs.Bound.{unless, cell_faults}
use Rattle.kbind.proofs.Lines.{member_more, all_members, cell_fault_more, all_cell_faults}
use Rattle.kbind.proofs.mapped.bind_cells.Goals as goal

pub loop-n-preserved : goal.loop-n-preserved
loop-n-preserved c =
    let line = c.line-item.result in
    record {
      members = member_more (cell_named c.args.classes.now) c.lines-line-items.result.now c.loop-n.n line c.cell_named-found.result c.loop-n.members c.keep.new.members _ c.loop-n-test.true c.line-item.is
          c.cell_named-found.ensures c.in_ok-keep.ensures c.loop-n.invariant.members;
      faults = cell_fault_more c.args.classes.now c.args.cells.now c.lines-line-items.result.now c.loop-n.n line _ c.loop-n.faults c.blame.new.faults _ c.loop-n-test.true c.line-item.is
          (ap (λ (b : Bool). unless b kind.BadMapped line.line) c.in_ok-holds.ensures) c.in_ok-blame.ensures c.loop-n.invariant.faults;
    }

pub returns-clause-members : goal.returns-clause-members
returns-clause-members c =
    all_members (cell_named c.args.classes.now) c.lines-line-items.result.now c.loop-n.n c.loop-n.members _ c.loop-n-test.false c.loop-n.invariant.members
    ∙ ap (filter_map (cell_named c.args.classes.now)) c.lines-line-items.ensures

pub returns-clause-faults : goal.returns-clause-faults
returns-clause-faults c =
    all_cell_faults c.args.classes.now c.args.cells.now c.lines-line-items.result.now c.loop-n.n c.loop-n.faults _ c.loop-n-test.false c.loop-n.invariant.faults
    ∙ ap (λ (lines : List CellLine). c.args.faults.now ++ cell_faults c.args.classes.now c.args.cells.now 0 lines) c.lines-line-items.ensures

pub cell_holds-requires : goal.cell_holds-requires
cell_holds-requires c = c.is_some.ensures ∙ ap is_some c.cell_named-found.ensures
