use Rattle.std.proofs.Common.{ℕ, List, ap, ◌∙◌, position, bytes_eq}
use Rattle.kconfig.specs.declared.config.CellLine.{CellLine}
use Rattle.kbind.specs.Cells.{cell_parts}
use Rattle.kbind.proofs.Placing.{position_of_map}
use Rattle.kbind.proofs.mapped.Cells.first_of.Goals as goal

pub returns : goal.returns
returns c =
    let class : List ℕ = c.args.class.now in
    rw (← c.self.view_is)
    (c.first.ensures.place ∙ ap (λ (words : List (List ℕ)). position (bytes_eq class) words) c.self.invariant.classes ∙ position_of_map (bytes_eq class) (λ (line : CellLine). (cell_parts line.field).0) c.self.inside.lines.now)
