use Rattle.std.proofs.Common.{false, ◌||◌, get_or, Option, option_map, sym, ap, ◌∙◌}
use Rattle.jworld.specs.declared.ids.ClassId.{ClassId}
use Rattle.kbind.specs.Cells.{is_that}
use Rattle.kbind.proofs.Marking.{marked}
use Rattle.kbind.proofs.parents.mark.Goals as goal

pub returns-clause-marks : goal.returns-clause-marks
returns-clause-marks c = λ k.
    marked c.args.marks.now.items c.in-Some.class.n k (rw c.in-Some.is at c.requires)
    ∙ ap (λ (class : Option ClassId). is_that (option_map (λ (x : ClassId). x.n) class) k || get_or c.args.marks.now.items k false) (sym c.in-Some.is)
