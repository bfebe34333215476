use Rattle.std.proofs.Common.{ap, ◌∙◌}
use Rattle.jworld.specs.Members.{fields_of}
use Rattle.kbind.specs.Named.{only_place}
use Rattle.kbind.proofs.Seeing.{only_is}
use Rattle.kbind.proofs.cells.only_field.Goals as goal

pub returns : goal.returns
returns c = c.only.ensures ∙ ap only_place c.field.ensures ∙ only_is c.args.name.now (fields_of c.args.classes.now c.args.class.n)
