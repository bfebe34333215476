use Rattle.std.proofs.Common.{ap, ◌∙◌}
use Rattle.kbind.specs.Cells.{is_field_of}
use Rattle.kbind.specs.Named.{seen_from}
use Rattle.kbind.proofs.Seeing.{no_fields, fields_are}
use Rattle.kbind.proofs.cells.fields_in.Goals as goal

pub returns-in_default : goal.returns-in_default
returns-in_default c = λ name. rw c.new.ensures (no_fields c.args.world.now name c.args.class.n c.in_default.ensures.file)

pub returns : goal.returns
returns c = λ name.
    c.in_ok-names.ensures name ∙ ap (seen_from (is_field_of name) 0) c.fields.ensures ∙ fields_are c.args.world.now name c.args.class.n c.in-Some.file.now c.in-Some.ensures.file
