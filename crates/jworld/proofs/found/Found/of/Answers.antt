use Rattle.jworld.proofs.Finding.{tells}
use Rattle.jworld.proofs.found.Found.of.Goals as goal

pub returns : goal.returns
returns c =
    tells c.args.file.now.fields c.args.file.now.methods c.in_ok-first_fields.field-0 c.in_ok-first_methods.field-0 c.in_ok-first_methods-2.field-0 c.in_ok-first_methods-3.field-0
    (rw c.fields.ensures at c.in_ok-first_fields.ensures) (rw c.methods.ensures at c.in_ok-first_methods.ensures) (rw c.methods-2.ensures at c.in_ok-first_methods-2.ensures)
    (rw c.methods-3.ensures at c.in_ok-first_methods-3.ensures)
