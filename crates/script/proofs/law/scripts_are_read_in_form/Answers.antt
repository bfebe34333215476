use Rattle.script.proofs.ReadForm.{in_form}
use Rattle.script.proofs.law.scripts_are_read_in_form.Goals as goal

pub returns : goal.returns
returns c = in_form
