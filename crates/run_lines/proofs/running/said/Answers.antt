-- The lines of a script that was read are in form.
use Rattle.std.proofs.Common.{subst}
use Rattle.std.specs.Prelude.{All}
use Rattle.script.specs.InForm.{IsLine}
use Rattle.script.specs.declared.names.Names.{Names}
use Rattle.script.proofs.ReadForm.{in_form}
use Rattle.run_lines.proofs.running.said.Goals as goal

pub returns : goal.returns
returns c = subst (λ (names : Names). All (IsLine names) c.in_ok-lines.lines.items) c.in_ok-names.ensures.names (in_form _ _ c.as_bytes.result.now _ c.in_ok-lines.ensures)
