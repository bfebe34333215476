-- The lines are those of the application, which has the input's configuration.
use Rattle.std.proofs.Common.{sym, subst}
use Rattle.std.specs.Prelude.{All}
use Rattle.kbind.specs.declared.bound.Bound.{Bound}
use Rattle.run_names.specs.Objects.{names_of}
use Rattle.script.specs.InForm.{IsLine}
use Rattle.run_lines.proofs.running.run.Goals as goal

pub put-requires-clause-lines : goal.put-requires-clause-lines
put-requires-clause-lines c = subst (λ (bound : Bound). All (IsLine (names_of bound.config)) c.in_ok-said.said.lines.items) (sym c.in_ok-program.ensures) c.in_ok-said.ensures.lines
