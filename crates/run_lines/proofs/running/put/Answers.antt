-- The moves of the lines are those of the application.
use Rattle.std.proofs.Common.{List, sym, subst}
use Rattle.std.specs.Prelude.{All}
use Rattle.b_machine.specs.Trace.{IsMove}
use Rattle.script.specs.declared.line.Line.{Line}
use Rattle.run_input.proofs.Inputs.{are_moves}
use Rattle.run_lines.proofs.running.put.Goals as goal

pub trace-requires-clause-moves : goal.trace-requires-clause-moves
trace-requires-clause-moves c =
    let app = c.args.program in
    subst (λ (lines : List Line). All (λ line. IsMove app line.step) lines) (sym c.as_slice.ensures.value) (are_moves app c.args.said.now.lines.items c.requires.lines)
