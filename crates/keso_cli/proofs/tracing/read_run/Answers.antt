-- The run of an input that is taken, or why there is none.
use Rattle.std.proofs.Common.{map, string_bytes, sym, subst, ◌∙◌, List, All}
use Rattle.std.proofs.lemmas.Result.{err_from_is_err_and}
use Rattle.keso_cli.specs.TraceEnds.{trace_names}
use Rattle.b_machine.specs.Application.{Application}
use Rattle.b_machine.specs.Trace.{IsMove}
use Rattle.run_input.specs.Input.{application_of}
use Rattle.script.specs.declared.line.Line.{Line}
use Rattle.run_input.proofs.Inputs.{are_moves}
use Rattle.keso_cli.proofs.DeviceBytes.{has_few}
use Rattle.keso_cli.proofs.RunsOf.{lines_in_form}
use Rattle.keso_cli.proofs.Traces.{input_stops_run, script_stops_run, comes_later}
use Rattle.keso_cli.proofs.tracing.read_run.Goals as goal

pub returns-in_err-input-clause-stop : goal.returns-in_err-input-clause-stop
returns-in_err-input-clause-stop c =
    let p = err_from_is_err_and c.from_residual.result c.from_residual.ensures.1 in
    let names = trace_names c.args.asked.inputs.config.now c.args.asked.script.now (map string_bytes c.args.asked.inputs.classes.now) in
    rw (p.1, p.2) (input_stops_run _ names c.args.config.now c.args.script.now (map (λ file. file.items) c.args.files.now) c.in_err-input.ensures.stop)

pub script_in-requires-clause-small : goal.script_in-requires-clause-small
script_in-requires-clause-small c = has_few c.args.config.now _ c.in_ok-input.ensures.ok.bound_to.config_is

pub returns-in_err-lines-clause-stop : goal.returns-in_err-lines-clause-stop
returns-in_err-lines-clause-stop c =
    let p = err_from_is_err_and c.from_residual-in_err-lines.result c.from_residual-in_err-lines.ensures.1 in
    let names = trace_names c.args.asked.inputs.config.now c.args.asked.script.now (map string_bytes c.args.asked.inputs.classes.now) in
    rw (p.1, p.2)
    (script_stops_run _ names c.args.config.now c.args.script.now (map (λ file. file.items) c.args.files.now) c.in_ok-input.input.bound c.in_ok-input.input.world c.in_ok-input.ensures.ok c.in_err-lines.ensures.stop)

pub returns-then-not-is_traced-clause-stop : goal.returns-then-not-is_traced-clause-stop
returns-then-not-is_traced-clause-stop c =
    let names = trace_names c.args.asked.inputs.config.now c.args.asked.script.now (map string_bytes c.args.asked.inputs.classes.now) in
    comes_later names c.args.config.now c.args.script.now (map (λ file. file.items) c.args.files.now) c.in_ok-input.input.bound c.in_ok-input.input.world c.in_ok-lines.lines.items
    c.in_ok-input.ensures.ok c.in_ok-lines.ensures.ok (sym c.is_traced.ensures ∙ c.if-not-is_traced.true)

pub run_of-requires-clause-small : goal.run_of-requires-clause-small
run_of-requires-clause-small c = has_few c.args.config.now _ c.in_ok-input.ensures.ok.bound_to.config_is

pub returns-clause-moves : goal.returns-clause-moves
returns-clause-moves c =
    let run = c.in_ok-run_of.field-0 in
    let is = c.in_ok-run_of.ensures.run in
    let input = c.in_ok-input.input in
    let lines = c.in_ok-lines.lines.items in
    let app = application_of input.world input.bound input.reached in
    subst (λ (a : Application). All (λ line. IsMove a line.step) run.lines.items) (sym is.program)
    (subst (λ (ls : List Line). All (λ line. IsMove app line.step) ls) (sym c.in_ok-run_of.ensures.lines) (are_moves app lines (lines_in_form input.bound.config c.args.script.now lines c.in_ok-lines.ensures.ok)))
