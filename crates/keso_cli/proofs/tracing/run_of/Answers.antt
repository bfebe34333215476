-- What is reached has few methods, and the names are those of the application.
use Rattle.std.proofs.Common.{List, ℕ, sym, ap, ◌∙◌}
use Rattle.mentions.specs.Setting.{Setting}
use Rattle.osek_core.specs.Event.Text.{Names as EventNames}
use Rattle.script.specs.declared.names.Names.{Names}
use Rattle.script.specs.Names.{event_names}
use Rattle.run_names.specs.Objects.{names_of}
use Rattle.run_input.specs.Input.{shown_names}
use Rattle.keso_cli.proofs.RunsOf.{few_typed, same_methods}
use Rattle.keso_cli.proofs.tracing.run_of.Goals as goal

pub program_of-requires : goal.program_of-requires
program_of-requires c = few_typed (record { files = c.args.input.world; bound = c.args.input.bound }) c.args.input.reached c.requires.reached

pub returns-clause-run : goal.returns-clause-run
returns-clause-run c =
    let input = c.args.input in
    let s : Setting = record { files = input.world; bound = input.bound } in
    let shown : List (List ℕ) → EventNames = λ methods. record (event_names (names_of input.bound.config)) { methods = methods } in
    let names = rw c.as_slice-typed.ensures at c.in_ok-names.ensures in
    let program = c.in_ok-program.ensures in
    record {
      program = program;
      names = ap event_names names ∙ ap shown (same_methods s input.reached.typed) ∙ sym (ap shown_names program);
      counters = ap (λ (n : Names). n.counters) names;
      events = ap (λ (n : Names). n.events) names;
    }
