-- A command has at most as many classes as may be.
use Rattle.std.proofs.Common.{map, string_bytes, Some, sym, ap, ◌∙◌, arith}
use Rattle.std.specs.Option.{option_map}
use Rattle.std.proofs.lemmas.List.{length-map}
use Rattle.keso_cli.specs.Asked.{asked}
use Rattle.keso_cli.proofs.WordLemmas.{few_classes, few_traced}
use Rattle.keso_cli.proofs.top.perform.Goals as goal

pub build-requires : goal.build-requires
build-requires g c =
    let names = c.in-Some-Build.names in
    let many = length-map names.inputs.classes.now string_bytes in
    let few = few_classes (map string_bytes c.args.words.now) names.inputs.config.now names.base.now (map string_bytes names.inputs.classes.now)
    (sym c.command_of.ensures ∙ ap (option_map asked) (c.in-Some-Build.is ∙ ap Some c.in-Some-Build.field-0-is)) in
    omega (many, few, arith)

pub trace-requires : goal.trace-requires
trace-requires g c =
    let names = c.in-Some-Trace.names in
    let many = length-map names.inputs.classes.now string_bytes in
    let few = few_traced (map string_bytes c.args.words.now) names.inputs.config.now names.script.now (map string_bytes names.inputs.classes.now)
    (sym c.command_of.ensures ∙ ap (option_map asked) (c.in-Some-Trace.is ∙ ap Some c.in-Some-Trace.field-0-is)) in
    omega (many, few, arith)
