-- The texts are those of what was made of the input, or why it was refused.
use Rattle.std.proofs.Common.{refl, map, string_bytes}
use Rattle.std.proofs.lemmas.Result.{err_from_is_err_and}
use Rattle.keso_cli.proofs.Refusing.{is_accepted, comes_later, input_stops}
use Rattle.keso_cli.proofs.compile.compile.Goals as goal

pub returns-in-None-clause-stop : goal.returns-in-None-clause-stop
returns-in-None-clause-stop c =
    (refl, comes_later c.args.config.now (map (λ file. file.items) c.args.files.now) c.in_ok-input.input.bound c.in_ok-input.input.world c.in_ok-input.ensures.ok (rw c.in-None.is at c.in_ok-texts.ensures))

pub returns-in-Some-clause-texts : goal.returns-in-Some-clause-texts
returns-in-Some-clause-texts c =
    let made = rw c.in-Some.is at c.in_ok-texts.ensures in
    (made.0, made.1, is_accepted c.args.config.now (map (λ file. file.items) c.args.files.now) c.in_ok-input.input.bound c.in_ok-input.input.world made.0 made.1 c.in_ok-input.ensures.ok made.2, made.3)

pub returns-in_err-input-clause-stop : goal.returns-in_err-input-clause-stop
returns-in_err-input-clause-stop c =
    let p = err_from_is_err_and c.from_residual.result c.from_residual.ensures.1 in
    rw (p.1, p.2)
    (input_stops _ c.args.names.config.now (map string_bytes c.args.names.classes.now) c.args.config.now (map (λ file. file.items) c.args.files.now) c.in_err-input.ensures.stop)
