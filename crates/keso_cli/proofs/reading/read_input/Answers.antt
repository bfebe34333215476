-- The input is taken, or its first fault stops the build.
use Rattle.std.proofs.Common.{map, Result, sym, ap, subst, ◌∙◌}
use Rattle.std.proofs.lemmas.Result.{err_from_is_err_and}
use Rattle.kconfig.specs.Sound.{IsSound}
use Rattle.kes_text.specs.declared.refusal.Stop.{Stop}
use Rattle.reach.specs.declared.reached.Reached.{Reached}
use Rattle.run_input.proofs.Inputs.{config_is}
use Rattle.keso_cli.specs.Refusals.{reached_fault}
use Rattle.keso_cli.proofs.Refusing.{config_stops, classes_stop, world_stops, binding_stops, are_bound, reach_stops}
use Rattle.keso_cli.proofs.reading.read_input.Goals as goal

pub returns-in_err-config-clause-stop : goal.returns-in_err-config-clause-stop
returns-in_err-config-clause-stop c =
    let p = err_from_is_err_and c.from_residual.result c.from_residual.ensures.1 in
    rw (p.1, p.2) (config_stops _ c.args.names.config.now _ c.args.config.now _ c.in_err-config.ensures.stop)

pub returns-in_err-classes-clause-stop : goal.returns-in_err-classes-clause-stop
returns-in_err-classes-clause-stop c =
    let p = err_from_is_err_and c.from_residual-in_err-classes.result c.from_residual-in_err-classes.ensures.1 in
    rw (p.1, p.2) (classes_stop _ c.args.names.config.now _ c.args.config.now _ _ c.in_ok-config.ensures.ok c.in_err-classes.ensures.stop)

pub returns-in_err-world-clause-stop : goal.returns-in_err-world-clause-stop
returns-in_err-world-clause-stop c =
    let p = err_from_is_err_and c.from_residual-in_err-world.result c.from_residual-in_err-world.ensures.1 in
    rw (p.1, p.2) (world_stops _ c.args.names.config.now _ c.args.config.now _ _ _ c.in_ok-config.ensures.ok c.in_ok-classes.ensures.ok c.in_err-world.ensures.stop)

pub returns-in_err-input-clause-stop : goal.returns-in_err-input-clause-stop
returns-in_err-input-clause-stop c =
    let p = err_from_is_err_and c.from_residual-in_err-input.result c.from_residual-in_err-input.ensures.1 in
    let stop = rw c.in_ok-world.ensures.same at c.in_err-input.ensures.stop in
    rw (p.1, p.2) (binding_stops _ c.args.names.config.now _ c.args.config.now _ _ _ c.in_ok-config.ensures.ok c.in_ok-classes.ensures.ok c.in_ok-world.ensures.ok stop)

pub returns-in_err-reached-clause-stop : goal.returns-in_err-reached-clause-stop
returns-in_err-reached-clause-stop c =
    let p = err_from_is_err_and c.from_residual-in_err-reached.result c.from_residual-in_err-reached.ensures.1 in
    let input = c.in_ok-input.input in
    let bound = rw (← c.in_ok-input.ensures.same) at c.in_ok-input.ensures.ok in
    rw (p.1, p.2)
    (reach_stops _ c.args.names.config.now _ c.args.config.now (map (λ file. file.items) c.args.files.now) input.bound input.world
    (are_bound c.args.config.now (map (λ file. file.items) c.args.files.now) c.in_ok-config.config c.in_ok-classes.classes input.world input.bound c.in_ok-config.ensures.ok c.in_ok-classes.ensures.ok c.in_ok-world.ensures.ok (c.in_ok-input.ensures.same ∙ c.in_ok-world.ensures.same) bound)
    (c.in_err-reached.ensures.stop))

pub returns-clause-ok : goal.returns-clause-ok
returns-clause-ok c =
    let input = c.in_ok-input.input in
    let bound = rw (← c.in_ok-input.ensures.same) at c.in_ok-input.ensures.ok in
    record {
      bound_to = are_bound c.args.config.now (map (λ file. file.items) c.args.files.now) c.in_ok-config.config c.in_ok-classes.classes input.world input.bound c.in_ok-config.ensures.ok c.in_ok-classes.ensures.ok c.in_ok-world.ensures.ok (c.in_ok-input.ensures.same ∙ c.in_ok-world.ensures.same) bound;
      are_reached = ap (λ (answer : Result Reached Stop). reached_fault answer) c.in_ok-reached.ensures.ok;
    }

pub returns-clause-sound : goal.returns-clause-sound
returns-clause-sound c =
    let input = c.in_ok-input.input in
    let bound = rw (← c.in_ok-input.ensures.same) at c.in_ok-input.ensures.ok in
    subst IsSound (sym (config_is input.world c.in_ok-config.config input.bound bound)) c.in_ok-config.ensures.sound
