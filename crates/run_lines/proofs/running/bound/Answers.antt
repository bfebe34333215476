-- The configuration that was read is sound, and it is the one that is bound.
use Rattle.std.proofs.Common.{sym, subst}
use Rattle.kconfig.specs.Sound.{IsSound}
use Rattle.run_input.proofs.Inputs.{config_is}
use Rattle.run_lines.proofs.running.bound.Goals as goal

pub returns : goal.returns
returns c = subst IsSound (sym (config_is c.args.world.now c.in_ok-config.config c.in_ok-bound.bound (sym c.in_ok-bound.ensures.says))) c.in_ok-config.ensures.sound
