-- The numbers of a configuration are within their bounds.
use Rattle.std.proofs.Common.{◌≡◌, ◌≤◌, ℕ, true, List, Some, None, ap, subst, arith}
use Rattle.std.specs.Prelude.{unwrap_or, nat_le, ◌&&◌, if◌then◌else◌}
use Rattle.std.specs.Result.{result_ok}
use Rattle.std.proofs.lemmas.Bool.Decides.{nat_tests}
use Rattle.classfile.specs.Pool.{◌>>=◌}
use Rattle.kconfig.specs.declared.config.Config.{Config}
use Rattle.kconfig.specs.declared.config.DomainLine.{DomainLine}
use Rattle.kconfig.specs.declared.config.TaskLine.{TaskLine}
use Rattle.first_form.specs.Configuration.{configuration}
use Rattle.first_form.specs.declared.config.FirstConfig.{FirstConfig}
use Rattle.first_form.specs.Config.{only, has_no_more, activates_first, are_bounded, config_with, config_of}
use Rattle.first_form.specs.Fits.{config_in}
use Rattle.first_form.proofs.Headline.Inversion.{both_true, if_some, bind_some}

pub record NumbersFit (config : FirstConfig) : Type 0 where
  pub heap : config.heap ≤ 8388608
  pub priority : config.priority ≤ 63
  pub at_least_one : 1 ≤ config.activations
  pub activations : config.activations ≤ 15

bounds : (domain : DomainLine) (task : TaskLine) → are_bounded domain task ≡ true → (domain.heap ≤ 8388608) × (task.prio ≤ 63) × (1 ≤ task.acts) × (task.acts ≤ 15)
bounds domain task e =
    let all = both_true (nat_le domain.heap 8388608 && nat_le task.prio 63 && nat_le 1 task.acts) (nat_le task.acts 15) e in
    let three = both_true (nat_le domain.heap 8388608 && nat_le task.prio 63) (nat_le 1 task.acts) all.0 in
    let two = both_true (nat_le domain.heap 8388608) (nat_le task.prio 63) three.0 in
    (grind (arith, nat_tests, two.0), grind (arith, nat_tests, two.1), grind (arith, nat_tests, three.1), grind (arith, nat_tests, all.1))

of_fits : (c : Config) (config : FirstConfig) → config_of c ≡ Some config → NumbersFit config
unfolding config_of
of_fits c config e =
    let domain = bind_some (λ domain. only c.tasks >>= λ task. only c.natives >>= λ native. if has_no_more c && activates_first native.service && are_bounded domain task then Some (config_with c.keso.big domain task native) else None) (only c.domains) config e in
    let task = bind_some (λ task. only c.natives >>= λ native. if has_no_more c && activates_first native.service && are_bounded domain.0 task then Some (config_with c.keso.big domain.0 task native) else None) (only c.tasks) config domain.2 in
    let native = bind_some (λ native. if has_no_more c && activates_first native.service && are_bounded domain.0 task.0 then Some (config_with c.keso.big domain.0 task.0 native) else None) (only c.natives) config task.2 in
    let passes = if_some (has_no_more c && activates_first native.0.service && are_bounded domain.0 task.0) (Some (config_with c.keso.big domain.0 task.0 native.0)) config native.2 in
    let all = both_true (has_no_more c && activates_first native.0.service) (are_bounded domain.0 task.0) passes.0 in
    let fit = bounds domain.0 task.0 all.1 in
    subst NumbersFit (ap (λ o. unwrap_or o config) passes.1) (record { heap = fit.0; priority = fit.1; at_least_one = fit.2; activations = fit.3 })

pub numbers_fit : (text : List ℕ) (config : FirstConfig) → config_in text ≡ Some config → NumbersFit config
numbers_fit text config e = let c = bind_some config_of (result_ok (configuration text)) config e in of_fits c.0 config c.2
