use Rattle.std.proofs.Common.{◌≤◌, replicate, length, sym, ap, ◌∙◌, subst, arith, All}
use Rattle.osek_core.specs.Kernel.Scheduler.{idle}
use Rattle.osek_core.proofs.Scheduling.{first-sound, first-view}
use Rattle.osek_core.specs.Tables.Limits.{IsTaskRule}
use Rattle.osek_core.proofs.scheduler.Core.new.Goals as goal

pub invariant_of-result : goal.invariant_of-result
invariant_of-result c =
    let controls = c.in_ok-controls.ensures.items_if_clones_equal (λ y e. e) in
    let rules = c.in_ok-rules.ensures.items in
    let ceilings = c.in_ok-ceilings.ensures.items in
    first-sound c.in_ok-rules.rules.items c.in_ok-ceilings.ceilings.items _ _ _ _ _
    (controls ∙ ap (λ n. replicate n idle) (ap length (sym rules))) c.in_ok-jobs.ensures.items c.in_ok-holdings.ensures.items
    (let h = c.requires.tasks in omega (arith, ap length rules, h)) (subst (All IsTaskRule) (sym rules) c.requires.rules) (subst (All (λ ceiling. ceiling ≤ 63)) (sym ceilings) c.requires.priorities)
    (let h = c.in_ok-jobs.ensures.capacity in omega (arith, h, ap length rules)) (let h = c.in_ok-holdings.ensures.capacity in omega (arith, h, ap length ceilings))

pub returns-clause-idle : goal.returns-clause-idle
returns-clause-idle c =
    let controls = c.in_ok-controls.ensures.items_if_clones_equal (λ y e. e) in
    let rules = c.in_ok-rules.ensures.items in
    first-view c.in_ok-rules.rules.items c.in_ok-ceilings.ceilings.items _ _ _
    (controls ∙ ap (λ n. replicate n idle) (ap length (sym rules))) c.in_ok-jobs.ensures.items c.in_ok-holdings.ensures.items
