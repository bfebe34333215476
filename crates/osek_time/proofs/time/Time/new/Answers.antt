use Rattle.std.proofs.Common.{rules, Option, List, length, replicate, ap, ◌∙◌}
use Rattle.osek_core.specs.Kernel.Clock.{Clock, Armed}
use Rattle.osek_time.specs.Kept.{clock_of}
use Rattle.osek_time.proofs.Alarms.{shown-none}
use Rattle.osek_time.proofs.time.Time.new.Goals as goal

pub returns-clause-idle : goal.returns-clause-idle
returns-clause-idle c =
    let values = c.in_ok-values.ensures.items_if_clones_equal (λ y e. e) in
    let armed = c.in_ok-armed.ensures.items_if_clones_equal (λ y e. search rules) in
    ap (λ vs. clock_of vs c.in_ok-armed.armed.items) values
    ∙ ap (clock_of (replicate (length c.args.counters.now) 0)) armed
    ∙ ap (λ (a : List (Option Armed)). let k : Clock = record { counters = replicate (length c.args.counters.now) 0; alarms = a } in k) (shown-none (length c.args.alarms.now))
