use Rattle.std.proofs.Common.{Some, ap, ◌∙◌}
use Rattle.std.proofs.lemmas.List.{map-set}
use Rattle.osek_core.specs.Kernel.Clock.{set_alarm}
use Rattle.osek_time.specs.Value.{Timed}
use Rattle.osek_time.specs.Kept.{shown}
use Rattle.osek_time.proofs.time.Time.arm.Goals as goal

pub returns : goal.returns
returns c =
    let f = c.self.inside in
    ap (λ armed'. let v : Timed = record { rules = record { counters = f.rules.items; alarms = f.alarms.items }; clock = record { counters = f.values.items; alarms = armed' } } in v)
    (map-set shown f.armed.items c.args.alarm (Some (record { ticks = c.args.ticks; cycle = c.args.cycle })))
    ∙ ap (λ (v : Timed). record v { clock = set_alarm v.clock c.args.alarm (Some (record { ticks = c.args.ticks; cycle = c.args.cycle })) }) c.self.view_is
