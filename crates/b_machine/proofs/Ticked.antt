-- A tick of a counter, whose application declares it.
use Rattle.std.proofs.Common.{◌≡◌, ◌<◌, ℕ, List, length, map, refl, sym, ap, subst, ◌∙◌, arith, None}
use Rattle.std.proofs.lemmas.List.{length-map}
use Rattle.osek_core.specs.declared.event.Event.TheVariants.{Lost}
use Rattle.osek_core.specs.declared.tables.CounterRow.{CounterRow}
use Rattle.osek_core.specs.Kernel.System.{System, tick_system}
use Rattle.osek_model.specs.Plan.{Plan, plan_of}
use Rattle.kconfig.specs.declared.config.Config.{Config}
use Rattle.kconfig.specs.declared.config.CounterLine.{CounterLine}
use Rattle.kconfig.specs.Tables.{tables_of, counter_row}
use Rattle.system.specs.Lost.{lost_alarms}
use Rattle.b_machine.specs.Application.{Application, tables}
use Rattle.b_machine.specs.State.{State}
use Rattle.b_machine.specs.Moves.{Machine, IsMoved}
use Rattle.b_machine.specs.Shown.{Planned, with_system}
use Rattle.b_machine.specs.Trace.{tick_move}

many : (config : Config) → length (plan_of (tables_of config)).clock.counters ≡ length config.counters
many config = length-map (map counter_row config.counters) (λ (row : CounterRow). row.rule) ∙ length-map config.counters counter_row

pub is_there : (config : Config) (plan : Plan) (counter : ℕ) → plan ≡ plan_of (tables_of config) → counter < length config.counters → counter < length plan.clock.counters
is_there config plan counter same there = subst (λ (p : Plan). counter < length p.clock.counters) (sym same) (let n = many config in omega (n, there, arith))

pub ticked : (m : Machine) (s left : Planned) (counter lost : ℕ) → s.shared ≡ m.state.shared
    → left ≡ with_system s (tick_system (tables m.app) s.shared.system counter).system → map Lost (lost_alarms lost) ≡ (tick_system (tables m.app) s.shared.system counter).events
    → IsMoved (tick_move m.app m.state counter) m (record { event = None; lost = lost; weight = 0 }) (record { app = m.app; state = record m.state { shared = left.shared } })
ticked m s left counter lost same state events =
    subst (λ x. IsMoved (tick_move m.app (record m.state { shared = x }) counter) m (record { event = None; lost = lost; weight = 0 }) (record { app = m.app; state = record m.state { shared = left.shared } })) same
    (record { app = refl; state = ap (λ (x : Planned). record m.state { shared = x.shared }) state; weight = refl; events = events })
