use Rattle.std.proofs.Common.{◌≡◌, ◌≤◌, ℕ, Bool, false, true, true≢false, ◌&&◌, not, if◌then◌else◌, [], length, map, refl, sym, ap, ◌∙◌, subst, arith}
use Rattle.osek_core.specs.declared.event.Event.TheVariants.{Lost}
use Rattle.osek_core.specs.declared.tables.Tables.{Tables}
use Rattle.osek_core.specs.Kernel.Clock.{clock_rules_of}
use Rattle.osek_core.specs.Kernel.System.{System, SystemTicked, tick_system}
use Rattle.osek_core.specs.Kernel.Tick.{tick}
use Rattle.osek_model.specs.Value.{Planned}
use Rattle.osek_model.proofs.Ticks.{advance-length}
use Rattle.system.specs.Lost.{lost_alarms}
use Rattle.system.specs.Value.{PlannedSystem}
use Rattle.system.proofs.LostAlarms.{none-lost, tick-lost}
use Rattle.system.proofs.system.System.tick.Goals as goal

ticked : (t rest : SystemTicked) (runs : Bool) → runs ≡ true → t.events ≡ (if runs then t else rest).events
ticked t rest true e = refl
ticked t rest false e = absurd (true≢false (sym e))

rested : (t rest : SystemTicked) (runs : Bool) → runs ≡ false → rest.events ≡ (if runs then t else rest).events
rested t rest false e = refl
rested t rest true e = absurd (true≢false e)

when-running : (tables : Tables) (y : System) (counter : ℕ) → y.started && not y.kernel.shut ≡ true →
    map Lost (tick tables y.kernel counter).lost ≡ (tick_system tables y counter).events
when-running tables y counter e =
    ticked (record { system = record y { kernel = (tick tables y.kernel counter).kernel }; events = map Lost (tick tables y.kernel counter).lost })
    (record { system = y; events = [] }) (y.started && not y.kernel.shut) e

when-resting : (tables : Tables) (y : System) (counter : ℕ) → y.started && not y.kernel.shut ≡ false → map Lost (lost_alarms 0) ≡ (tick_system tables y counter).events
when-resting tables y counter e =
    ap (λ l. map Lost l) none-lost
    ∙ rested (record { system = record y { kernel = (tick tables y.kernel counter).kernel }; events = map Lost (tick tables y.kernel counter).lost })
    (record { system = y; events = [] }) (y.started && not y.kernel.shut) e

starts : (started shut : Bool) → started && not shut ≡ true → started ≡ false → ⊥
starts true shut e f = true≢false f
starts false shut e f = true≢false (sym e)

pub invariant_of-self : goal.invariant_of-self
invariant_of-self c =
    let i = c.self.invariant in
    let k = c.self.inside.kernel in
    let state = c.tick.ensures.state i.tables i.plan in
    record {
      tables = i.tables;
      plan = i.plan ∙ sym c.tick.ensures.plan;
      few = subst (λ (x : Planned). length x.kernel.clock.alarms ≤ 64) (sym state) (omega (arith, i.few, advance-length (clock_rules_of i.tables) k.kernel.clock c.args.counter));
      idle = λ e _. absurd (starts _ _ (sym c.is_running.ensures ∙ c.if-not-is_running.false) (ap (λ (x : PlannedSystem). x.system.started) (sym c.self.view_is) ∙ e));
    }

pub returns-clause-lost : goal.returns-clause-lost
returns-clause-lost c tables e =
    let i = c.self.invariant in
    let k = c.self.inside.kernel.kernel in
    let counter = c.args.counter in
    ap (λ s. map Lost (lost_alarms s)) (c.tick.ensures.lost tables (e ∙ ap (λ (x : PlannedSystem). x.plan) (sym c.self.view_is)))
    ∙ ap (λ l. map Lost l) (tick-lost tables k counter i.few)
    ∙ ap (λ (x : PlannedSystem). map Lost (tick tables x.system.kernel counter).lost) c.self.view_is
    ∙ when-running tables c.args.self.now.system counter (sym c.is_running.ensures ∙ c.if-not-is_running.false)

pub returns-then-not-is_running-clause-lost : goal.returns-then-not-is_running-clause-lost
returns-then-not-is_running-clause-lost c tables e = when-resting tables c.args.self.now.system c.args.counter (sym c.is_running.ensures ∙ c.if-not-is_running.true)
