use Rattle.std.proofs.Common.{◌≡◌, ◌<◌, ◌+◌, ℕ, Option, List, length, get_or, set, map, nat_eq, if◌then◌else◌, sym, ap, ◌∙◌, arith}
use Rattle.std.specs.List.{range_with_len}
use Rattle.osek_core.specs.declared.tables.CounterRule.{CounterRule}
use Rattle.osek_core.specs.Kernel.Clock.{Clock, advance, no_counter}
use Rattle.osek_time.specs.declared.time.Countdown.{Countdown}
use Rattle.osek_time.specs.Value.{Timed}
use Rattle.osek_time.specs.Kept.{shown, timed}
use Rattle.osek_time.proofs.Alarms.{after-tick, tick-view, written-over, read-at}
use Rattle.osek_time.proofs.time.Time.tick.Goals as goal

pub returns-clause-state : goal.returns-clause-state
returns-clause-state c =
    let i = c.self.invariant in
    let f = c.self.inside in
    let rules = f.rules.items in
    let alarms = f.alarms.items in
    let values = f.values.items in
    let armed = f.armed.items in
    let counter = c.args.counter in
    let there : counter < length rules = rw (← c.self.view_is) at c.requires in
    let rule = read-at rules counter c.index-rule.result.now no_counter there c.index-rule.ensures in
    let value = read-at values counter c.index-value.result.now 0 (omega (arith, there, i.each_counter)) c.index-value.ensures in
    let next = c.next.ensures.next ∙ ap (λ (r : CounterRule). if nat_eq c.index-value.result.now r.max then 0 else c.index-value.result.now + 1) rule
    ∙ ap (λ n. if nat_eq n (get_or rules counter no_counter).max then 0 else n + 1) value in
    let long : length c.count_down.new.armed ≡ f.armed.len = c.count_down.ensures.length ∙ ap length c.deref_mut.ensures.value ∙ sym f.armed.ok.0 in
    let over = written-over f.armed.len armed c.count_down.new.armed long in
    let down : map shown c.count_down.new.armed ≡ map (after-tick alarms counter armed) (range_with_len 0 (length armed)) =
    c.count_down.ensures.alarms ∙ ap (λ (a : List ℕ). map (after-tick a counter c.deref_mut.result.now) (range_with_len 0 (length c.deref_mut.result.now))) c.deref-3.ensures.value
    ∙ ap (λ (a : List (Option Countdown)). map (after-tick alarms counter a) (range_with_len 0 (length a))) c.deref_mut.ensures.value in
    ap (timed rules alarms (set values counter c.next.result)) over
    ∙ ap (λ (k : Clock). let v : Timed = record { rules = record { counters = rules; alarms = alarms }; clock = k } in v) (tick-view rules alarms values armed c.count_down.new.armed counter c.next.result next down)
    ∙ ap (λ (v : Timed). record v { clock = advance v.rules v.clock counter }) c.self.view_is
