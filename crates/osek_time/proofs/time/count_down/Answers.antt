use Rattle.std.proofs.Common.{◌≡◌, ◌<◌, ◌≤◌, None, Option, List, length, get_or, set, ap, ◌∙◌, arith, length-set, get_or-set_other}
use Rattle.osek_time.specs.declared.time.Countdown.{Countdown}
use Rattle.osek_time.specs.Kept.{shown}
use Rattle.osek_time.proofs.Alarms.{done-yes, done-no, all-down}
use Rattle.osek_time.proofs.time.count_down.Goals.{then-alarms-alarm, else-alarms-alarm}
use Rattle.osek_time.proofs.time.count_down.Goals as goal

pub loop-alarm-preserved : goal.loop-alarm-preserved
loop-alarm-preserved c =
    let old = c.args.armed.now in
    let before = c.loop-alarm.armed in
    let i = c.loop-alarm.alarm in
    let v = c.loop-alarm.invariant in
    let within : i < length before = omega (arith, v.long) in
    elim c.if-alarms-alarm.branch [
      | then-alarms-alarm w ↦
          let x = w.counted_down.result in
          let e : c.if-alarms-alarm.armed ≡ set before i x = w.armed-is in record {
            long = ap length e ∙ length-set before i x ∙ v.long;
            done = λ k l. ap (λ (a : List (Option Countdown)). shown (get_or a k None)) e
                ∙ done-yes c.args.alarms.now c.args.counter i old before x within v.done (v.left i (omega arith)) w.if-alarms-alarm.true w.counted_down.ensures k l;
            left = λ k l. ap (λ (a : List (Option Countdown)). get_or a k None) e ∙ get_or-set_other before i k x None (λ h. absurd (omega (arith, h, l))) ∙ v.left k (omega arith);
          }
      | else-alarms-alarm w ↦ let e : c.if-alarms-alarm.armed ≡ before = w.armed-is in record {
        long = ap length e ∙ v.long;
        done = λ k l. ap (λ (a : List (Option Countdown)). shown (get_or a k None)) e ∙ done-no c.args.alarms.now c.args.counter i old before v.done (v.left i (omega arith)) w.if-alarms-alarm.false k l;
        left = λ k l. ap (λ (a : List (Option Countdown)). get_or a k None) e ∙ v.left k (omega arith);
      }
    ]

pub returns-clause-alarms : goal.returns-clause-alarms
returns-clause-alarms c =
    let v = c.loop-alarm.invariant in
    let all : length c.loop-alarm.armed ≤ c.loop-alarm.alarm = omega (arith, v.long) in
    all-down c.args.alarms.now c.args.counter c.args.armed.now c.loop-alarm.armed v.long (λ k l. v.done k (omega (arith, all, l)))
