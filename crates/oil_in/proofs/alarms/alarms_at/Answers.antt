use Rattle.std.proofs.Common.{◌≡◌, ◌<◌, ◌-◌, ◌∷◌, [], length, codes, length-append, Some, arith}
use Rattle.std.proofs.lemmas.Result.{err_from_is_err_and}
use Rattle.oil_in.specs.Forms.{header}
use Rattle.oil_in.specs.Alarms.{alarm_at, alarms_at}
use Rattle.oil_in.proofs.ManyLemmas.{goes_on, ends, is_full, is_done}
use Rattle.oil_in.proofs.alarms.alarms_at.Goals as goal

pub returns-then-len-eq-MOST_ALARMS : goal.returns-then-len-eq-MOST_ALARMS
returns-then-len-eq-MOST_ALARMS c =
    let e : header (codes "  ALARM a_") c.loop-name.scan.text ≡ Some (c.in-Some.name.now, c.in-Some.rest.now) = rw (← c.text.ensures) c.in-Some.ensures in
    let full : length c.loop-name.alarms ≡ 64 = omega (arith, c.len.ensures, c.if-len-eq-MOST_ALARMS.true) in
    rw c.refused.ensures (is_full (header (codes "  ALARM a_")) (alarm_at c.args.events.now c.args.counters.now c.args.tasks.now) 64 c.loop-name.alarms c.loop-name.scan (c.in-Some.name.now, c.in-Some.rest.now) (alarms_at c.args.events.now c.args.counters.now c.args.tasks.now c.args.start) e full c.loop-name.invariant.so_far)

pub returns-in_err-alarm : goal.returns-in_err-alarm
returns-in_err-alarm c =
    let p = err_from_is_err_and c.from_residual.result c.from_residual.ensures.1 in
    let e : header (codes "  ALARM a_") c.loop-name.scan.text ≡ Some (c.in-Some.name.now, c.in-Some.rest.now) = rw (← c.text.ensures) c.in-Some.ensures in
    let lt : length c.loop-name.alarms < 64 = omega (arith, c.len.ensures, c.if-len-eq-MOST_ALARMS.false, c.loop-name.invariant.room) in
    rw (p.1, p.2) (ends (header (codes "  ALARM a_")) (alarm_at c.args.events.now c.args.counters.now c.args.tasks.now) 64 c.loop-name.alarms c.loop-name.scan (c.in-Some.name.now, c.in-Some.rest.now) c.in_err-alarm.field-0.0 (alarms_at c.args.events.now c.args.counters.now c.args.tasks.now c.args.start) e (rw c.as_slice-rows.ensures at c.in_err-alarm.ensures) lt c.loop-name.invariant.so_far)

pub loop-name-preserved : goal.loop-name-preserved
loop-name-preserved c =
    let e : header (codes "  ALARM a_") c.loop-name.scan.text ≡ Some (c.in-Some.name.now, c.in-Some.rest.now) = rw (← c.text.ensures) c.in-Some.ensures in
    let lt : length c.loop-name.alarms < 64 = omega (arith, c.len.ensures, c.if-len-eq-MOST_ALARMS.false, c.loop-name.invariant.room) in
    rw c.in_ok-push.ensures.ok (record {
      room = omega (arith, length-append c.loop-name.alarms (c.in_ok-alarm.alarm ∷ []));
      so_far = goes_on (header (codes "  ALARM a_")) (alarm_at c.args.events.now c.args.counters.now c.args.tasks.now) 64 c.loop-name.alarms c.loop-name.scan (c.in-Some.name.now, c.in-Some.rest.now) c.in_ok-alarm.alarm c.in_ok-alarm.behind (alarms_at c.args.events.now c.args.counters.now c.args.tasks.now c.args.start) e (rw c.as_slice-rows.ensures at c.in_ok-alarm.ensures) lt c.loop-name.invariant.so_far;
    })

pub returns : goal.returns
returns c =
    is_done (header (codes "  ALARM a_")) (alarm_at c.args.events.now c.args.counters.now c.args.tasks.now) (64 - length c.loop-name.alarms) c.loop-name.alarms c.loop-name.scan (alarms_at c.args.events.now c.args.counters.now c.args.tasks.now c.args.start) (rw (← c.text.ensures) c.in_default.ensures) c.loop-name.invariant.so_far
