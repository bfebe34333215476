use Rattle.std.proofs.Common.{◌≡◌, ◌<◌, ◌-◌, ◌∷◌, [], length, codes, length-append, Some, arith}
use Rattle.std.proofs.lemmas.Result.{err_from_is_err_and}
use Rattle.oil_in.specs.Forms.{header}
use Rattle.oil_in.specs.Objects.{event_at, events_at}
use Rattle.oil_in.proofs.ManyLemmas.{goes_on, ends, is_full, is_done}
use Rattle.oil_in.proofs.objects.events_at.Goals as goal

pub returns-then-len-eq-MOST_EVENTS-clause-read : goal.returns-then-len-eq-MOST_EVENTS-clause-read
returns-then-len-eq-MOST_EVENTS-clause-read c =
    let e : header (codes "  EVENT e_") c.loop-name.scan.text ≡ Some (c.in-Some.name.now, c.in-Some.rest.now) = rw (← c.text.ensures) c.in-Some.ensures in
    let full : length c.loop-name.events ≡ 31 = omega (arith, c.len.ensures, c.if-len-eq-MOST_EVENTS.true) in
    rw c.refused.ensures (is_full (header (codes "  EVENT e_")) event_at 31 c.loop-name.events c.loop-name.scan (c.in-Some.name.now, c.in-Some.rest.now) (events_at c.args.start) e full c.loop-name.invariant.so_far)

pub returns-in_err-event-clause-read : goal.returns-in_err-event-clause-read
returns-in_err-event-clause-read c =
    let p = err_from_is_err_and c.from_residual.result c.from_residual.ensures.1 in
    let e : header (codes "  EVENT e_") c.loop-name.scan.text ≡ Some (c.in-Some.name.now, c.in-Some.rest.now) = rw (← c.text.ensures) c.in-Some.ensures in
    let lt : length c.loop-name.events < 31 = omega (arith, c.len.ensures, c.if-len-eq-MOST_EVENTS.false, c.loop-name.invariant.room) in
    rw (p.1, p.2) (ends (header (codes "  EVENT e_")) event_at 31 c.loop-name.events c.loop-name.scan (c.in-Some.name.now, c.in-Some.rest.now) c.in_err-event.field-0.0 (events_at c.args.start) e (rw c.as_slice.ensures at c.in_err-event.ensures) lt c.loop-name.invariant.so_far)

pub loop-name-preserved : goal.loop-name-preserved
loop-name-preserved c =
    let e : header (codes "  EVENT e_") c.loop-name.scan.text ≡ Some (c.in-Some.name.now, c.in-Some.rest.now) = rw (← c.text.ensures) c.in-Some.ensures in
    let lt : length c.loop-name.events < 31 = omega (arith, c.len.ensures, c.if-len-eq-MOST_EVENTS.false, c.loop-name.invariant.room) in
    rw c.in_ok-push.ensures.ok (record {
      room = omega (arith, length-append c.loop-name.events (c.in_ok-event.event ∷ []));
      so_far = goes_on (header (codes "  EVENT e_")) event_at 31 c.loop-name.events c.loop-name.scan (c.in-Some.name.now, c.in-Some.rest.now) c.in_ok-event.event c.in_ok-event.behind (events_at c.args.start) e (rw c.as_slice.ensures at c.in_ok-event.ensures) lt c.loop-name.invariant.so_far;
    })

pub returns-clause-read : goal.returns-clause-read
returns-clause-read c =
    is_done (header (codes "  EVENT e_")) event_at (31 - length c.loop-name.events) c.loop-name.events c.loop-name.scan (events_at c.args.start) (rw (← c.text.ensures) c.in_default.ensures) c.loop-name.invariant.so_far
