use Rattle.std.proofs.Common.{◌≡◌, ◌<◌, ◌-◌, ◌∷◌, [], length, codes, length-append, Some, arith}
use Rattle.std.proofs.lemmas.Result.{err_from_is_err_and}
use Rattle.oil_in.specs.Forms.{header}
use Rattle.oil_in.specs.Objects.{counter_at, counters_at}
use Rattle.oil_in.proofs.ManyLemmas.{goes_on, ends, is_full, is_done}
use Rattle.oil_in.proofs.objects.counters_at.Goals as goal

pub returns-then-len-eq-MOST_COUNTERS-clause-read : goal.returns-then-len-eq-MOST_COUNTERS-clause-read
returns-then-len-eq-MOST_COUNTERS-clause-read c =
    let e : header (codes "  COUNTER c_") c.loop-name.scan.text ≡ Some (c.in-Some.name.now, c.in-Some.rest.now) = rw (← c.text.ensures) c.in-Some.ensures in
    let full : length c.loop-name.counters ≡ 8 = omega (arith, c.len.ensures, c.if-len-eq-MOST_COUNTERS.true) in
    rw c.refused.ensures (is_full (header (codes "  COUNTER c_")) counter_at 8 c.loop-name.counters c.loop-name.scan (c.in-Some.name.now, c.in-Some.rest.now) (counters_at c.args.start) e full c.loop-name.invariant.so_far)

pub returns-in_err-counter-clause-read : goal.returns-in_err-counter-clause-read
returns-in_err-counter-clause-read c =
    let p = err_from_is_err_and c.from_residual.result c.from_residual.ensures.1 in
    let e : header (codes "  COUNTER c_") c.loop-name.scan.text ≡ Some (c.in-Some.name.now, c.in-Some.rest.now) = rw (← c.text.ensures) c.in-Some.ensures in
    let lt : length c.loop-name.counters < 8 = omega (arith, c.len.ensures, c.if-len-eq-MOST_COUNTERS.false, c.loop-name.invariant.room) in
    rw (p.1, p.2) (ends (header (codes "  COUNTER c_")) counter_at 8 c.loop-name.counters c.loop-name.scan (c.in-Some.name.now, c.in-Some.rest.now) c.in_err-counter.field-0.0 (counters_at c.args.start) e (rw c.as_slice.ensures at c.in_err-counter.ensures) lt c.loop-name.invariant.so_far)

pub loop-name-preserved : goal.loop-name-preserved
loop-name-preserved c =
    let e : header (codes "  COUNTER c_") c.loop-name.scan.text ≡ Some (c.in-Some.name.now, c.in-Some.rest.now) = rw (← c.text.ensures) c.in-Some.ensures in
    let lt : length c.loop-name.counters < 8 = omega (arith, c.len.ensures, c.if-len-eq-MOST_COUNTERS.false, c.loop-name.invariant.room) in
    rw c.in_ok-push.ensures.ok (record {
      room = omega (arith, length-append c.loop-name.counters (c.in_ok-counter.counter ∷ []));
      so_far = goes_on (header (codes "  COUNTER c_")) counter_at 8 c.loop-name.counters c.loop-name.scan (c.in-Some.name.now, c.in-Some.rest.now) c.in_ok-counter.counter c.in_ok-counter.behind (counters_at c.args.start) e (rw c.as_slice.ensures at c.in_ok-counter.ensures) lt c.loop-name.invariant.so_far;
    })

pub returns-clause-read : goal.returns-clause-read
returns-clause-read c =
    is_done (header (codes "  COUNTER c_")) counter_at (8 - length c.loop-name.counters) c.loop-name.counters c.loop-name.scan (counters_at c.args.start) (rw (← c.text.ensures) c.in_default.ensures) c.loop-name.invariant.so_far
