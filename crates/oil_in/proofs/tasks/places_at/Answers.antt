use Rattle.std.proofs.Common.{◌≡◌, ◌<◌, ◌≤◌, ◌+◌, ◌-◌, ◌∷◌, [], length, length-append, Some, ap, arith}
use Rattle.std.proofs.lemmas.Result.{err_from_is_err_and}
use Rattle.oil_in.specs.Forms.{reference}
use Rattle.oil_in.specs.Scan.{many}
use Rattle.oil_in.specs.Tasks.{least, place_at, places_at}
use Rattle.oil_in.proofs.LeastLemmas.{least-append}
use Rattle.oil_in.proofs.ManyLemmas.{goes_on, ends, is_done}
use Rattle.oil_in.proofs.tasks.places_at.Goals as goal

pub loop-name-init : goal.loop-name-init
unfolding places_at
loop-name-init c =
    let all : (length c.args.names.now + 1) - 0 ≡ length c.args.names.now + 1 = omega arith in
    rw c.new-places.ensures (record {
      few = omega arith;
      within = omega arith;
      so_far = ap (λ n. many (reference c.args.front.now) (place_at c.args.may c.args.names.now) n [] c.args.start) all;
    })

pub returns-in_err-place : goal.returns-in_err-place
returns-in_err-place c =
    let p = err_from_is_err_and c.from_residual.result c.from_residual.ensures.1 in
    let e : reference c.args.front.now c.loop-name.scan.text ≡ Some (c.in-Some.name.now, c.in-Some.rest.now) = rw (← c.text.ensures) c.in-Some.ensures in
    let lt : length c.loop-name.places < length c.args.names.now + 1 = omega (arith, c.loop-name.invariant.few, c.loop-name.invariant.within) in
    rw (p.1, p.2) (ends (reference c.args.front.now) (place_at c.args.may c.args.names.now) (length c.args.names.now + 1) c.loop-name.places c.loop-name.scan (c.in-Some.name.now, c.in-Some.rest.now) c.in_err-place.field-0.0 (places_at c.args.front.now c.args.may c.args.names.now c.args.start) e (rw c.as_slice.ensures at c.in_err-place.ensures.read) lt c.loop-name.invariant.so_far)

pub loop-name-preserved : goal.loop-name-preserved
loop-name-preserved c =
    let e : reference c.args.front.now c.loop-name.scan.text ≡ Some (c.in-Some.name.now, c.in-Some.rest.now) = rw (← c.text.ensures) c.in-Some.ensures in
    let lt : length c.loop-name.places < length c.args.names.now + 1 = omega (arith, c.loop-name.invariant.few, c.loop-name.invariant.within) in
    let rises : least c.loop-name.places ≤ c.in_ok-place.place = rw (← c.as_slice.ensures) c.in_ok-place.ensures.rises in
    rw c.in_ok-push.ensures.ok (record {
      few = omega (arith, length-append c.loop-name.places (c.in_ok-place.place ∷ []), least-append c.loop-name.places c.in_ok-place.place, c.loop-name.invariant.few);
      within = omega (arith, least-append c.loop-name.places c.in_ok-place.place, c.in_ok-place.ensures.within);
      so_far = goes_on (reference c.args.front.now) (place_at c.args.may c.args.names.now) (length c.args.names.now + 1) c.loop-name.places c.loop-name.scan (c.in-Some.name.now, c.in-Some.rest.now) c.in_ok-place.place c.in_ok-place.behind (places_at c.args.front.now c.args.may c.args.names.now c.args.start) e (rw c.as_slice.ensures at c.in_ok-place.ensures.read) lt c.loop-name.invariant.so_far;
    })

pub returns : goal.returns
returns c =
    is_done (reference c.args.front.now) (place_at c.args.may c.args.names.now) ((length c.args.names.now + 1) - length c.loop-name.places) c.loop-name.places c.loop-name.scan (places_at c.args.front.now c.args.may c.args.names.now c.args.start) (rw (← c.text.ensures) c.in_default.ensures) c.loop-name.invariant.so_far
