use Rattle.std.proofs.Common.{◌≡◌, ◌<◌, ◌-◌, ◌∷◌, [], length, codes, length-append, Some, arith}
use Rattle.std.proofs.lemmas.Result.{err_from_is_err_and}
use Rattle.oil_in.specs.Forms.{header}
use Rattle.oil_in.specs.Objects.{resource_at, resources_at}
use Rattle.oil_in.proofs.ManyLemmas.{goes_on, ends, is_full, is_done}
use Rattle.oil_in.proofs.objects.resources_at.Goals as goal

pub returns-then-len-eq-MOST_RESOURCES-clause-read : goal.returns-then-len-eq-MOST_RESOURCES-clause-read
returns-then-len-eq-MOST_RESOURCES-clause-read c =
    let e : header (codes "  RESOURCE r_") c.loop-name.scan.text ≡ Some (c.in-Some.name.now, c.in-Some.rest.now) = rw (← c.text.ensures) c.in-Some.ensures in
    let full : length c.loop-name.resources ≡ 32 = omega (arith, c.len.ensures, c.if-len-eq-MOST_RESOURCES.true) in
    rw c.refused.ensures (is_full (header (codes "  RESOURCE r_")) resource_at 32 c.loop-name.resources c.loop-name.scan (c.in-Some.name.now, c.in-Some.rest.now) (resources_at c.args.start) e full c.loop-name.invariant.so_far)

pub returns-in_err-resource-clause-read : goal.returns-in_err-resource-clause-read
returns-in_err-resource-clause-read c =
    let p = err_from_is_err_and c.from_residual.result c.from_residual.ensures.1 in
    let e : header (codes "  RESOURCE r_") c.loop-name.scan.text ≡ Some (c.in-Some.name.now, c.in-Some.rest.now) = rw (← c.text.ensures) c.in-Some.ensures in
    let lt : length c.loop-name.resources < 32 = omega (arith, c.len.ensures, c.if-len-eq-MOST_RESOURCES.false, c.loop-name.invariant.room) in
    rw (p.1, p.2) (ends (header (codes "  RESOURCE r_")) resource_at 32 c.loop-name.resources c.loop-name.scan (c.in-Some.name.now, c.in-Some.rest.now) c.in_err-resource.field-0.0 (resources_at c.args.start) e (rw c.as_slice.ensures at c.in_err-resource.ensures) lt c.loop-name.invariant.so_far)

pub loop-name-preserved : goal.loop-name-preserved
loop-name-preserved c =
    let e : header (codes "  RESOURCE r_") c.loop-name.scan.text ≡ Some (c.in-Some.name.now, c.in-Some.rest.now) = rw (← c.text.ensures) c.in-Some.ensures in
    let lt : length c.loop-name.resources < 32 = omega (arith, c.len.ensures, c.if-len-eq-MOST_RESOURCES.false, c.loop-name.invariant.room) in
    rw c.in_ok-push.ensures.ok (record {
      room = omega (arith, length-append c.loop-name.resources (c.in_ok-resource.resource ∷ []));
      so_far = goes_on (header (codes "  RESOURCE r_")) resource_at 32 c.loop-name.resources c.loop-name.scan (c.in-Some.name.now, c.in-Some.rest.now) c.in_ok-resource.resource c.in_ok-resource.behind (resources_at c.args.start) e (rw c.as_slice.ensures at c.in_ok-resource.ensures) lt c.loop-name.invariant.so_far;
    })

pub returns-clause-read : goal.returns-clause-read
returns-clause-read c =
    is_done (header (codes "  RESOURCE r_")) resource_at (32 - length c.loop-name.resources) c.loop-name.resources c.loop-name.scan (resources_at c.args.start) (rw (← c.text.ensures) c.in_default.ensures) c.loop-name.invariant.so_far
