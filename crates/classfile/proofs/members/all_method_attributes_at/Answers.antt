use Rattle.std.proofs.Common.{◌≤◌, arith}
use Rattle.std.proofs.lemmas.Result.{err_from_is_err_and}
use Rattle.classfile.specs.Members.{method_attribute_at, all_method_attributes_at}
use Rattle.classfile.proofs.Repeating.{goes_on, ends, done}
use Rattle.classfile.proofs.members.all_method_attributes_at.Goals as goal

pub returns-in_err-next : goal.returns-in_err-next
returns-in_err-next c =
    let p = err_from_is_err_and c.from_residual-in_err-next.result c.from_residual-in_err-next.ensures.1 in
    rw (p.1, p.2) (ends (method_attribute_at c.args.pool.now c.args.at c.args.bare) c.in_ok-count.count c.loop.counter (c.loop.found, c.loop.scan) c.in_err-next.field-0.0 (all_method_attributes_at c.args.pool.now c.args.at c.args.bare c.args.start) c.loop-test.true c.in_err-next.ensures c.loop.invariant)

pub loop-preserved : goal.loop-preserved
loop-preserved c = goes_on (method_attribute_at c.args.pool.now c.args.at c.args.bare) c.in_ok-count.count c.loop.counter (c.loop.found, c.loop.scan) (c.in_ok-next.next, c.in_ok-next.behind) (all_method_attributes_at c.args.pool.now c.args.at c.args.bare c.args.start) c.loop-test.true c.in_ok-next.ensures c.loop.invariant

pub returns : goal.returns
returns c =
    let over : c.in_ok-count.count ≤ c.loop.counter = omega arith in
    done (method_attribute_at c.args.pool.now c.args.at c.args.bare) c.in_ok-count.count c.loop.counter (c.loop.found, c.loop.scan) (all_method_attributes_at c.args.pool.now c.args.at c.args.bare c.args.start) over c.loop.invariant
