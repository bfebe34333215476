use Rattle.std.proofs.Common.{◌≤◌, ◌∷◌, ◌++◌, [], arith}
use Rattle.std.proofs.lemmas.Result.{err_from_is_err_and}
use Rattle.classfile.specs.Scan.{collect}
use Rattle.classfile.specs.Members.{method_at, methods_at}
use Rattle.classfile.proofs.Repeating.{goes_on, ends, done, collected, not_collected}
use Rattle.classfile.proofs.members.methods_at.Goals as goal

pub returns-in_err-method : goal.returns-in_err-method
returns-in_err-method c =
    let p = err_from_is_err_and c.from_residual-in_err-method.result c.from_residual-in_err-method.ensures.1 in
    let one = not_collected (method_at c.args.pool.now) c.loop.methods.items c.loop.scan c.in_err-method.field-0.0 c.in_err-method.ensures in
    rw (p.1, p.2) (ends (collect (method_at c.args.pool.now)) c.in_ok-count.count c.loop.counter (c.loop.methods.items, c.loop.scan) c.in_err-method.field-0.0 (methods_at c.args.pool.now c.args.start) c.loop-test.true one c.loop.invariant)

pub loop-preserved : goal.loop-preserved
loop-preserved c =
    let one = collected (method_at c.args.pool.now) c.loop.methods.items c.loop.scan c.in_ok-method.method c.in_ok-method.behind c.in_ok-method.ensures in
    rw c.in_ok-push.ensures.items (goes_on (collect (method_at c.args.pool.now)) c.in_ok-count.count c.loop.counter (c.loop.methods.items, c.loop.scan) (c.loop.methods.items ++ c.in_ok-method.method ∷ [], c.in_ok-method.behind) (methods_at c.args.pool.now c.args.start) c.loop-test.true one c.loop.invariant)

pub returns : goal.returns
returns c =
    let over : c.in_ok-count.count ≤ c.loop.counter = omega arith in
    rw c.new.ensures (done (collect (method_at c.args.pool.now)) c.in_ok-count.count c.loop.counter (c.loop.methods.items, c.loop.scan) (methods_at c.args.pool.now c.args.start) over c.loop.invariant)
