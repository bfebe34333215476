use Rattle.std.proofs.Common.{◌≤◌, ◌∷◌, ◌++◌, [], arith}
use Rattle.std.proofs.lemmas.Result.{err_from_is_err_and}
use Rattle.classfile.specs.Scan.{collect}
use Rattle.classfile.specs.Reading.{interface_at, interfaces_at}
use Rattle.classfile.proofs.Repeating.{goes_on, ends, done, collected, not_collected}
use Rattle.classfile.proofs.reading.interfaces_at.Goals as goal

pub returns-in_err-name : goal.returns-in_err-name
returns-in_err-name c =
    let p = err_from_is_err_and c.from_residual-in_err-name.result c.from_residual-in_err-name.ensures.1 in
    let one = not_collected (interface_at c.args.pool.now) c.loop.names c.loop.scan c.in_err-name.field-0.0 c.in_err-name.ensures in
    rw (p.1, p.2) (ends (collect (interface_at c.args.pool.now)) c.in_ok-count.count c.loop.counter (c.loop.names, c.loop.scan) c.in_err-name.field-0.0 (interfaces_at c.args.pool.now c.args.start) c.loop-test.true one c.loop.invariant)

pub loop-preserved : goal.loop-preserved
loop-preserved c =
    let one = collected (interface_at c.args.pool.now) c.loop.names c.loop.scan c.in_ok-name.name c.in_ok-name.behind c.in_ok-name.ensures in
    rw (c.in_ok-push.ensures, c.get.ensures) (goes_on (collect (interface_at c.args.pool.now)) c.in_ok-count.count c.loop.counter (c.loop.names, c.loop.scan) (c.loop.names ++ c.in_ok-name.name ∷ [], c.in_ok-name.behind) (interfaces_at c.args.pool.now c.args.start) c.loop-test.true one c.loop.invariant)

pub returns : goal.returns
returns c =
    let over : c.in_ok-count.count ≤ c.loop.counter = omega arith in
    done (collect (interface_at c.args.pool.now)) c.in_ok-count.count c.loop.counter (c.loop.names, c.loop.scan) (interfaces_at c.args.pool.now c.args.start) over c.loop.invariant
