use Rattle.std.proofs.Common.{◌≤◌, arith}
use Rattle.std.proofs.lemmas.Result.{err_from_is_err_and}
use Rattle.classfile.specs.Scan.{repeat}
use Rattle.classfile.specs.Codes.{handler_at}
use Rattle.classfile.proofs.Repeating.{goes_on, ends, done}
use Rattle.classfile.proofs.codes.handlers_behind.Goals as goal

pub returns-in_err-scan : goal.returns-in_err-scan
returns-in_err-scan c =
    let p = err_from_is_err_and c.from_residual.result c.from_residual.ensures.1 in
    rw (p.1, p.2) (ends handler_at c.args.count c.loop.counter c.loop.scan c.in_err-scan.field-0.0 (repeat c.args.count handler_at c.args.start) c.loop-test.true c.in_err-scan.ensures c.loop.invariant)

pub loop-preserved : goal.loop-preserved
loop-preserved c = goes_on handler_at c.args.count c.loop.counter c.loop.scan c.in_ok-scan.scan (repeat c.args.count handler_at c.args.start) c.loop-test.true c.in_ok-scan.ensures c.loop.invariant

pub returns : goal.returns
returns c =
    let over : c.args.count ≤ c.loop.counter = omega arith in
    done handler_at c.args.count c.loop.counter c.loop.scan (repeat c.args.count handler_at c.args.start) over c.loop.invariant
