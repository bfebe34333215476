use Rattle.std.proofs.lemmas.Result.{err_from_is_err_and}
use Rattle.jcode.specs.Switches.{pairs_at}
use Rattle.jcode.proofs.SwitchLoops.{pairs_go_on, pairs_end, pairs_done}
use Rattle.jcode.proofs.switches.pairs_of.Goals as goal

pub returns-in_err-case : goal.returns-in_err-case
returns-in_err-case c =
    let p = err_from_is_err_and c.from_residual.result c.from_residual.ensures.1 in
    rw (p.1, p.2) (pairs_end c.in_err-case.field-0.0 c.loop.cases c.args.pc c.args.count c.loop.counter c.loop.rest.now (pairs_at c.args.pc c.args.count c.args.bytes.now) c.loop-test.true c.in_err-case.ensures c.loop.invariant)

pub loop-preserved : goal.loop-preserved
loop-preserved c =
    rw c.in_ok-push.ensures.ok (pairs_go_on c.loop.cases c.args.pc c.args.count c.loop.counter c.loop.rest.now c.in_ok-case.case c.in_ok-case.after.now (pairs_at c.args.pc c.args.count c.args.bytes.now) c.loop-test.true c.in_ok-case.ensures c.loop.invariant)

pub returns : goal.returns
returns c = pairs_done c.loop.cases c.args.pc c.args.count c.loop.counter c.loop.rest.now (pairs_at c.args.pc c.args.count c.args.bytes.now) c.loop-test.false c.loop.invariant
