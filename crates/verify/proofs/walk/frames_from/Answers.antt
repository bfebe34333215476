use Rattle.std.proofs.Common.{Some}
use Rattle.std.proofs.lemmas.Result.{err_from_is_err_and}
use Rattle.verify.specs.Typing.{states_from, framed}
use Rattle.verify.proofs.Walking.{goes_on, ends_at, ends_after, is_done}
use Rattle.verify.proofs.walk.frames_from.Goals as goal

pub returns-in_err-state : goal.returns-in_err-state
returns-in_err-state c =
    let p = err_from_is_err_and c.from_residual.result c.from_residual.ensures.1 in
    rw (p.1, p.2) (ends_at c.args.e.now c.args.maps.now c.loop-ins.before c.loop-ins.comes c.args.code.now c.loop-ins.ins-index c.ins-item.result c.loop-ins.frames c.in_err-state.field-0.0 (framed (states_from c.args.e.now c.args.maps.now c.args.first (Some c.args.start) c.args.code.now)) c.loop-ins-test.true c.ins-item.is c.in_err-state.ensures c.loop-ins.invariant)

pub returns-in_err-after : goal.returns-in_err-after
returns-in_err-after c =
    let p = err_from_is_err_and c.from_residual-in_err-after.result c.from_residual-in_err-after.ensures.1 in
    rw (p.1, p.2) (ends_after c.args.e.now c.args.maps.now c.loop-ins.before c.loop-ins.comes c.args.code.now c.loop-ins.ins-index c.ins-item.result c.loop-ins.frames c.in_ok-state.state c.in_err-after.field-0.0 (framed (states_from c.args.e.now c.args.maps.now c.args.first (Some c.args.start) c.args.code.now)) c.loop-ins-test.true c.ins-item.is c.in_ok-state.ensures c.in_err-after.ensures c.loop-ins.invariant)

pub loop-ins-preserved : goal.loop-ins-preserved
loop-ins-preserved c =
    rw (c.in_ok-push.ensures.ok, c.in_ok-frame_of.ensures, c.coming-comes.ensures) (goes_on c.args.e.now c.args.maps.now c.loop-ins.before c.loop-ins.comes c.args.code.now c.loop-ins.ins-index c.ins-item.result c.loop-ins.frames c.in_ok-state.state c.in_ok-after.after (framed (states_from c.args.e.now c.args.maps.now c.args.first (Some c.args.start) c.args.code.now)) c.loop-ins-test.true c.ins-item.is c.in_ok-state.ensures c.in_ok-after.ensures c.loop-ins.invariant)

pub returns : goal.returns
returns c =
    is_done c.args.e.now c.args.maps.now c.loop-ins.before c.loop-ins.comes c.args.code.now c.loop-ins.ins-index c.loop-ins.frames c.ended.result (framed (states_from c.args.e.now c.args.maps.now c.args.first (Some c.args.start) c.args.code.now)) c.loop-ins-test.false c.ended.ensures c.loop-ins.invariant
