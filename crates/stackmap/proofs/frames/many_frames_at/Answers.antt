use Rattle.std.proofs.Common.{◌≤◌, ◌∷◌, ◌++◌, [], arith}
use Rattle.std.proofs.lemmas.Result.{err_from_is_err_and}
use Rattle.classfile.specs.Scan.{repeat}
use Rattle.classfile.proofs.Repeating.{goes_on, ends, done}
use Rattle.stackmap.specs.Frames.{frame_at, last_of, another_frame}
use Rattle.stackmap.proofs.Another.{another, no_other}
use Rattle.stackmap.proofs.frames.many_frames_at.Goals as goal

pub returns-in_err-frame : goal.returns-in_err-frame
returns-in_err-frame c =
    let p = err_from_is_err_and c.from_residual.result c.from_residual.ensures.1 in
    let read = rw (c.last.ensures.value, c.as_slice.ensures) at c.in_err-frame.ensures in
    let one = no_other c.loop.frames c.in_err-frame.field-0.0 (frame_at c.args.table.now c.args.start.now (last_of c.loop.frames) c.loop.rest) read in
    rw (p.1, p.2) (ends (another_frame c.args.table.now c.args.start.now) c.args.count c.loop.counter (c.loop.frames, c.loop.rest) c.in_err-frame.field-0.0 (repeat c.args.count (another_frame c.args.table.now c.args.start.now) ([], c.args.rest)) c.loop-test.true one c.loop.invariant)

pub loop-preserved : goal.loop-preserved
loop-preserved c =
    let read = rw (c.last.ensures.value, c.as_slice.ensures) at c.in_ok-frame.ensures in
    let one = another c.loop.frames c.in_ok-frame.frame c.in_ok-frame.behind (frame_at c.args.table.now c.args.start.now (last_of c.loop.frames) c.loop.rest) read in
    rw c.in_ok-push.ensures.ok (goes_on (another_frame c.args.table.now c.args.start.now) c.args.count c.loop.counter (c.loop.frames, c.loop.rest) (c.loop.frames ++ c.in_ok-frame.frame ∷ [], c.in_ok-frame.behind) (repeat c.args.count (another_frame c.args.table.now c.args.start.now) ([], c.args.rest)) c.loop-test.true one c.loop.invariant)

pub returns : goal.returns
returns c =
    let over : c.args.count ≤ c.loop.counter = omega arith in
    done (another_frame c.args.table.now c.args.start.now) c.args.count c.loop.counter (c.loop.frames, c.loop.rest) (repeat c.args.count (another_frame c.args.table.now c.args.start.now) ([], c.args.rest)) over c.loop.invariant
