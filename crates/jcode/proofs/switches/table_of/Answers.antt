use Rattle.std.proofs.Common.{◌≡◌, ◌+ℤ◌, pos, to_z, of_z, w32, arith}
use Rattle.std.proofs.lemmas.Int.{to_z-of_z}
use Rattle.std.proofs.lemmas.Result.{err_from_is_err_and}
use Rattle.jcode.specs.Switches.{table_at}
use Rattle.jcode.proofs.SwitchLoops.{table_goes_on, table_ends, table_done}
use Rattle.jcode.proofs.switches.table_of.Goals as goal

pub returns-in_err-case : goal.returns-in_err-case
returns-in_err-case c =
    let p = err_from_is_err_and c.from_residual.result c.from_residual.ensures.1 in
    let low : to_z w32 (of_z w32 c.args.low) ≡ c.args.low = grind (arith, to_z-of_z) in
    rw (p.1, p.2, ← low) (table_ends c.in_err-case.field-0.0 c.loop-place.cases c.args.pc c.args.count c.loop-place.place (to_z w32 (of_z w32 c.args.low) +ℤ pos c.loop-place.place) c.loop-place.rest.now (table_at c.args.pc c.args.count (to_z w32 (of_z w32 c.args.low)) c.args.bytes.now) c.loop-place-test.true c.in_err-case.ensures c.loop-place.invariant)

pub loop-place-preserved : goal.loop-place-preserved
loop-place-preserved c =
    let low = to_z w32 (of_z w32 c.args.low) in
    rw c.in_ok-push.ensures.ok (table_goes_on c.loop-place.cases c.args.pc c.args.count c.loop-place.place low c.loop-place.rest.now c.in_ok-case.case c.in_ok-case.after.now (table_at c.args.pc c.args.count low c.args.bytes.now) c.loop-place-test.true c.in_ok-case.ensures c.loop-place.invariant)

pub returns : goal.returns
returns c =
    let low : to_z w32 (of_z w32 c.args.low) ≡ c.args.low = grind (arith, to_z-of_z) in
    rw (← low) (table_done c.loop-place.cases c.args.pc c.args.count c.loop-place.place (to_z w32 (of_z w32 c.args.low) +ℤ pos c.loop-place.place) c.loop-place.rest.now (table_at c.args.pc c.args.count (to_z w32 (of_z w32 c.args.low)) c.args.bytes.now) c.loop-place-test.false c.loop-place.invariant)
