use Rattle.std.proofs.Common.{◌≡◌, ◌++◌, ◌∷◌, ◌+◌, ◌≤◌, ◌<◌, [], length, drop, arith}
use Rattle.std.proofs.lemmas.List.{length-drop}
use Rattle.std.proofs.lemmas.List.Elements.{All-push}
use Rattle.std.proofs.lemmas.Result.{err_from_is_err_and}
use Rattle.jcode.specs.declared.op.Ins.{Ins}
use Rattle.jcode.specs.Code.{instructions_from}
use Rattle.jcode.specs.PoolOf.{pool_of}
use Rattle.jcode.proofs.CodeLoop.{goes_on, ends, is_done}
use Rattle.jcode.proofs.code.instructions_of.Goals as goal

pub returns-in_err-ins-clause-code : goal.returns-in_err-ins-clause-code
returns-in_err-ins-clause-code c =
    let p = err_from_is_err_and c.from_residual.result c.from_residual.ensures.1 in
    rw (p.1, p.2) (ends c.in_err-ins.field-0.0 c.loop-place.found.items (pool_of c.args.class.now) c.args.base c.loop-place.place c.args.code.now (instructions_from (pool_of c.args.class.now) c.args.base 0 0 c.args.code.now) c.loop-place-test.true c.in_err-ins.ensures.next c.loop-place.invariant.so_far)

pub loop-place-preserved : goal.loop-place-preserved
loop-place-preserved c =
    let lt = c.loop-place-test.true in
    let operands : c.in_ok-ins.operands ≤ length (drop (c.loop-place.place + 1) c.args.code.now) = c.in_ok-ins.ensures.within in
    let items : c.push.new.self.items ≡ c.loop-place.found.items ++ c.in_ok-ins.ins ∷ [] = c.in_ok-push.ensures.items in
    let here : c.in_ok-ins.ins.pc < length c.args.code.now = rw c.in_ok-ins.ensures.stands lt in
    record {
      within = omega (arith, operands, length-drop (c.loop-place.place + 1) c.args.code.now);
      inside = rw items (All-push (λ (ins : Ins). ins.pc < length c.args.code.now) c.loop-place.found.items c.in_ok-ins.ins c.loop-place.invariant.inside here);
      so_far = rw items (goes_on c.loop-place.found.items (pool_of c.args.class.now) c.args.base c.loop-place.place c.in_ok-ins.operands c.args.code.now c.in_ok-ins.ins (instructions_from (pool_of c.args.class.now) c.args.base 0 0 c.args.code.now) lt c.in_ok-ins.ensures.next operands c.loop-place.invariant.so_far);
    }

pub returns-clause-code : goal.returns-clause-code
returns-clause-code c = is_done c.loop-place.found.items (pool_of c.args.class.now) c.args.base c.loop-place.place c.args.code.now (instructions_from (pool_of c.args.class.now) c.args.base 0 0 c.args.code.now) c.loop-place-test.false c.loop-place.invariant.so_far
