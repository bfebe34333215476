-- One class more on the way up, and none at its end.
use Rattle.std.proofs.Common.{◌≡◌, ◌+◌, ◌-◌, ap, arith}
use Rattle.std.specs.Prelude.{length}
use Rattle.jworld.specs.Classes.{count}
use Rattle.jworld.specs.Upwards.{upwards, chain}
use Rattle.mentions.proofs.Climbing.{way_ended}
use Rattle.reach.proofs.Ordering.{higher}
use Rattle.reach.proofs.starts.height.Goals as goal

pub loop-step-init : goal.loop-step-init
unfolding upwards
loop-step-init c =
    let e : c.count-step-end.result - 0 ≡ count c.args.world.now = omega (arith, c.count-step-end.ensures.count) in
    let all = ap (λ most. length (chain most c.args.world.now c.args.class.n)) e in
    (omega arith, omega (all, arith))

pub loop-step-preserved : goal.loop-step-preserved
loop-step-preserved c =
    let up = higher c.args.world.now c.count-step-end.result c.loop-step._step c.in-Some.class c.super_of-next.result c.loop-step-test.true c.super_of-next.ensures in
    let before = rw c.in-Some.is at c.loop-step.invariant.1 in
    (omega (c.loop-step.invariant.0, arith), omega (before, up, arith))

pub returns : goal.returns
returns c =
    let none = ap length (way_ended c.args.world.now c.count-step-end.result c.loop-step._step c.loop-step.next c.loop-step-test.false) in
    omega (c.loop-step.invariant.1, none, arith)
