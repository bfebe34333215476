use Rattle.std.proofs.Common.{◌≡◌, ap, ◌==◌, ◌-◌, arith}
use Rattle.std.specs.List.{list_any}
use Rattle.jworld.specs.Classes.{count}
use Rattle.jworld.specs.Upwards.{upwards, is_subclass, chain}
use Rattle.jworld.proofs.Walking.{found_on_way, on_further_way, on_no_way}
use Rattle.jworld.proofs.classes.Classes.is_subclass.Goals as goal

pub loop-step-init : goal.loop-step-init
unfolding upwards
loop-step-init c =
    let e : c.count-step-end.result - 0 ≡ count c.args.self.now = omega (arith, c.count-step-end.ensures.count) in
    ap (λ most. list_any (λ n. n == c.args.of.n) (chain most c.args.self.now c.args.class.n)) e

pub loop-step-preserved : goal.loop-step-preserved
loop-step-preserved c =
    on_further_way c.args.self.now c.count-step-end.result c.loop-step._step c.args.of.n c.in-Some.class c.super_of-next.result (is_subclass c.args.self.now c.args.class.n c.args.of.n)
    c.loop-step-test.true c.super_of-next.ensures c.if-class-of.false (rw c.in-Some.is at c.loop-step.invariant)

pub returns-then-class-of : goal.returns-then-class-of
returns-then-class-of c =
    found_on_way c.args.self.now c.count-step-end.result c.loop-step._step c.args.of.n c.in-Some.class (is_subclass c.args.self.now c.args.class.n c.args.of.n) c.loop-step-test.true c.if-class-of.true
    (rw c.in-Some.is at c.loop-step.invariant)

pub returns-in_default : goal.returns-in_default
returns-in_default c = rw c.in_default.is at c.loop-step.invariant

pub returns : goal.returns
returns c =
    on_no_way c.args.self.now c.count-step-end.result c.loop-step._step c.args.of.n c.loop-step.next (is_subclass c.args.self.now c.args.class.n c.args.of.n) c.loop-step-test.false c.loop-step.invariant
