use Rattle.std.proofs.Common.{◌≡◌, sym, ◌∙◌, ap, ◌-◌, arith}
use Rattle.jworld.specs.Classes.{count}
use Rattle.jworld.specs.Upwards.{upwards, chain}
use Rattle.jworld.specs.Fields.{first_found}
use Rattle.jworld.specs.Members.{is_method, declared_method}
use Rattle.jworld.proofs.Walking.{found_first, found_further, found_nowhere}
use Rattle.jworld.proofs.world.World.declared_upwards.Goals as goal

pub loop-step-init : goal.loop-step-init
unfolding upwards
loop-step-init c =
    let e : c.count-step-end.result - 0 ≡ count c.args.self.now = omega (arith, c.count-step-end.ensures.count) in
    ap (λ most. first_found (declared_method c.args.self.now (is_method c.args.key.now)) (chain most c.args.self.now c.args.class.n)) e

pub returns-then-is_some : goal.returns-then-is_some
returns-then-is_some c =
    found_first c.args.self.now c.count-step-end.result c.loop-step._step (declared_method c.args.self.now (is_method c.args.key.now)) (first_found (declared_method c.args.self.now (is_method c.args.key.now)) (upwards c.args.self.now c.args.class.n))
    c.in_ok-class.class c.declared_method-found.result c.loop-step-test.true c.declared_method-found.ensures (sym c.is_some.ensures ∙ c.if-is_some.true)
    (rw c.in_ok-class.was at c.loop-step.invariant)

pub loop-step-preserved : goal.loop-step-preserved
loop-step-preserved c =
    found_further c.args.self.now c.count-step-end.result c.loop-step._step (declared_method c.args.self.now (is_method c.args.key.now)) (first_found (declared_method c.args.self.now (is_method c.args.key.now)) (upwards c.args.self.now c.args.class.n))
    c.in_ok-class.class c.declared_method-found.result c.super_of-next.result c.loop-step-test.true c.declared_method-found.ensures (sym c.is_some.ensures ∙ c.if-is_some.false) c.super_of-next.ensures
    (rw c.in_ok-class.was at c.loop-step.invariant)

pub returns : goal.returns
returns c =
    found_nowhere c.args.self.now c.count-step-end.result c.loop-step._step (declared_method c.args.self.now (is_method c.args.key.now)) (first_found (declared_method c.args.self.now (is_method c.args.key.now)) (upwards c.args.self.now c.args.class.n))
    c.loop-step.next c.loop-step-test.false c.loop-step.invariant
