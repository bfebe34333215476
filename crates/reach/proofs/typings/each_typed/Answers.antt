-- One method more.
use Rattle.std.proofs.Common.{List, sym, ap, ◌∙◌}
use Rattle.method_typing.specs.declared.method.Typed.{Typed}
use Rattle.method_typing.specs.Method.{method_typed}
use Rattle.reach.specs.Typings.{with_typing}
use Rattle.reach.proofs.Typing.{one_typing}
use Rattle.reach.proofs.typings.each_typed.Goals as goal

pub loop-n-preserved : goal.loop-n-preserved
loop-n-preserved c =
    let pair = c.in-Some.pair in
    let world = c.args.world.now in
    c.in_ok-add.ensures ∙ ap (λ (typed : List Typed). with_typing typed (method_typed world pair.method)) c.loop-n.invariant
    ∙ one_typing (λ p. method_typed world p.method) c.args.methods.now c.loop-n.n pair (sym c.get.ensures ∙ c.in-Some.is)
