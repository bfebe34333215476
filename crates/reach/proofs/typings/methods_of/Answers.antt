-- The method of one pair more.
use Rattle.std.proofs.Common.{◌<◌, List, subst, ap, ◌∙◌}
use Rattle.std.specs.Prelude.{length, slice_get}
use Rattle.reaching.specs.declared.pair.Pair.{Pair}
use Rattle.reach.specs.Typings.{with_method}
use Rattle.reach.proofs.Typing.{one_method}
use Rattle.reach.proofs.typings.methods_of.Goals as goal

pub loop-n-preserved : goal.loop-n-preserved
loop-n-preserved c =
    let n = c.loop-n.n in
    let pairs = c.args.pairs.now in
    let lt = rw c.len-n-end.ensures at c.loop-n-test.true in
    c.in_ok-add_method.ensures ∙ ap (with_method c.loop-n.methods) c.get.ensures ∙ ap (λ (methods : List Pair). with_method methods (slice_get pairs n)) c.loop-n.invariant ∙ one_method pairs n lt
