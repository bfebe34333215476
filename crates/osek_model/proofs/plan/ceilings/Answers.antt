use Rattle.std.proofs.Common.{map, ◌∷◌, ◌++◌, [], sym, ap, ◌∙◌, arith}
use Rattle.std.specs.List.{range_with_len}
use Rattle.std.proofs.lemmas.List.FromFn.{map-range_with_len_more}
use Rattle.osek_core.specs.Kernel.Rules.{ceiling}
use Rattle.osek_model.proofs.plan.ceilings.Goals as goal

pub loop-resource-preserved : goal.loop-resource-preserved
loop-resource-preserved c =
    let i = c.loop-resource.resource in
    c.in_ok-push.ensures.items ∙ ap (λ l. l ++ c.ceiling.result ∷ []) c.loop-resource.invariant ∙ ap (λ n. map (ceiling c.args.tasks.now) (range_with_len 0 i) ++ n ∷ []) c.ceiling.ensures
    ∙ sym (map-range_with_len_more (ceiling c.args.tasks.now) 0 i i (omega arith))
