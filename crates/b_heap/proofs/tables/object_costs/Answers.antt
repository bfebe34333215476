use Rattle.std.proofs.Common.{◌+◌, ℕ, List, [], ◌∷◌, ◌++◌, map, sym, ap, ◌∙◌, arith}
use Rattle.std.specs.List.{range_with_len}
use Rattle.std.proofs.lemmas.List.FromFn.{map-range_with_len_more}
use Rattle.b_heap.specs.Objects.{object_cost}
use Rattle.b_heap.proofs.tables.object_costs.Goals as goal

pub loop-n-preserved : goal.loop-n-preserved
loop-n-preserved c =
    let one = object_cost c.args.world.now in
    c.in_ok-push.ensures.ok ∙ ap (λ (all : List ℕ). all ++ c.object_cost.result ∷ []) c.loop-n.invariant
    ∙ ap (λ (last : ℕ). map one (range_with_len 0 c.loop-n.n) ++ last ∷ []) c.object_cost.ensures
    ∙ sym (map-range_with_len_more one 0 c.loop-n.n c.loop-n.n (omega arith))
