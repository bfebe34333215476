use Rattle.std.proofs.Common.{◌+◌, ap, ◌∙◌}
use Rattle.b_heap.proofs.Adding.{cost_is}
use Rattle.b_heap.proofs.tables.object_cost.Goals as goal

pub returns : goal.returns
returns c = ap (λ n. 8 + n) c.summed.ensures.value ∙ cost_is c.args.world.now c.args.levels.now c.requires.tells c.args.class.n
