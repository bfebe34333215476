use Rattle.std.proofs.Common.{unwrap_or, ap, ◌∙◌}
use Rattle.std.proofs.lemmas.Option.{unwrap_or-slice_get}
use Rattle.b_heap.specs.Objects.{object_cost}
use Rattle.b_heap.proofs.fields.Fields.cost.Goals as goal

pub returns-in-None : goal.returns-in-None
returns-in-None c =
    ap (λ o. unwrap_or o 8) c.in-None.ensures.value ∙ unwrap_or-slice_get c.self.inside.tables.costs c.args.class.n 8
    ∙ c.self.invariant.costs c.args.class.n ∙ ap (λ files. object_cost files c.args.class.n) c.self.view_is
