-- The number stands at its place in the order.
use Rattle.std.proofs.Common.{ℕ, List, length, ap, ◌∙◌}
use Rattle.std.specs.BTreeMap.{insert_entry}
use Rattle.jworld.specs.Upwards.{upwards}
use Rattle.reach.specs.Starts.{Key, comes_before}
use Rattle.reach.proofs.Ordering.{view, put_kept}
use Rattle.reach.proofs.starts.Starts.put.Goals as goal

pub returns : goal.returns
returns c =
    let domain = c.args.pair.domain in
    rw (← c.self.view_is)
    (ap view c.in_ok-insert.ensures.entries ∙ put_kept c.self.inside.numbers.entries (domain, c.height.result, c.name.result) c.args.number
    ∙ ap (λ (key : Key). insert_entry comes_before (view c.self.inside.numbers.entries) key c.args.number)
    (ap (λ (height : ℕ). (domain, height, c.name.result.now)) c.height.ensures ∙ ap (λ (name : List ℕ). (domain, length (upwards c.args.world.now c.args.pair.method.class.n), name)) c.name.ensures))
