use Rattle.std.proofs.Common.{sym, ◌∙◌, Bor, List, ℕ, bytes_eq}
use Rattle.jworld.proofs.Mapped.{position-map}
use Rattle.jworld.proofs.names.Names.number.Goals as goal

pub returns : goal.returns
returns c =
    rw (← c.self.view_is) (c.get_index_of.ensures.index ∙ sym (position-map (bytes_eq c.args.name.now) (λ (k : Bor (List ℕ)). k.now) c.self.inside.set.keys))
