use Rattle.std.proofs.Common.{sym, ◌∙◌, ap, not, Bor, List, ℕ, bytes_eq}
use Rattle.jworld.proofs.Mapped.{list_any-map}
use Rattle.jworld.proofs.names.Names.insert.Goals as goal

pub returns-clause-added : goal.returns-clause-added
returns-clause-added c =
    rw (← c.self.view_is) (c.in_ok-insert.ensures.added ∙ ap not (sym (list_any-map (bytes_eq c.args.name.now) (λ (k : Bor (List ℕ)). k.now) c.self.inside.set.keys)))
