use Rattle.std.proofs.Common.{sym, ap, cond, ◌∙◌, ℕ, Option, Some, bytes_eq}
use Rattle.std.proofs.lemmas.Map.Text.{btree_map_updates_str}
use Rattle.jworld.proofs.Placing.{seen}
use Rattle.jworld.proofs.keyed.Places.set.Goals as goal

pub returns : goal.returns
returns c = λ other.
    rw (← c.self.view_is)
    (sym (seen other c.insert.new.self.entries)
    ∙ btree_map_updates_str c.args.text.now c.self.inside.places c.insert.new.self (Some c.args.place) c.in_ok-insert.ensures.updates other
    ∙ ap (λ (o : Option ℕ). cond (bytes_eq c.args.text.now other) (Some c.args.place) o) (seen other c.self.inside.places.entries))
