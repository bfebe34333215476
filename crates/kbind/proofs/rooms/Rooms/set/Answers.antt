use Rattle.std.proofs.Common.{sym, ap, cond, ◌∙◌, ℕ, Option, Some, bytes_eq}
use Rattle.std.proofs.lemmas.Map.Text.{btree_map_updates_str}
use Rattle.kbind.proofs.Keys.{found_text}
use Rattle.kbind.proofs.rooms.Rooms.set.Goals as goal

pub returns : goal.returns
returns c = λ other.
    rw (← c.self.view_is)
    (sym (found_text other c.insert.new.self.entries)
    ∙ btree_map_updates_str c.args.class.now c.self.inside.rooms c.insert.new.self (Some c.args.last) c.in_ok-insert.ensures.updates other
    ∙ ap (λ (o : Option (Option ℕ)). cond (bytes_eq c.args.class.now other) (Some c.args.last) o) (found_text other c.self.inside.rooms.entries))
