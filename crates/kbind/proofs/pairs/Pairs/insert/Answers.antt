use Rattle.std.proofs.Common.{Bool, ◌||◌, sym, ap, ◌∙◌}
use Rattle.kconfig.proofs.Among.{any_of_map}
use Rattle.kbind.specs.Pairs.{is_pair}
use Rattle.kbind.proofs.Keys.{Key, adds_pair}
use Rattle.kbind.proofs.pairs.Pairs.insert.Goals as goal

pub returns : goal.returns
returns c = λ a b.
    let first = c.args.first.now in
    let second = c.args.second.items in
    rw (← c.self.view_is)
    (any_of_map (is_pair a b) (λ (k : Key). (k.0.now, k.1.items)) c.insert.new.self.keys
    ∙ adds_pair first second c.self.inside.set c.insert.new.self c.in_ok-insert.ensures.updates a b
    ∙ ap (λ (others : Bool). is_pair a b (first, second) || others) (sym (any_of_map (is_pair a b) (λ (k : Key). (k.0.now, k.1.items)) c.self.inside.set.keys)))
