use Rattle.std.proofs.Common.{sym, ◌∙◌}
use Rattle.b_machine.proofs.Keeping.{given}
use Rattle.b_machine.proofs.numbers.Numbers.add.Goals as goal

pub returns-in_ok-insert : goal.returns-in_ok-insert
returns-in_ok-insert c =
    let none = rw (← c.self.view_is) at (sym c.get.ensures ∙ c.in-None.is) in
    rw (← c.self.view_is) (λ id. given id c.args.method c.args.number c.self.inside.numbers.entries c.insert.new.self.entries none (c.in_ok-insert.ensures.updates.0 (id.class.n, id.n)))
