use Rattle.std.proofs.Common.{◌∙◌, sym, ⊎_elim, arith}
use Rattle.std.proofs.lemmas.Bool.{cases_lt}
use Rattle.jworld.specs.Classes.{count}
use Rattle.jworld.proofs.Declaring.{superinterfaces_past}
use Rattle.jworld.proofs.Supering.{graph_past}
use Rattle.jworld.proofs.superinterfaces.all_superinterfaces.Goals as goal

pub returns : goal.returns
returns c = λ class.
    ⊎_elim (λ below. c.loop-n.invariant.lists class (omega arith))
    (λ past. graph_past c.loop-n.all class (omega arith) ∙ sym (superinterfaces_past c.args.classes.now class past))
    (cases_lt class (count c.args.classes.now))
