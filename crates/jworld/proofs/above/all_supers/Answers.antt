use Rattle.std.proofs.Common.{◌∙◌, sym, ⊎_elim, arith}
use Rattle.std.proofs.lemmas.Bool.{cases_lt}
use Rattle.jworld.specs.Classes.{count}
use Rattle.jworld.proofs.NoSupers.{supers_past}
use Rattle.jworld.proofs.Supering.{graph_past}
use Rattle.jworld.proofs.above.all_supers.Goals as goal

pub returns-clause-supers : goal.returns-clause-supers
returns-clause-supers c = λ class.
    ⊎_elim (λ below. c.loop-n.invariant.supers class (omega arith))
    (λ past. graph_past c.loop-n.all class (omega arith) ∙ sym (supers_past c.args.classes.now class past))
    (cases_lt class (count c.args.classes.now))
