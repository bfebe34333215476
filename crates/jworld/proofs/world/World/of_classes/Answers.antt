use Rattle.std.proofs.Common.{sym, ◌∙◌}
use Rattle.std.proofs.lemmas.Result.{err_from_is_err_and}
use Rattle.jworld.proofs.Making.{duplicate_ends, is_refused, is_world, is_faultless}
use Rattle.jworld.proofs.world.World.of_classes.Goals as goal

pub returns-in_err-classes : goal.returns-in_err-classes
returns-in_err-classes c =
    let p = err_from_is_err_and c.from_residual.result c.from_residual.ensures.1 in
    rw (p.1, p.2) (duplicate_ends c.args.classes.items c.in_err-classes.field-0.0 c.in_err-classes.ensures)

pub returns-in-Some : goal.returns-in-Some
returns-in-Some c = is_refused c.args.classes.items c.in_ok-classes.classes c.in_ok-classes.ensures c.in-Some.fault (sym c.in-Some.is ∙ c.in_ok-fault.ensures)

pub invariant_of-result : goal.invariant_of-result
invariant_of-result c = record {
  faultless = is_faultless c.args.classes.items c.in_ok-classes.classes c.in_ok-classes.ensures (sym c.in-None.is ∙ c.in_ok-fault.ensures);
  above = c.in_ok-above.ensures;
  superinterfaces = c.in_ok-superinterfaces-in-None.ensures;
  found = c.in_ok-found-in-None.ensures;
}

pub returns : goal.returns
returns c = is_world c.args.classes.items c.in_ok-classes.classes c.in_ok-classes.ensures (sym c.in-None.is ∙ c.in_ok-fault.ensures)
