-- Each fault is computed, but the cycle, which is a path of calls.
use Rattle.std.proofs.Common.{[], refl}
use Rattle.csubset.specs.Form.Cycle.{CallsAt, Here, Through}
use Rattle.csubset.specs.Worked.Form.{circle}
use Rattle.csubset.proofs.worked.form_faults.Goals as goal

-- each of the two functions calls the other one
first-calls : CallsAt circle 0 0 1
first-calls = record { to = 0; arguments = []; call = refl }

second-calls : CallsAt circle 1 0 0
second-calls = record { to = 0; arguments = []; call = refl }

pub returns-clause-each : goal.returns-clause-each
returns-clause-each c = record {
  no_label = refl;
  label_twice = refl;
  label_twice_at_the_end = refl;
  no_word = refl;
  no_callee = refl;
  other_arguments = refl;
  callee = refl;
  no_initialiser = refl;
  no_region = refl;
  cycle = (1, (first-calls, Through 1 0 0 0 second-calls (Here 0)));
}
