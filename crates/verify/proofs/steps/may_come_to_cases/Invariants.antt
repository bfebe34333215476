use Rattle.std.proofs.Common.{◌≡◌, drop, map}
use Rattle.std.specs.List.{list_all}
use Rattle.verify.specs.Steps.{may_come}
use Rattle.verify.proofs.steps.may_come_to_cases.Given as goal

abbrev pub invariant-loop-case : goal.invariant-loop-case
invariant-loop-case l =
    list_all (may_come l.e l.maps l.state) (map (λ case. case.1) (drop l.case-index l.cases)) ≡ list_all (may_come l.e l.maps l.state) (map (λ case. case.1) l.cases)
