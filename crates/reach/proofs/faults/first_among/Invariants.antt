-- None of the calls before the loop's place is one.
use Rattle.std.proofs.Common.{◌≡◌, drop}
use Rattle.std.specs.List.{find}
use Rattle.reach.specs.Faults.{is_among}
use Rattle.reach.proofs.faults.first_among.Given as goal

abbrev pub invariant-loop-call : goal.invariant-loop-call
invariant-loop-call l = find (is_among l.reached) (drop l.call-index l.calls) ≡ find (is_among l.reached) l.calls
