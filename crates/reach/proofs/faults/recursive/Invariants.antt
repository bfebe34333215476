-- None of the calls before the loop's place lies on a cycle.
use Rattle.std.proofs.Common.{◌≡◌, drop}
use Rattle.std.specs.List.{find}
use Rattle.call_graph.specs.Cycles.{is_on_cycle}
use Rattle.reach.proofs.faults.recursive.Given as goal

abbrev pub invariant-loop-call : goal.invariant-loop-call
invariant-loop-call l = find (λ call. is_on_cycle l.edges call.place) (drop l.call-index l.calls) ≡ find (λ call. is_on_cycle l.edges call.place) l.calls
