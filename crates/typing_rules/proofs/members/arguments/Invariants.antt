use Rattle.std.proofs.Common.{◌≡◌, ◌≤◌, ◌++◌, length, take, map, reverse}
use Rattle.stackmap.specs.Start.{type_of}
use Rattle.typing_rules.proofs.members.arguments.Given as goal

abbrev pub invariant-loop-at : goal.invariant-loop-at
invariant-loop-at l = record {
  within : l.at ≤ length l.parameters;
  so_far : l.types ++ reverse (map type_of (take l.at l.parameters)) ≡ reverse (map type_of l.parameters);
}

abbrev pub decreases-loop-at : goal.decreases-loop-at
decreases-loop-at l = l.at
