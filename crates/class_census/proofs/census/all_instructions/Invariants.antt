use Rattle.std.proofs.Common.{◌≡◌, ◌<◌, ◌^◌, drop}
use Rattle.class_census.specs.Counted.{all_instructions, standing_still}
use Rattle.class_census.proofs.Counting.{with_total}
use Rattle.class_census.proofs.census.all_instructions.Given as goal

abbrev pub invariant-loop-method : goal.invariant-loop-method
invariant-loop-method l = record {
  small : l.total < 2 ^ 64;
  so_far : with_total l.total (all_instructions l.class (drop l.method-index l.class.methods)) ≡ standing_still (all_instructions l.class l.class.methods);
}
