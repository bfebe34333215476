use Rattle.std.proofs.Common.{◌≡◌, ◌<◌, ℕ, [], length, slice_index_or}
use Rattle.jworld.specs.Superinterfaces.{superinterfaces}
use Rattle.jworld.proofs.superinterfaces.all_superinterfaces.Given as goal

abbrev pub invariant-loop-n : goal.invariant-loop-n
invariant-loop-n l = record {
  count : length l.all ≡ l.n;
  lists : (class : ℕ) → class < l.n → slice_index_or l.all class [] ≡ superinterfaces l.classes class;
}
