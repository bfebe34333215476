use Rattle.std.proofs.Common.{◌≡◌, ◌<◌, ◌≤◌, ◌==◌, ◌⊎◌, ℕ, false, length, slice_index}
use Rattle.jworld.proofs.splits.package_of.Given as goal

abbrev pub invariant-loop-i : goal.invariant-loop-i
invariant-loop-i l = record {
  within : l.end ≤ length l.name;
  slash : (l.end ≡ 0) ⊎ (slice_index l.name l.end ≡ 47);
  last : (k : ℕ) → l.end < k → k < l.i → (slice_index l.name k == 47) ≡ false;
}
