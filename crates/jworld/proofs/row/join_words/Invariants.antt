use Rattle.std.proofs.Common.{◌≡◌, ◌<◌, ◌≤◌, ℕ, slice_index, bit_or}
use Rattle.jworld.proofs.row.join_words.Given as goal

abbrev pub invariant-loop-at : goal.invariant-loop-at
invariant-loop-at l = record {
  done : (k : ℕ) → k < l.at → slice_index l.words k ≡ bit_or (slice_index l.initial.words k) (slice_index l.more k);
  left : (k : ℕ) → l.at ≤ k → slice_index l.words k ≡ slice_index l.initial.words k;
}
