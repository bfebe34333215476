use Rattle.std.proofs.Common.{◌≡◌, ◌==◌, ℕ, length, take}
use Rattle.std.specs.List.{list_any}
use Rattle.jworld.specs.Row.{has_bit}
use Rattle.jworld.proofs.closure.row_of.Given as goal

abbrev pub invariant-loop-number : goal.invariant-loop-number
invariant-loop-number l = record {
  room : length l.row ≡ l.words;
  bits : (j : ℕ) → has_bit l.row j ≡ list_any (λ number. j == number) (take l.number-index l.numbers);
}
