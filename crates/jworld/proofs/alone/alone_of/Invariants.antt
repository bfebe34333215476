use Rattle.std.proofs.Common.{◌≡◌, ◌+◌, ℕ, Bool, List}
use Rattle.std.specs.List.{list_any}
use Rattle.jworld.specs.Alone.{owners, alone_among}
use Rattle.jworld.proofs.alone.alone_of.Given as goal

abbrev pub invariant-loop-i : goal.invariant-loop-i
invariant-loop-i l = (name descriptor : List ℕ) (test : ℕ → Bool) → list_any test (owners l.alone name descriptor) ≡ alone_among l.classes (4 + l.i) test name descriptor
