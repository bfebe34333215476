-- The classes of the cells before the loop's place are there.
use Rattle.std.proofs.Common.{◌≡◌, ◌||◌, ℕ, take}
use Rattle.mentions.specs.Mapped.{is_among, classes_of}
use Rattle.mentions.proofs.mapped.Mapped.add_all.Given as goal

abbrev pub invariant-loop-cell : goal.invariant-loop-cell
invariant-loop-cell l = (n : ℕ) → is_among n l.self ≡ (is_among n l.fn.self || is_among n (classes_of (take l.cell-index l.cells)))
