use Rattle.std.proofs.Common.{◌≡◌, ℕ, ◌-◌, false, length, get_or}
use Rattle.std.specs.List.{list_any, range_with_len}
use Rattle.jworld.specs.Classes.{count, super_of}
use Rattle.kbind.specs.Cells.{is_that}
use Rattle.kbind.proofs.parents.all_parents.Given as goal

abbrev pub invariant-loop-n : goal.invariant-loop-n
invariant-loop-n l = record {
  all : length l.parents.items ≡ count l.world;
  marks : (k : ℕ) → get_or l.parents.items k false ≡ list_any (λ other. is_that (super_of l.world other) k) (range_with_len l.n (count l.world - l.n));
}
