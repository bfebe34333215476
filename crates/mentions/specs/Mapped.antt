-- Mapped classes: those that have cells.
use Rattle.std.specs.Prelude.{ℕ, Bool, List, map, ◌==◌}
use Rattle.std.specs.List.{list_any}
use Rattle.jworld.specs.declared.ids.FieldId.{FieldId}
use Rattle.kbind.specs.declared.bound.Bound.{Bound}

abbrev pub is_among : ℕ → List ℕ → Bool
is_among n numbers = list_any (λ number. n == number) numbers

abbrev pub classes_of : List FieldId → List ℕ
classes_of cells = map (λ cell. cell.class.n) cells

unfoldable pub is_mapped : Bound → ℕ → Bool
is_mapped bound class = is_among class (classes_of bound.cells)
