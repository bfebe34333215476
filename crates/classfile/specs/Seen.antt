-- Members by whether they are methods, their name and their descriptor.
use Rattle.std.specs.Prelude.{ℕ, List, Bool, bytes_eq, ◌&&◌}
use mathlib.Core.Bool.{beq}

-- whether a field or method, its name and its descriptor
abbrev pub Key : Type 0
Key = Bool × List ℕ × List ℕ

abbrev pub is_same : Key → Key → Bool
is_same key other = (beq key.0 other.0 && bytes_eq key.1 other.1) && bytes_eq key.2 other.2
