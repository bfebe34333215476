-- Sets of numbers as bits of words of 64: bit j % 64 of word j / 64 stands for j.
use Rattle.std.specs.Prelude.{◌≡◌, ℕ, ◌/◌, ◌%◌, Bool, List, [], All, length, slice_index, slice_index_or, ◌==◌}
use Rattle.std.specs.Int.{bit_at}

abbrev pub has_bit : List ℕ → ℕ → Bool
has_bit words j = bit_at (slice_index words (j / 64)) (j % 64) == 1

-- rows of a table: whether row i has j
abbrev pub reaches : List (List ℕ) → ℕ → ℕ → Bool
reaches rows i j = has_bit (slice_index_or rows i []) j

-- rows of so many words each
abbrev pub AreRows : ℕ → List (List ℕ) → Type 0
AreRows words rows = All (λ row. length row ≡ words) rows
