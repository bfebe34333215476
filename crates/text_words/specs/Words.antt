-- Words by their bytes.
use Rattle.std.specs.Prelude.{ℕ, Bool, ◌||◌, List, bytes_eq}

-- one of two words
abbrev pub is_either : List ℕ → List ℕ → List ℕ → Bool
is_either first second word = bytes_eq word first || bytes_eq word second
