-- Pairs of texts.
use Rattle.std.specs.Prelude.{ℕ, Bool, ◌&&◌, List, bytes_eq}
use Rattle.std.specs.List.{list_any}

abbrev pub is_pair : List ℕ → List ℕ → List ℕ × List ℕ → Bool
is_pair first second pair = bytes_eq first pair.0 && bytes_eq second pair.1

abbrev pub is_among : List ℕ → List ℕ → List (List ℕ × List ℕ) → Bool
is_among first second pairs = list_any (is_pair first second) pairs
