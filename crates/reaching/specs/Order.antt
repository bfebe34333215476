-- Pairs in the order of their first mention, each once.
use Rattle.std.specs.Prelude.{ℕ, Bool, List, [], ◌∷◌, ◌++◌, fold, ◌==◌, ◌&&◌, if◌then◌else◌}
use Rattle.std.specs.List.{list_any}
use Rattle.reaching.specs.declared.pair.Pair.{Pair}

abbrev pub is_same : Pair → Pair → Bool
is_same one other = one.domain == other.domain && one.method.class.n == other.method.class.n && one.method.n == other.method.n

-- a pair that isn't there yet comes behind the others
abbrev pub add : List Pair → Pair → List Pair
add pairs pair = if list_any (is_same pair) pairs then pairs else pairs ++ pair ∷ []

abbrev pub add_all : List Pair → List Pair → List Pair
add_all pairs more = fold add pairs more

-- a pair by its three numbers
abbrev pub pair_of : ℕ × ℕ × ℕ → Pair
pair_of key = record { domain = key.0; method = record { class = record { n = key.1 }; n = key.2 } }
