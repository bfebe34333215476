-- Sets of places below 32 as masks: bit k stands for the k-th.
use Rattle.std.specs.Prelude.{◌≡◌, ◌<◌, ◌==◌, ℕ, Bool, List, slice_index}
use Rattle.std.specs.Int.{bit_at}

abbrev pub is_set : ℕ → ℕ → Bool
is_set mask place = bit_at mask place == 1

-- for each of 64 tasks the mask of the places that pass a test
abbrev pub AreMasks : (ℕ → ℕ → Bool) → List ℕ → Type 0
AreMasks test masks = (task place : ℕ) → task < 64 → place < 32 → is_set (slice_index masks task) place ≡ test task place
