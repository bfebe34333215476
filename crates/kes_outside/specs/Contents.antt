-- What files hold.
use Rattle.std.specs.Prelude.{◌≡◌, ◌≢◌, ℕ, List}
use Rattle.std.specs.Ordering.{nat_cmp}
use Rattle.std.specs.Cmp.Lexicographic.{slice_cmp}
use Rattle.std.specs.FinMap.{FinMap, get}

-- the bytes of each file, by the bytes of its name
abbrev pub Contents : Type 0
Contents = FinMap (slice_cmp nat_cmp) (List ℕ)

-- No file but this one has changed; of this one nothing is told.
abbrev pub OthersStay : List ℕ → Contents → Contents → Type 0
OthersStay name before now = (other : List ℕ) → other ≢ name → get now other ≡ get before other
