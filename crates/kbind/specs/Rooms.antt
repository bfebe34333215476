-- Up to which base the cells of each CLASS end within the device bytes.
use Rattle.std.specs.Prelude.{◌≡◌, ℕ, Bool, true, List, Option, Some, None, bytes_eq, if◌then◌else◌}
use Rattle.std.specs.Map.{lookup}
use Rattle.kbind.specs.Cells.{is_within}

-- for each CLASS that has cells the last base at which all of them fit, if there is one
abbrev pub Rooms : Type 0
Rooms = List (List ℕ × Option ℕ)

abbrev pub room_in : Rooms → List ℕ → Option (Option ℕ)
room_in rooms class = lookup (bytes_eq class) rooms

-- a CLASS without cells fits at each base
abbrev pub within_room : ℕ → Option (Option ℕ) → Bool
within_room base None = true
within_room base (Some last) = is_within base last

abbrev pub has_room : Rooms → List ℕ → ℕ → Bool
has_room rooms class base = within_room base (room_in rooms class)

-- a CLASS has this last base from now on, and the others have those that they had
abbrev pub HasRoom : List ℕ → Option ℕ → Rooms → Rooms → Type 0
HasRoom class last old new = (other : List ℕ) → room_in new other ≡ (if bytes_eq class other then Some last else room_in old other)
