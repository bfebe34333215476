-- The bases that objects have taken.
use Rattle.std.specs.Prelude.{◌≡◌, ℕ, Bool, false, ◌||◌, not, nat_eq, List, Option, Some, None, bytes_eq, if◌then◌else◌}
use Rattle.std.specs.Map.{lookup}
use Rattle.kbind.specs.declared.bases.Taken.{Taken}

-- for each base the CLASS of the first object there, and whether one of another CLASS stands there as well
abbrev pub Bases : Type 0
Bases = List (ℕ × Taken)

abbrev pub taken_at : Bases → ℕ → Option Taken
taken_at bases base = lookup (nat_eq base) bases

-- whether another CLASS has taken the base
abbrev pub by_another : Option Taken → List ℕ → Bool
by_another None class = false
by_another (Some taken) class = taken.shared || not (bytes_eq taken.class.now class)

abbrev pub is_taken : Bases → ℕ → List ℕ → Bool
is_taken bases base class = by_another (taken_at bases base) class

-- a base is taken so from now on, and the others as they were
abbrev pub HasTaken : ℕ → Taken → Bases → Bases → Type 0
HasTaken base taken old new = (other : ℕ) → taken_at new other ≡ (if nat_eq base other then Some taken else taken_at old other)
