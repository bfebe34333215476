-- Worked examples of longs, which take two slots.
use Rattle.std.specs.Prelude.{◌≡◌, [], ◌∷◌}
use Rattle.stackmap.specs.declared.vtype.VType.TheVariants.{Top, Integer, Long}
use Rattle.type_states.specs.Slots.{stored}

-- a store into one slot of a long takes the other with it; one behind the last makes those between Top
abbrev pub HalvesAreLost : Type 0
HalvesAreLost =
    (stored (Long ∷ Top ∷ []) 1 Integer ≡ Top ∷ Integer ∷ []) × (stored (Long ∷ Top ∷ []) 0 Integer ≡ Integer ∷ Top ∷ []) × (stored (Integer ∷ Long ∷ Top ∷ []) 0 Long ≡ Long ∷ Top ∷ Top ∷ [])
    × (stored (Integer ∷ Long ∷ Top ∷ []) 2 Long ≡ Integer ∷ Top ∷ Long ∷ Top ∷ []) × (stored [] 2 Integer ≡ Top ∷ Top ∷ Integer ∷ [])
