-- Slots: what they hold, and what a store makes of them (JVMS SE 8, 4.10.1.9, loads and stores).
use Rattle.std.specs.Prelude.{ℕ, zero, suc, ◌+◌, List, [], ◌∷◌, slice_index_or, if◌then◌else◌}
use Rattle.stackmap.specs.declared.vtype.VType.{VType}
use Rattle.stackmap.specs.declared.vtype.VType.TheVariants.{Top}
use Rattle.type_states.specs.TypeStates.{is_wide}

abbrev pub slot_at : List VType → ℕ → VType
slot_at slots at = slice_index_or slots at Top

-- the slots with another type in one of them
abbrev pub put : List VType → ℕ → VType → List VType
put [] zero t = t ∷ []
put [] (suc at) t = Top ∷ put [] at t
put (s ∷ slots) zero t = t ∷ slots
put (s ∷ slots) (suc at) t = s ∷ put slots at t

-- where a store goes to the second slot of a long or a double, the first holds none any more; where it goes to the first, the second
-- is Top already
abbrev pub ended : List VType → ℕ → List VType
ended slots zero = slots
ended slots (suc before) = if is_wide (slot_at slots before) then put slots before Top else slots

-- a value of this type is stored
unfoldable pub stored : List VType → ℕ → VType → List VType
stored slots at t = if is_wide t then put (put (ended slots at) at t) (at + 1) Top else put (ended slots at) at t
