-- Worked examples of frames slot by slot, and of which may stand where another is declared.
use Rattle.std.specs.Prelude.{◌≡◌, true, false, [], ◌∷◌}
use Rattle.stackmap.specs.declared.vtype.VType.TheVariants.{Top, Integer, Long, Null, UninitThis, Uninit}
use Rattle.type_states.specs.Assignable.{are_slots_assignable, are_operands_assignable}
use Rattle.type_states.specs.TypeStates.{state_of, frame_of, places}

-- a long takes two slots and two places; a stack's last is the topmost operand; and back again
abbrev pub LongsTakeTwo : Type 0
LongsTakeTwo =
    (state_of (record { locals = Long ∷ Integer ∷ []; stack = Integer ∷ Long ∷ [] }) ≡ record { slots = Long ∷ Top ∷ Integer ∷ []; operands = Long ∷ Integer ∷ [] })
    × (frame_of (record { slots = Long ∷ Top ∷ Integer ∷ []; operands = Long ∷ Integer ∷ [] }) ≡ record { locals = Long ∷ Integer ∷ []; stack = Integer ∷ Long ∷ [] })
    × (places (Long ∷ Integer ∷ []) ≡ 3)

-- everything is a Top of the locals, and a slot that isn't there is one; on a stack Top takes Top alone, and the depths are the same
abbrev pub SlotsMayBeForgotten : Type 0
SlotsMayBeForgotten =
    (are_slots_assignable [] (Long ∷ Top ∷ Integer ∷ []) (Top ∷ Top ∷ Integer ∷ []) ≡ true) × (are_slots_assignable [] [] (Top ∷ []) ≡ true) × (are_slots_assignable [] [] (Integer ∷ []) ≡ false)
    × (are_slots_assignable [] (Uninit 3 ∷ []) (Uninit 4 ∷ []) ≡ false) × (are_operands_assignable [] (Integer ∷ []) (Top ∷ []) ≡ false) × (are_operands_assignable [] (Integer ∷ []) [] ≡ false)
    × (are_operands_assignable [] (Null ∷ []) (UninitThis ∷ []) ≡ false)
