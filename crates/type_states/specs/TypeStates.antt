-- Frames slot by slot (JVMS SE 8, 4.10.1.4): a long or a double takes two slots, of which the second is Top, and two places of the
-- operand stack. Operands stand from the top.
use Rattle.std.specs.Prelude.{ℕ, ◌+◌, Bool, true, false, List, [], ◌∷◌, length, reverse, nat_le, ◌&&◌, if◌then◌else◌}
use Rattle.stackmap.specs.declared.frame.Frame.{Frame}
use Rattle.stackmap.specs.declared.vtype.VType.{VType}
use Rattle.stackmap.specs.declared.vtype.VType.TheVariants.{Top, Double, Long}
use Rattle.type_states.specs.declared.state.TypeState.{TypeState}

abbrev pub is_wide : VType → Bool
is_wide Double = true
is_wide Long = true
is_wide _ = false

-- the slots of a frame's locals
abbrev pub slots_of : List VType → List VType
slots_of [] = []
slots_of (t ∷ types) = if is_wide t then t ∷ Top ∷ slots_of types else t ∷ slots_of types

-- the locals of a frame with these slots; the second slot of a long or a double has none of its own
abbrev pub entries_of : Bool → List VType → List VType
entries_of is_second [] = []
entries_of true (t ∷ slots) = entries_of false slots
entries_of false (t ∷ slots) = t ∷ entries_of (is_wide t) slots

abbrev pub state_of : Frame → TypeState
state_of frame = record { slots = slots_of frame.locals; operands = reverse frame.stack }

abbrev pub frame_of : TypeState → Frame
frame_of state = record { locals = entries_of false state.slots; stack = reverse state.operands }

abbrev pub size_of : VType → ℕ
size_of t = if is_wide t then 2 else 1

-- how many places operands take
abbrev pub places : List VType → ℕ
places [] = 0
places (t ∷ operands) = size_of t + places operands

-- whether a frame keeps max_stack and max_locals (4.7.3)
abbrev pub is_within : ℕ → ℕ → TypeState → Bool
is_within max_stack max_locals state = nat_le (places state.operands) max_stack && nat_le (length state.slots) max_locals
