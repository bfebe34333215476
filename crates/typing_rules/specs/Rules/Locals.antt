-- Loads, stores and iinc (JVMS SE 8, 4.10.1.9).
use Rattle.std.specs.Prelude.{ℕ, Bool, true, false, Option, Some, None, if◌then◌else◌}
use Rattle.classfile.specs.Pool.{◌>>=◌}
use Rattle.stackmap.specs.declared.vtype.VType.{VType}
use Rattle.stackmap.specs.declared.vtype.VType.TheVariants.{Integer, Null, UninitThis, Object, Uninit}
use Rattle.jworld.specs.Classes.{World}
use Rattle.type_states.specs.declared.state.TypeState.{TypeState}
use Rattle.type_states.specs.Assignable.{is_assignable}
use Rattle.type_states.specs.Slots.{slot_at, stored}
use Rattle.typing_rules.specs.Rules.Transition.{popped, pushed, taken}

-- a reference, also to an object that isn't initialised yet
abbrev pub is_reference : VType → Bool
is_reference Null = true
is_reference UninitThis = true
is_reference (Object name) = true
is_reference (Uninit pc) = true
is_reference _ = false

abbrev pub number_loaded : World → VType → ℕ → TypeState → Option TypeState
number_loaded files number slot state = if is_assignable files (slot_at state.slots slot) number then Some (pushed number state) else None

abbrev pub reference_loaded : ℕ → TypeState → Option TypeState
reference_loaded slot state = if is_reference (slot_at state.slots slot) then Some (pushed (slot_at state.slots slot) state) else None

abbrev pub with_stored : ℕ → VType → TypeState → TypeState
with_stored slot t state = record state { slots = stored state.slots slot t }

abbrev pub number_stored : World → VType → ℕ → TypeState → Option TypeState
number_stored files number slot state = do
  rest ← taken files number state
  Some (with_stored slot number rest)

abbrev pub reference_stored : ℕ → TypeState → Option TypeState
reference_stored slot state = do
  top ← popped state
  if is_reference top.0 then Some (with_stored slot top.0 top.1) else None

abbrev pub increased : World → ℕ → TypeState → Option TypeState
increased files slot state = if is_assignable files (slot_at state.slots slot) Integer then Some state else None

-- without the topmost operand, which has to be a reference
abbrev pub reference_taken : TypeState → Option TypeState
reference_taken state = do
  top ← popped state
  if is_reference top.0 then Some top.1 else None

abbrev pub two_references_taken : TypeState → Option TypeState
two_references_taken state = do
  rest ← reference_taken state
  reference_taken rest
