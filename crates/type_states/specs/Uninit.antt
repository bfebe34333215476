-- Objects that aren't initialised yet (JVMS SE 8, 4.10.1.9: new, and invokespecial of a constructor).
use Rattle.std.specs.Prelude.{ℕ, Bool, true, false, List, ◌∷◌, map, Option, Some, None, ◌==◌, if◌then◌else◌}
use Rattle.std.specs.List.{list_any}
use Rattle.stackmap.specs.declared.vtype.VType.{VType}
use Rattle.stackmap.specs.declared.vtype.VType.TheVariants.{Top, UninitThis, Uninit}
use Rattle.type_states.specs.declared.state.TypeState.{TypeState}

abbrev pub is_same_uninit : VType → VType → Bool
is_same_uninit UninitThis UninitThis = true
is_same_uninit (Uninit a) (Uninit b) = a == b
is_same_uninit _ _ = false

-- one type instead of an object that isn't initialised yet
abbrev pub instead : VType → VType → List VType → List VType
instead old new types = map (λ t. if is_same_uninit old t then new else t) types

abbrev pub instead_in : VType → VType → TypeState → TypeState
instead_in old new state = record { slots = instead old new state.slots; operands = instead old new state.operands }

-- new: its own object is on no operand yet, and a local that has it is none any more
abbrev pub object_made : ℕ → TypeState → Option TypeState
object_made pc state =
    if list_any (is_same_uninit (Uninit pc)) state.operands then None
    else Some (record { slots = instead (Uninit pc) Top state.slots; operands = Uninit pc ∷ state.operands })
