-- Frames that are declared (JVMS SE 8, 4.7.4): each stands at an instruction, behind the one before.
use Rattle.std.specs.Prelude.{ℕ, ◌+◌, Bool, true, List, [], ◌∷◌, Option, Some, None, nat_le, ◌==◌, ◌&&◌, if◌then◌else◌}
use Rattle.std.specs.List.{list_all}
use Rattle.jcode.specs.declared.op.Ins.{Ins}
use Rattle.jcode.specs.Decoded.{begins_at}
use Rattle.stackmap.specs.declared.frame.Declared.{Declared}
use Rattle.type_states.specs.declared.state.TypeState.{TypeState}
use Rattle.typing_rules.specs.Environment.{is_made}
use Rattle.type_states.specs.TypeStates.{state_of}

-- whether a frame stands at an instruction, behind the frame before, and names a new with each Uninit
abbrev pub is_placed : List Ins → ℕ → Declared → Bool
is_placed code least declared =
    nat_le least declared.pc && begins_at code declared.pc && list_all (is_made code) declared.frame.locals && list_all (is_made code) declared.frame.stack

-- where the first frame stands that doesn't
abbrev pub first_unplaced : List Ins → ℕ → List Declared → Option ℕ
first_unplaced code least [] = None
first_unplaced code least (declared ∷ maps) = if is_placed code least declared then first_unplaced code (declared.pc + 1) maps else Some declared.at

-- the frame that is declared at a place
abbrev pub declared_at : List Declared → ℕ → Option TypeState
declared_at [] pc = None
declared_at (declared ∷ maps) pc = if declared.pc == pc then Some (state_of declared.frame) else declared_at maps pc

-- whether the places of frames rise, from this one on
abbrev pub rise_from : ℕ → List Declared → Bool
rise_from least [] = true
rise_from least (declared ∷ maps) = nat_le least declared.pc && rise_from (declared.pc + 1) maps
