-- Operands that give way to a result (JVMS SE 8, 4.10.1.4: canPop and validTypeTransition).
use Rattle.std.specs.Prelude.{List, [], ◌∷◌, Option, Some, None, if◌then◌else◌}
use Rattle.classfile.specs.Pool.{◌>>=◌}
use Rattle.stackmap.specs.declared.vtype.VType.{VType}
use Rattle.jworld.specs.Classes.{World}
use Rattle.type_states.specs.declared.state.TypeState.{TypeState}
use Rattle.type_states.specs.Assignable.{is_assignable}

abbrev pub top_of : List VType → Option (VType × List VType)
top_of [] = None
top_of (top ∷ operands) = Some (top, operands)

-- the topmost operand, whatever it is, and the state without it
abbrev pub popped : TypeState → Option (VType × TypeState)
popped state = do
  top ← top_of state.operands
  Some (top.0, record state { operands = top.1 })

abbrev pub pushed : VType → TypeState → TypeState
pushed t state = record state { operands = t ∷ state.operands }

abbrev pub pushed_if : Option VType → TypeState → TypeState
pushed_if None state = state
pushed_if (Some t) state = pushed t state

-- without the topmost operand, which has to be of this type
abbrev pub taken : World → VType → TypeState → Option TypeState
taken files wanted state = do
  top ← popped state
  if is_assignable files top.0 wanted then Some top.1 else None

-- without operands of these types, the topmost first
abbrev pub all_taken : World → List VType → TypeState → Option TypeState
all_taken files [] state = Some state
all_taken files (wanted ∷ others) state = taken files wanted state >>= all_taken files others

abbrev pub transition : World → List VType → Option VType → TypeState → Option TypeState
transition files takes gives state = do
  rest ← all_taken files takes state
  Some (pushed_if gives rest)
