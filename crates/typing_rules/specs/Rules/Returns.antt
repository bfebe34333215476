-- Returns (JVMS SE 8, 4.10.1.9): what the method's descriptor answers; and in a constructor `this` is initialised.
use Rattle.std.specs.Prelude.{Bool, true, false, [], ◌∷◌, Option, Some, None, is_some, not, ◌&&◌, if◌then◌else◌}
use Rattle.std.specs.List.{list_any}
use Rattle.classfile.specs.Pool.{◌>>=◌}
use Rattle.jnames.specs.Descriptors.{signature_of}
use Rattle.stackmap.specs.declared.vtype.VType.{VType}
use Rattle.stackmap.specs.declared.vtype.VType.TheVariants.{Integer, Long, UninitThis, Object}
use Rattle.stackmap.specs.Start.{type_of}
use Rattle.typing_rules.specs.declared.returned.Returned.{Returned}
use Rattle.typing_rules.specs.declared.returned.Returned.TheVariants as returned
use Rattle.type_states.specs.declared.state.TypeState.{TypeState}
use Rattle.typing_rules.specs.Environment.{Environment, is_constructor}
use Rattle.typing_rules.specs.Rules.Transition.{transition}
use Rattle.type_states.specs.Uninit.{is_same_uninit}

-- `this` isn't initialised yet where a local is UninitThis
abbrev pub is_initialised : Environment → TypeState → Bool
is_initialised e state = not (is_constructor e && list_any (is_same_uninit UninitThis) state.slots)

-- whether an ireturn, an lreturn or an areturn returns values of this type
abbrev pub is_returned_by : Returned → VType → Bool
is_returned_by returned.Int Integer = true
is_returned_by returned.Long Long = true
is_returned_by returned.Reference (Object name) = true
is_returned_by _ _ = false

abbrev pub value_returned : Environment → Returned → TypeState → Option TypeState
value_returned e kind state = do
  signature ← signature_of e.method.descriptor
  answer ← signature.answer
  if is_returned_by kind (type_of answer) && is_initialised e state then transition e.files (type_of answer ∷ []) None state else None

abbrev pub nothing_returned : Environment → TypeState → Option TypeState
nothing_returned e state = do
  signature ← signature_of e.method.descriptor
  if not (is_some signature.answer) && is_initialised e state then Some state else None
