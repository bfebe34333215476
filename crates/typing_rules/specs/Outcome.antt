-- What each instruction makes of the frame before it (JVMS SE 8, 4.10.1.9): none where no rule of it holds.
use Rattle.std.specs.Prelude.{ℕ, Bool, true, false, List, [], ◌∷◌, codes, Option, Some, None, is_some, if◌then◌else◌}
use Rattle.classfile.specs.Pool.{◌>>=◌, class_name}
use Rattle.jcode.specs.declared.op.Op.{Op}
use Rattle.jcode.specs.declared.op.Op.TheVariants as op
use Rattle.stackmap.specs.declared.vtype.VType.{VType}
use Rattle.stackmap.specs.declared.vtype.VType.TheVariants.{Integer, Long, Null, Object}
use Rattle.typing_rules.specs.declared.group.Group.TheVariants as group
use Rattle.typing_rules.specs.declared.returned.Returned.TheVariants as returned
use Rattle.type_states.specs.declared.state.TypeState.{TypeState}
use Rattle.type_states.specs.Uninit.{object_made}
use Rattle.typing_rules.specs.Environment.{Environment}
use Rattle.typing_rules.specs.Rules.Arrays.{object_type, item_loaded, item_stored, length_taken, array_made, references_made}
use Rattle.typing_rules.specs.Rules.Locals.{number_loaded, reference_loaded, number_stored, reference_stored, increased, reference_taken, two_references_taken}
use Rattle.typing_rules.specs.Rules.Members.{static_read, static_written, field_read, field_written, static_called, virtual_called, special_called}
use Rattle.typing_rules.specs.Rules.Returns.{value_returned, nothing_returned}
use Rattle.typing_rules.specs.Rules.StackForms.{group_dropped, duplicated, swapped}
use Rattle.typing_rules.specs.Rules.Transition.{transition}

-- the numbers on which an operation works
abbrev pub number : Bool → VType
number true = Long
number false = Integer

abbrev pub two_numbers : Environment → Bool → TypeState → Option TypeState
two_numbers e wide state = transition e.files (number wide ∷ number wide ∷ []) (Some (number wide)) state

-- the count of a shift is an int
abbrev pub shifted : Environment → Bool → TypeState → Option TypeState
shifted e wide state = transition e.files (Integer ∷ number wide ∷ []) (Some (number wide)) state

abbrev pub converted : Environment → VType → VType → TypeState → Option TypeState
converted e from to state = transition e.files (from ∷ []) (Some to) state

abbrev pub cast : Environment → ℕ → TypeState → Option TypeState
cast e index state = do
  name ← class_name e.class.pool index
  transition e.files (object_type ∷ []) (Some (Object name)) state

abbrev pub thrown : Environment → TypeState → Option TypeState
thrown e state = transition e.files (Object (codes "java/lang/Throwable") ∷ []) None state

unfoldable pub outcome : Environment → ℕ → Op → TypeState → Option TypeState
outcome e pc op.Nop state = Some state
outcome e pc op.Null state = transition e.files [] (Some Null) state
outcome e pc (op.Const4 value) state = transition e.files [] (Some Integer) state
outcome e pc (op.Const8 value) state = transition e.files [] (Some Long) state
outcome e pc (op.LoadI slot) state = number_loaded e.files Integer slot state
outcome e pc (op.LoadL slot) state = number_loaded e.files Long slot state
outcome e pc (op.LoadA slot) state = reference_loaded slot state
outcome e pc (op.StoreI slot) state = number_stored e.files Integer slot state
outcome e pc (op.StoreL slot) state = number_stored e.files Long slot state
outcome e pc (op.StoreA slot) state = reference_stored slot state
outcome e pc (op.Inc slot by) state = increased e.files slot state
outcome e pc (op.ArrayLoad shape) state = item_loaded e.files shape state
outcome e pc (op.ArrayStore shape) state = item_stored e.files shape state
outcome e pc op.Pop state = group_dropped group.One state
outcome e pc op.Pop2 state = group_dropped group.Pair state
outcome e pc op.Dup state = duplicated group.One group.Nothing state
outcome e pc op.DupX1 state = duplicated group.One group.One state
outcome e pc op.DupX2 state = duplicated group.One group.Pair state
outcome e pc op.Dup2 state = duplicated group.Pair group.Nothing state
outcome e pc op.Dup2X1 state = duplicated group.Pair group.One state
outcome e pc op.Dup2X2 state = duplicated group.Pair group.Pair state
outcome e pc op.Swap state = swapped state
outcome e pc (op.Add wide) state = two_numbers e wide state
outcome e pc (op.Sub wide) state = two_numbers e wide state
outcome e pc (op.Mul wide) state = two_numbers e wide state
outcome e pc (op.Div wide) state = two_numbers e wide state
outcome e pc (op.Rem wide) state = two_numbers e wide state
outcome e pc (op.Neg wide) state = converted e (number wide) (number wide) state
outcome e pc (op.Shl wide) state = shifted e wide state
outcome e pc (op.Shr wide) state = shifted e wide state
outcome e pc (op.Ushr wide) state = shifted e wide state
outcome e pc (op.And wide) state = two_numbers e wide state
outcome e pc (op.Or wide) state = two_numbers e wide state
outcome e pc (op.Xor wide) state = two_numbers e wide state
outcome e pc op.I2L state = converted e Integer Long state
outcome e pc op.L2I state = converted e Long Integer state
outcome e pc op.I2B state = converted e Integer Integer state
outcome e pc op.I2C state = converted e Integer Integer state
outcome e pc op.I2S state = converted e Integer Integer state
outcome e pc op.CompareL state = transition e.files (Long ∷ Long ∷ []) (Some Integer) state
outcome e pc (op.IfZero test to) state = transition e.files (Integer ∷ []) None state
outcome e pc (op.IfInt test to) state = transition e.files (Integer ∷ Integer ∷ []) None state
outcome e pc (op.IfRef equal to) state = two_references_taken state
outcome e pc (op.IfNull null to) state = reference_taken state
outcome e pc (op.Goto to) state = Some state
outcome e pc (op.Switch cases other) state = transition e.files (Integer ∷ []) None state
outcome e pc op.ReturnI state = value_returned e returned.Int state
outcome e pc op.ReturnL state = value_returned e returned.Long state
outcome e pc op.ReturnA state = value_returned e returned.Reference state
outcome e pc op.Return state = nothing_returned e state
outcome e pc (op.GetStatic index) state = static_read e index state
outcome e pc (op.PutStatic index) state = static_written e index state
outcome e pc (op.GetField index) state = field_read e index state
outcome e pc (op.PutField index) state = field_written e index state
outcome e pc (op.InvokeVirtual index) state = virtual_called e index state
outcome e pc (op.InvokeSpecial index) state = special_called e index state
outcome e pc (op.InvokeStatic index) state = static_called e index state
outcome e pc (op.InvokeInterface index) state = virtual_called e index state
outcome e pc (op.New index) state = object_made pc state
outcome e pc (op.NewArray shape) state = array_made e.files shape state
outcome e pc (op.NewRefs index) state = references_made e index state
outcome e pc op.ArrayLength state = length_taken state
outcome e pc op.Throw state = thrown e state
outcome e pc (op.CheckCast index) state = cast e index state
outcome e pc (op.InstanceOf index) state = converted e object_type Integer state

-- whether the next instruction may come behind an operation
abbrev pub falls_through : Op → Bool
falls_through (op.Goto to) = false
falls_through (op.Switch cases other) = false
falls_through op.ReturnI = false
falls_through op.ReturnL = false
falls_through op.ReturnA = false
falls_through op.Return = false
falls_through op.Throw = false
falls_through _ = true
