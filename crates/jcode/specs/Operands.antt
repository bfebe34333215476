-- The operands of each form but for the switches: the operation, and the bytes behind it (JVMS 6.5).
use Rattle.std.specs.Prelude.{ℕ, ℤ, Bool, List, [], ◌∷◌, slice_get, Option, Some, None, unwrap_or, Result, Ok, Err, if◌then◌else◌}
use Rattle.std.specs.Int.{Width, w8, w16}
use Rattle.jcode.specs.declared.op.Op.{Op}
use Rattle.jcode.specs.declared.op.Op.TheVariants.{Const4, Const8, Inc, NewArray, InvokeInterface}
use Rattle.jnames.specs.declared.shape.Shape.{Shape}
use Rattle.jnames.specs.declared.shape.Shape.TheVariants as shape
use Rattle.classfile.specs.declared.member.MemberKind.TheVariants as kind
use Rattle.classfile.specs.declared.member.Constant.{Constant}
use Rattle.classfile.specs.declared.member.Constant.TheVariants as constant
use Rattle.jcode.specs.declared.fault.Fault.{Fault}
use Rattle.jcode.specs.declared.fault.Fault.TheVariants as faults
use Rattle.jcode.specs.Form.{Wanted, member, class}
use Rattle.jcode.specs.Pool.{Pool, is_member}
use Rattle.jcode.specs.Reading.{◌>>=◌, number_at, signed_at, behind}
use Rattle.jcode.specs.Targets.{target}

-- a value that has to be there
abbrev pub wanted_value : {A : Type 0} → Option A → Result A Fault
wanted_value (Some x) = Ok x
wanted_value None = Err faults.Operand

unfoldable pub immediate_at : Width → (ℤ → Op) → List ℕ → Result (Op × List ℕ) Fault
immediate_at w make bytes = do
  value ← signed_at w bytes
  Ok (make value.0, value.1)

unfoldable pub local_at : Width → (ℕ → Op) → List ℕ → Result (Op × List ℕ) Fault
local_at w make bytes = do
  slot ← number_at w bytes
  Ok (make slot.0, slot.1)

unfoldable pub increment_at : Width → List ℕ → Result (Op × List ℕ) Fault
increment_at w bytes = do
  slot ← number_at w bytes
  by ← signed_at w slot.1
  Ok (Inc slot.0 by.0, by.1)

unfoldable pub branch_at : ℕ → Width → (ℕ → Op) → List ℕ → Result (Op × List ℕ) Fault
branch_at pc w make bytes = do
  far ← signed_at w bytes
  Ok (make (target pc far.0), far.1)

abbrev pub int_of : Option Constant → Option ℤ
int_of (Some (constant.Int value)) = Some value
int_of (Some (constant.Long value)) = None
int_of None = None

abbrev pub long_of : Option Constant → Option ℤ
long_of (Some (constant.Long value)) = Some value
long_of (Some (constant.Int value)) = None
long_of None = None

unfoldable pub int_constant_at : Pool → Width → List ℕ → Result (Op × List ℕ) Fault
int_constant_at pool w bytes = do
  index ← number_at w bytes
  value ← wanted_value (int_of (pool.constant index.0))
  Ok (Const4 value, index.1)

unfoldable pub long_constant_at : Pool → List ℕ → Result (Op × List ℕ) Fault
long_constant_at pool bytes = do
  index ← number_at w16 bytes
  value ← wanted_value (long_of (pool.constant index.0))
  Ok (Const8 value, index.1)

-- whether what is wanted stands at an index
abbrev pub stands : Pool → Wanted → ℕ → Bool
stands pool (member kind) index = is_member pool kind index
stands pool class index = pool.is_class index

unfoldable pub entry_at : Pool → Wanted → (ℕ → Op) → List ℕ → Result (Op × List ℕ) Fault
entry_at pool wanted make bytes = do
  index ← number_at w16 bytes
  if stands pool wanted index.0 then Ok (make index.0, index.1) else Err faults.Operand

unfoldable pub interface_call_at : Pool → List ℕ → Result (Op × List ℕ) Fault
interface_call_at pool bytes = do
  call ← entry_at pool (member kind.Interface) InvokeInterface bytes
  rest ← behind 2 call.1
  Ok (call.0, rest)

-- the types that newarray names, by their numbers (JVMS 6.5, table 6.5.newarray-A), but for float (6) and double (7)
abbrev pub array_shapes : List (Option Shape)
array_shapes =
    None ∷ None ∷ None ∷ None ∷ Some shape.Bool ∷ Some shape.Char ∷ None ∷ None
    ∷ Some shape.Byte ∷ Some shape.Short ∷ Some shape.Int ∷ Some shape.Long ∷ []

abbrev pub array_shape : ℕ → Option Shape
array_shape number = unwrap_or (slice_get array_shapes number) None

unfoldable pub array_type_at : List ℕ → Result (Op × List ℕ) Fault
array_type_at bytes = do
  number ← number_at w8 bytes
  shape ← wanted_value (array_shape number.0)
  Ok (NewArray shape, number.1)
