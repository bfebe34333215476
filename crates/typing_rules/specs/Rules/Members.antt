-- Fields and calls (JVMS SE 8, 4.10.1.9). Access is not looked at.
use Rattle.std.specs.Prelude.{ℕ, Bool, true, false, List, [], ◌∷◌, ◌++◌, map, reverse, Option, Some, None, is_some, option_map, bytes_eq, codes, ◌==◌, ◌&&◌, ◌||◌, if◌then◌else◌}
use Rattle.std.specs.List.{list_any}
use Rattle.classfile.specs.ClassFile.{MemberInfo, FieldInfo}
use Rattle.classfile.specs.Pool.{◌>>=◌, class_name, member}
use Rattle.jnames.specs.Descriptors.{Signature, signature_of}
use Rattle.jworld.specs.Classes.{class_named}
use Rattle.stackmap.specs.declared.vtype.VType.{VType}
use Rattle.stackmap.specs.declared.vtype.VType.TheVariants.{Top, UninitThis, Object, Uninit}
use Rattle.stackmap.specs.Start.{type_of}
use Rattle.type_states.specs.declared.state.TypeState.{TypeState}
use Rattle.type_states.specs.Assignable.{is_assignable, is_subclass_there}
use Rattle.type_states.specs.Uninit.{instead_in}
use Rattle.typing_rules.specs.Environment.{Environment, is_constructor, made_at}
use Rattle.typing_rules.specs.Rules.Transition.{popped, taken, all_taken, transition}

-- ---- fields

-- the field that an index names, and its type
abbrev pub field_named : Environment → ℕ → Option (MemberInfo × VType)
field_named e index = do
  named ← member e.class.pool index
  signature ← signature_of named.descriptor
  answer ← signature.answer
  if signature.is_method then None else Some (named, type_of answer)

abbrev pub static_read : Environment → ℕ → TypeState → Option TypeState
static_read e index state = do
  field ← field_named e index
  transition e.files [] (Some field.1) state

abbrev pub static_written : Environment → ℕ → TypeState → Option TypeState
static_written e index state = do
  field ← field_named e index
  transition e.files (field.1 ∷ []) None state

abbrev pub field_read : Environment → ℕ → TypeState → Option TypeState
field_read e index state = do
  field ← field_named e index
  transition e.files (Object field.0.class ∷ []) (Some field.1) state

abbrev pub is_declared_as : MemberInfo → FieldInfo → Bool
is_declared_as named field = bytes_eq field.name named.name && bytes_eq field.descriptor named.descriptor

-- whether the own class declares a field
abbrev pub is_own_field : Environment → MemberInfo → Bool
is_own_field e named = bytes_eq named.class e.class.name && list_any (is_declared_as named) e.class.fields

abbrev pub is_uninit_this : VType → Bool
is_uninit_this UninitThis = true
is_uninit_this _ = false

-- whether a field may be written in an operand of this type; a constructor may write those of its own class before it calls another
abbrev pub is_writable : Environment → MemberInfo → VType → Bool
is_writable e named receiver = is_assignable e.files receiver (Object named.class) || (is_uninit_this receiver && is_constructor e && is_own_field e named)

abbrev pub field_written : Environment → ℕ → TypeState → Option TypeState
field_written e index state = do
  field ← field_named e index
  below ← taken e.files field.1 state
  receiver ← popped below
  if is_writable e field.0 receiver.0 then Some receiver.1 else None

-- ---- calls

-- the method that an index names
abbrev pub method_named : Environment → ℕ → Option (MemberInfo × Signature)
method_named e index = do
  named ← member e.class.pool index
  signature ← signature_of named.descriptor
  if signature.is_method then Some (named, signature) else None

-- the last argument is the topmost
abbrev pub arguments : Signature → List VType
arguments signature = reverse (map type_of signature.parameters)

abbrev pub answer_type : Signature → Option VType
answer_type signature = option_map type_of signature.answer

abbrev pub is_init : List ℕ → Bool
is_init name = bytes_eq name (codes "<init>")

abbrev pub is_initialiser : List ℕ → Bool
is_initialiser name = is_init name || bytes_eq name (codes "<clinit>")

abbrev pub static_called : Environment → ℕ → TypeState → Option TypeState
static_called e index state = do
  call ← method_named e index
  if is_initialiser call.0.name then None else transition e.files (arguments call.1) (answer_type call.1) state

-- a call with a receiver of this class
abbrev pub called_on : Environment → List ℕ → Signature → TypeState → Option TypeState
called_on e class signature state = transition e.files (arguments signature ++ Object class ∷ []) (answer_type signature) state

abbrev pub virtual_called : Environment → ℕ → TypeState → Option TypeState
virtual_called e index state = do
  call ← method_named e index
  if is_initialiser call.0.name then None else called_on e call.0.class call.1 state

-- the class that the first new at a place makes objects of, if it is this one
abbrev pub made_as : Environment → ℕ → List ℕ → Option (List ℕ)
made_as e pc class = do
  index ← made_at e.instructions pc
  name ← class_name e.class.pool index
  if bytes_eq name class then Some name else None

-- the class that a call of a constructor of this class makes an operand of this type one of
abbrev pub constructed : Environment → List ℕ → VType → Option (List ℕ)
constructed e class UninitThis = if bytes_eq class e.class.name || bytes_eq class e.class.super_name then Some e.class.name else None
constructed e class (Uninit pc) = made_as e pc class
constructed e class _ = None

-- a constructor answers nothing, and from then on its object is initialised
abbrev pub constructor_called : Environment → List ℕ → Signature → TypeState → Option TypeState
constructor_called e class signature state = do
  rest ← all_taken e.files (arguments signature) state
  object ← popped rest
  made ← constructed e class object.0
  if is_some signature.answer then None else Some (instead_in object.0 (Object made) object.1)

-- whether a class is the own one or above it
abbrev pub is_own_or_above : Environment → List ℕ → Bool
is_own_or_above e class = is_subclass_there e.files (Some e.own) (class_named e.files class)

abbrev pub special_called : Environment → ℕ → TypeState → Option TypeState
special_called e index state = do
  call ← method_named e index
  if is_init call.0.name then constructor_called e call.0.class call.1 state
      else if is_initialiser call.0.name then None
      else if is_own_or_above e call.0.class then called_on e e.class.name call.1 state
      else None
