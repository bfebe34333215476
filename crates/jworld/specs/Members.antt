-- The fields and methods that a class declares (JVMS SE 8, 4.5 and 4.6).
use Rattle.std.specs.Prelude.{ℕ, Bool, List, [], ◌∷◌, position, Option, Some, None, option_map, bytes_eq, codes, not, ◌&&◌, ◌||◌, nat_lt, if◌then◌else◌}
use Rattle.classfile.specs.ClassFile.{ClassInfo, FieldInfo, MethodInfo}
use Rattle.jnames.specs.declared.keys.FieldKey.{FieldKey}
use Rattle.jnames.specs.declared.keys.MethodKey.{MethodKey}
use Rattle.jworld.specs.declared.ids.FieldId.{FieldId}
use Rattle.jworld.specs.declared.ids.MethodId.{MethodId}
use Rattle.jworld.specs.Classes.{World, file_of, is_set}

abbrev pub fields_in : Option ClassInfo → List FieldInfo
fields_in None = []
fields_in (Some file) = file.fields

abbrev pub fields_of : World → ℕ → List FieldInfo
fields_of files class = fields_in (file_of files class)

-- each built-in class has its constructor and nothing else; it is public
abbrev pub built_in_constructor : MethodInfo
built_in_constructor = record { at = 0; flags = 0x0001; name = codes "<init>"; descriptor = codes "()V"; code = None }

abbrev pub methods_in : Option ClassInfo → List MethodInfo
methods_in None = []
methods_in (Some file) = file.methods

abbrev pub methods_of : World → ℕ → List MethodInfo
methods_of files class = if nat_lt class 4 then built_in_constructor ∷ [] else methods_in (file_of files class)

abbrev pub is_field : FieldKey → FieldInfo → Bool
is_field key field = bytes_eq field.name key.name && bytes_eq field.descriptor key.descriptor

abbrev pub is_method : MethodKey → MethodInfo → Bool
is_method key method = bytes_eq method.name key.name && bytes_eq method.descriptor key.descriptor

abbrev pub field_id : ℕ → ℕ → FieldId
field_id class n = record { class = record { n = class }; n = n }

abbrev pub method_id : ℕ → ℕ → MethodId
method_id class n = record { class = record { n = class }; n = n }

-- the field of this name and descriptor that a class itself declares
abbrev pub declared_field : World → FieldKey → ℕ → Option FieldId
declared_field files key class = option_map (field_id class) (position (is_field key) (fields_of files class))

-- the first method of a class itself that passes a test
abbrev pub declared_method : World → (MethodInfo → Bool) → ℕ → Option MethodId
declared_method files test class = option_map (method_id class) (position test (methods_of files class))

-- ACC_PRIVATE, ACC_STATIC and ACC_ABSTRACT (4.6)
abbrev pub is_private : MethodInfo → Bool
is_private method = is_set method.flags 0x0002

abbrev pub is_static : MethodInfo → Bool
is_static method = is_set method.flags 0x0008

abbrev pub is_abstract : MethodInfo → Bool
is_abstract method = is_set method.flags 0x0400

-- an instance method that isn't private
abbrev pub is_inherited : MethodInfo → Bool
is_inherited method = not (is_private method || is_static method)
