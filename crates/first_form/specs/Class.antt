-- Class files of the first form (JVMS 4.1): no fields, a native method and an entry.
use Rattle.std.specs.Prelude.{ℕ, List, [], ◌∷◌, Option, Some, None, Bool, true, false, ◌&&◌, ◌||◌, not, codes, ◌==◌, if◌then◌else◌}
use Rattle.std.specs.Str.{bytes_eq}
use Rattle.classfile.specs.ClassFile.{ClassInfo, CodeInfo}
use Rattle.classfile.specs.Pool.{◌>>=◌}
use Rattle.first_form.specs.declared.first_class.FirstClass.{FirstClass}
use Rattle.first_form.specs.Code.{operations_in, is_lawful_code, is_plain_code}
use Rattle.first_form.specs.Methods.{native_and_entry, is_set}

abbrev pub is_empty : {X : Type 0} → List X → Bool
is_empty [] = true
is_empty (first ∷ others) = false

abbrev pub begins_with : ℕ → List ℕ → Bool
begins_with c [] = false
begins_with c (b ∷ rest) = b == c

-- the classes that every program has
abbrev pub is_built_in : List ℕ → Bool
is_built_in name =
    bytes_eq name (codes "java/lang/Object") || bytes_eq name (codes "java/lang/Throwable")
    || bytes_eq name (codes "java/lang/Exception") || bytes_eq name (codes "java/lang/RuntimeException")

-- a name that a file may declare: of no array, and of no built-in class
abbrev pub is_own_name : List ℕ → Bool
is_own_name name = not (begins_with 91 name) && not (is_built_in name)

-- the class isn't an interface (ACC_INTERFACE is 0x0200), extends Object, and has no interfaces and no fields
abbrev pub is_plain_class : ClassInfo → Bool
is_plain_class class =
    not (is_set class.flags 0x0200) && is_own_name class.name && bytes_eq class.super_name (codes "java/lang/Object")
    && is_empty class.interfaces && is_empty class.fields

-- the class of these names and of this code, if the code is lawful
abbrev pub class_with : ClassInfo → List ℕ → List ℕ → CodeInfo → Option FirstClass
class_with class native entry code = do
  operations ← operations_in class native code
  if is_plain_class class && is_plain_code code && is_lawful_code code.max_stack code.max_locals operations
      then Some (record { name = class.name; native = native; entry = entry; max_stack = code.max_stack; max_locals = code.max_locals; code = operations })
      else None

-- the class of the first form that a class file has
unfoldable pub class_of : ClassInfo → Option FirstClass
class_of class = do
  methods ← native_and_entry class.methods
  code ← methods.1.code
  class_with class methods.0.name methods.1.name code
