-- Methods as they are shown: `Class/Name.method(desc)ret`.
use Rattle.std.specs.Prelude.{ℕ, List, [], ◌++◌, codes, Option, Some, None, slice_get}
use Rattle.kes_text.specs.Shown.{shown}
use Rattle.classfile.specs.ClassFile.{ClassInfo, MethodInfo}
use Rattle.jworld.specs.declared.ids.MethodId.{MethodId}
use Rattle.jworld.specs.Classes.{World, file_of}

-- a method of the class of this name
abbrev pub shown_method : List ℕ → MethodInfo → List ℕ
shown_method class method = shown class ++ codes "." ++ shown method.name ++ shown method.descriptor

abbrev pub shown_if_there : List ℕ → Option MethodInfo → List ℕ
shown_if_there class None = []
shown_if_there class (Some method) = shown_method class method

-- the method of this number in a class file
abbrev pub name_in : Option ClassInfo → ℕ → List ℕ
name_in None n = []
name_in (Some file) n = shown_if_there file.name (slice_get file.methods n)

abbrev pub method_name : World → MethodId → List ℕ
method_name files id = name_in (file_of files id.class.n) id.n
