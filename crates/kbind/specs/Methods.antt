-- Which method a METHOD names.
use Rattle.std.specs.Prelude.{ℕ, ◌+◌, Bool, List, [], ◌∷◌, ◌++◌, Option, find, bytes_eq}
use Rattle.classfile.specs.ClassFile.{ClassInfo, MethodInfo}
use Rattle.jworld.specs.declared.ids.MethodId.{MethodId}
use Rattle.jworld.specs.Classes.{World, is_set}
use Rattle.jworld.specs.Members.{method_id}
use Rattle.kbind.specs.Shown.{method_word}

-- a method of a class file, with the METHOD that shows it
pub record Declared : Type 0 where
  pub id : MethodId
  pub word : List ℕ
  pub method : MethodInfo

-- methods of one file, the class of which has this number, from the n-th on
abbrev pub methods_from : ClassInfo → ℕ → ℕ → List MethodInfo → List Declared
methods_from file class n [] = []
methods_from file class n (method ∷ methods) = record { id = method_id class n; word = method_word file method; method = method } ∷ methods_from file class (n + 1) methods

-- the methods of files, the first of which has this number
abbrev pub declared_from : ℕ → List ClassInfo → List Declared
declared_from class [] = []
declared_from class (file ∷ files) = methods_from file class 0 file.methods ++ declared_from (class + 1) files

-- the methods of all class files, in the order of the files and of the methods in a file
abbrev pub declared_methods : World → List Declared
declared_methods files = declared_from 4 files

-- the method that a METHOD names: the first that it shows
abbrev pub method_named : List Declared → List ℕ → Option Declared
method_named methods word = find (λ d. bytes_eq word d.word) methods

-- ACC_NATIVE (JVMS SE 8, 4.6)
abbrev pub is_native : MethodInfo → Bool
is_native method = is_set method.flags 0x0100
