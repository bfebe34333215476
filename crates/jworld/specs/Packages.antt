-- Methods that only their package may override, and those that are declared again in another package (JVMS SE 8, 5.4.5).
use Rattle.std.specs.Prelude.{ℕ, Bool, List, [], ◌∷◌, bytes_eq, codes, bit_and, not, ◌==◌, ◌&&◌, slice_index_or, if◌then◌else◌}
use Rattle.std.specs.List.{list_any, range_with_len}
use Rattle.classfile.specs.ClassFile.{MethodInfo}
use Rattle.jworld.specs.Classes.{World, count, names}
use Rattle.jworld.specs.Above.{is_above}
use Rattle.jworld.specs.Members.{methods_of, is_inherited}

-- a class's name up to its last slash
unfoldable pub package_of : List ℕ → List ℕ
package_of [] = []
package_of (b ∷ name) = if list_any (λ c. c == 47) name then b ∷ package_of name else []

abbrev pub is_same_key : MethodInfo → MethodInfo → Bool
is_same_key a b = bytes_eq a.name b.name && bytes_eq a.descriptor b.descriptor

-- an instance method, no constructor, that is neither public, private nor protected: of the flags 1, 2, 4 and 8 none is set
abbrev pub is_package_private : MethodInfo → Bool
is_package_private method = not (bytes_eq method.name (codes "<init>")) && bit_and method.flags 0x000F == 0

abbrev pub package_at : World → ℕ → List ℕ
package_at files class = package_of (slice_index_or (names files) class [])

-- whether a class above declares a method for its package alone, which this one of a class in another package declares again
abbrev pub is_split : World → ℕ → MethodInfo → Bool
is_split files class method =
    is_inherited method
    && list_any (λ above. is_above files class above && not (bytes_eq (package_at files above) (package_at files class))
    && list_any (λ other. is_package_private other && is_same_key other method) (methods_of files above)) (range_with_len 0 (count files))
