-- Small class files.
use Rattle.std.specs.Prelude.{ℕ, List, [], ◌∷◌, codes, None}
use Rattle.classfile.specs.ClassFile.{ClassInfo, MethodInfo}

abbrev pub object : List ℕ
object = codes "java/lang/Object"

abbrev pub file : ℕ → List ℕ → List ℕ → List (List ℕ) → List MethodInfo → ClassInfo
file flags name super interfaces methods = record { version = 52; flags = flags; name = name; super_name = super; super_at = 20; interfaces = interfaces; fields = []; methods = methods; pool = [] }

abbrev pub class_file : List ℕ → List ℕ → List (List ℕ) → List MethodInfo → ClassInfo
class_file name super interfaces methods = file 0x0021 name super interfaces methods

abbrev pub interface_file : List ℕ → List (List ℕ) → List MethodInfo → ClassInfo
interface_file name interfaces methods = file 0x0601 name object interfaces methods

-- a method m that takes and answers nothing
abbrev pub method : ℕ → ℕ → MethodInfo
method at flags = record { at = at; flags = flags; name = codes "m"; descriptor = codes "()V"; code = None }

-- A is below J, which is below I; and B is below A: they are the classes 4 to 7
abbrev pub ladder : List ClassInfo
ladder = interface_file (codes "p/I") [] [] ∷ interface_file (codes "p/J") (codes "p/I" ∷ []) [] ∷ class_file (codes "p/A") object (codes "p/J" ∷ []) [] ∷ class_file (codes "q/B") (codes "p/A") [] [] ∷ []
