-- Two class files: P has the fields static byte s = 300, boolean b and int i; Q, below P, has long w, static P last and char c.
use Rattle.std.specs.Prelude.{ℕ, ℤ, pos, List, [], ◌∷◌, Option, Some, None, codes}
use Rattle.classfile.specs.ClassFile.{ClassInfo, FieldInfo}
use Rattle.jworld.specs.Classes.{World}

abbrev pub field : ℕ → List ℕ → List ℕ → Option ℤ → FieldInfo
field flags name descriptor constant = record { at = 60; flags = flags; name = name; descriptor = descriptor; constant = constant }

abbrev pub class_file : List ℕ → List ℕ → List FieldInfo → ClassInfo
class_file name super fields = record { version = 52; flags = 0x0021; name = name; super_name = super; super_at = 56; interfaces = []; fields = fields; methods = []; pool = [] }

abbrev pub class_p : ClassInfo
class_p = class_file (codes "P") (codes "java/lang/Object") (field 0x0018 (codes "s") (codes "B") (Some (pos 300)) ∷ field 0 (codes "b") (codes "Z") None ∷ field 0 (codes "i") (codes "I") None ∷ [])

abbrev pub class_q : ClassInfo
class_q = class_file (codes "Q") (codes "P") (field 0 (codes "w") (codes "J") None ∷ field 0x0008 (codes "last") (codes "LP;") None ∷ field 0 (codes "c") (codes "C") None ∷ [])

-- Q is class 4, and P class 5
abbrev pub files : World
files = class_q ∷ class_p ∷ []
