-- Worked examples of arrays where other types are wanted.
use Rattle.std.specs.Prelude.{◌≡◌, ℕ, Bool, true, false, List, [], ◌∷◌, codes}
use Rattle.classfile.specs.ClassFile.{ClassInfo}
use Rattle.stackmap.specs.declared.vtype.VType.TheVariants.{Null, Object}
use Rattle.jworld.specs.Classes.{World}
use Rattle.type_states.specs.Assignable.{is_assignable}

-- a class file, of which only what stands above the class counts here
abbrev pub class_file : List ℕ → ℕ → ClassInfo
class_file name flags =
    record { version = 52; flags = flags; name = name; super_name = codes "java/lang/Object"; super_at = 150; interfaces = []; fields = []; methods = []; pool = [] }

-- the class A and the interface I, which A doesn't implement
abbrev pub files : World
files = class_file (codes "A") 0x0021 ∷ class_file (codes "I") 0x0601 ∷ []

abbrev pub fits_as : List ℕ → List ℕ → Bool
fits_as from to = is_assignable files (Object from) (Object to)

-- of numbers the items are the same, and of objects they may stand for the others
abbrev pub ItemsFit : Type 0
ItemsFit =
    (fits_as (codes "[J") (codes "[I") ≡ false) × (fits_as (codes "[I") (codes "[I") ≡ true) × (fits_as (codes "[LA;") (codes "[Ljava/lang/Object;") ≡ true) × (fits_as (codes "[Ljava/lang/Object;") (codes "[LA;") ≡ false)
    × (fits_as (codes "[I") (codes "[Ljava/lang/Object;") ≡ false) × (fits_as (codes "[[I") (codes "[Ljava/lang/Object;") ≡ true) × (is_assignable files Null (Object (codes "[I")) ≡ true)

-- an array is an Object, and of the two interfaces that arrays implement, but of no other class
abbrev pub ArraysAreCloneable : Type 0
ArraysAreCloneable =
    (fits_as (codes "[I") (codes "java/lang/Object") ≡ true) × (fits_as (codes "[I") (codes "java/lang/Cloneable") ≡ true) × (fits_as (codes "[LA;") (codes "java/io/Serializable") ≡ true)
    × (fits_as (codes "[LA;") (codes "A") ≡ false) × (fits_as (codes "A") (codes "java/lang/Cloneable") ≡ false)

-- where an interface is wanted each class and each array may stand, also as items
abbrev pub InterfacesAreObject : Type 0
InterfacesAreObject = (fits_as (codes "A") (codes "I") ≡ true) × (fits_as (codes "[I") (codes "I") ≡ true) × (fits_as (codes "[LA;") (codes "[LI;") ≡ true) × (fits_as (codes "I") (codes "A") ≡ false)
