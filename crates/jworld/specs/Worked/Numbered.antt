-- Worked examples of classes by name, of superclasses and of the methods that receivers run.
use Rattle.std.specs.Prelude.{◌≡◌, List, [], ◌∷◌, codes, Some, None, true, false}
use Rattle.classfile.specs.ClassFile.{ClassInfo, MethodInfo}
use Rattle.jworld.specs.Classes.{class_named, super_of}
use Rattle.jworld.specs.Upwards.{upwards, is_subclass}
use Rattle.jworld.specs.Members.{method_id}
use Rattle.jworld.specs.Methods.{selected_method}
use Rattle.jworld.specs.Worked.Files.{object, class_file, method, ladder}
use Rattle.jworld.specs.Worked.Resolved.{m}

-- the built-in classes come first
abbrev pub NamesHaveNumbers : Type 0
NamesHaveNumbers =
    (class_named ladder (codes "java/lang/Object") ≡ Some 0) × (class_named ladder (codes "java/lang/RuntimeException") ≡ Some 3) × (class_named ladder (codes "p/I") ≡ Some 4)
    × (class_named ladder (codes "q/B") ≡ Some 7) × (class_named ladder (codes "B") ≡ None)

-- an interface is no superclass but has one
abbrev pub SuperclassesAreAlone : Type 0
SuperclassesAreAlone =
    (super_of ladder 0 ≡ None) × (super_of ladder 3 ≡ Some 2) × (super_of ladder 4 ≡ Some 0) × (super_of ladder 7 ≡ Some 6) × (super_of ladder 8 ≡ None)
    × (upwards ladder 7 ≡ 7 ∷ 6 ∷ 0 ∷ []) × (is_subclass ladder 7 6 ≡ true) × (is_subclass ladder 7 7 ≡ true) × (is_subclass ladder 6 7 ≡ false) × (is_subclass ladder 7 4 ≡ false)

-- C is below B, which is below A: they are the classes 4 to 6
abbrev pub declaring_m : List MethodInfo → List MethodInfo → List ClassInfo
declaring_m of_second of_third =
    class_file (codes "A") object [] (method 90 0x0001 ∷ []) ∷ class_file (codes "B") (codes "A") [] of_second ∷ class_file (codes "C") (codes "B") [] of_third ∷ []

-- a private and a static method of C are passed over, and so is B that declares none; an abstract method is not
abbrev pub PrivateIsPassedOver : Type 0
PrivateIsPassedOver =
    (selected_method (declaring_m [] (method 90 0x0002 ∷ [])) m 6 ≡ Some (method_id 4 0)) × (selected_method (declaring_m [] (method 90 0x0009 ∷ [])) m 6 ≡ Some (method_id 4 0))
    × (selected_method (declaring_m (method 90 0x0401 ∷ []) (method 90 0x0002 ∷ [])) m 6 ≡ Some (method_id 5 0)) × (selected_method (declaring_m [] (method 90 0x0001 ∷ [])) m 6 ≡ Some (method_id 6 0))
    × (selected_method ladder m 7 ≡ None)
