-- Worked examples of methods that superinterfaces declare.
use Rattle.std.specs.Prelude.{◌≡◌, ℕ, List, [], ◌∷◌, codes, Some, None}
use Rattle.classfile.specs.ClassFile.{ClassInfo, MethodInfo}
use Rattle.jnames.specs.declared.keys.MethodKey.{MethodKey}
use Rattle.jworld.specs.Members.{method_id}
use Rattle.jworld.specs.Methods.{declaring, most_specific, interface_of, resolved_method}
use Rattle.jworld.specs.Worked.Files.{object, class_file, interface_file, method}

abbrev pub m : MethodKey
m = record { name = codes "m"; descriptor = codes "()V" }

-- class 6 is below both interfaces, 4 and 5, and 5 is below 4 or isn't
abbrev pub of_interfaces : List (List ℕ) → MethodInfo → MethodInfo → List ClassInfo
of_interfaces above_second first second =
    interface_file (codes "I") [] (first ∷ []) ∷ interface_file (codes "J") above_second (second ∷ []) ∷ class_file (codes "A") object (codes "I" ∷ codes "J" ∷ []) [] ∷ []

-- the one below hides the one above
abbrev pub LowerInterfaceHides : Type 0
LowerInterfaceHides =
    let files = of_interfaces (codes "I" ∷ []) (method 40 0x0001) (method 40 0x0001) in
    (declaring files m 6 ≡ 4 ∷ 5 ∷ []) × (most_specific files m 6 ≡ 5 ∷ []) × (resolved_method files m 6 ≡ Some (method_id 5 0))

-- of two that aren't below each other the one that isn't abstract; of two such ones, and of two abstract ones, the first
abbrev pub OneConcreteIsTaken : Type 0
OneConcreteIsTaken =
    (resolved_method (of_interfaces [] (method 40 0x0401) (method 40 0x0001)) m 6 ≡ Some (method_id 5 0))
    × (resolved_method (of_interfaces [] (method 40 0x0001) (method 40 0x0001)) m 6 ≡ Some (method_id 4 0))
    × (resolved_method (of_interfaces [] (method 40 0x0401) (method 40 0x0401)) m 6 ≡ Some (method_id 4 0))

-- what is private or static in an interface isn't found in a class below it, but in the interface itself
abbrev pub PrivateIsNotInherited : Type 0
PrivateIsNotInherited =
    let files = of_interfaces [] (method 40 0x0002) (method 40 0x0009) in
    (interface_of files m 6 ≡ None) × (resolved_method files m 6 ≡ None) × (resolved_method files m 4 ≡ Some (method_id 4 0))
