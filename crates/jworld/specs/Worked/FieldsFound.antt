-- Worked examples of fields over diamonds of interfaces and over superclasses.
use Rattle.std.specs.Prelude.{◌≡◌, ℕ, List, [], ◌∷◌, codes, Some, None}
use Rattle.classfile.specs.ClassFile.{ClassInfo, FieldInfo}
use Rattle.jnames.specs.declared.keys.FieldKey.{FieldKey}
use Rattle.jworld.specs.Members.{field_id}
use Rattle.jworld.specs.Fields.{resolved_field}
use Rattle.jworld.specs.Worked.Files.{object, class_file, interface_file}

abbrev pub x : FieldKey
x = record { name = codes "x"; descriptor = codes "I" }

abbrev pub field : List ℕ → FieldInfo
field descriptor = record { at = 80; flags = 0x0019; name = codes "x"; descriptor = descriptor; constant = None }

abbrev pub with_field : List ℕ → ClassInfo → ClassInfo
with_field descriptor file = record file { fields = field descriptor ∷ [] }

-- J and K, 5 and 6, are below I, 4; I and K declare x; A is class 7, and B, 8, is below A
abbrev pub diamond : List (List ℕ) → ClassInfo → List ClassInfo
diamond of_first second =
    with_field (codes "I") (interface_file (codes "I") [] []) ∷ interface_file (codes "J") (codes "I" ∷ []) [] ∷ with_field (codes "I") (interface_file (codes "K") (codes "I" ∷ []) [])
    ∷ class_file (codes "A") object of_first [] ∷ second ∷ []

abbrev pub below_a : List (List ℕ) → ClassInfo
below_a interfaces = class_file (codes "B") (codes "A") interfaces []

-- over J the field of I is found, before K is asked; the other way round that of K
abbrev pub FirstWayCounts : Type 0
FirstWayCounts =
    (resolved_field (diamond (codes "J" ∷ codes "K" ∷ []) (below_a [])) x 7 ≡ Some (field_id 4 0)) × (resolved_field (diamond (codes "K" ∷ codes "J" ∷ []) (below_a [])) x 7 ≡ Some (field_id 6 0))
    × (resolved_field (diamond (codes "J" ∷ codes "K" ∷ []) (below_a [])) x 8 ≡ Some (field_id 4 0)) × (resolved_field (diamond [] (below_a [])) x 8 ≡ None)

abbrev pub InterfacesComeBeforeTheSuperclass : Type 0
InterfacesComeBeforeTheSuperclass =
    (resolved_field (diamond (codes "J" ∷ []) (below_a (codes "K" ∷ []))) x 8 ≡ Some (field_id 6 0)) × (resolved_field (diamond (codes "J" ∷ []) (with_field (codes "I") (below_a (codes "K" ∷ [])))) x 8 ≡ Some (field_id 8 0))

-- a field of long is another one
abbrev pub DescriptorsTellApart : Type 0
DescriptorsTellApart = resolved_field (diamond (codes "J" ∷ []) (with_field (codes "J") (below_a (codes "K" ∷ [])))) x 8 ≡ Some (field_id 6 0)
