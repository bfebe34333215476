-- Worked examples of first faults of class files, at their places; the super_class of each file stands at 20.
use Rattle.std.specs.Prelude.{◌≡◌, ℕ, List, [], ◌∷◌, codes, Some, None}
use Rattle.std.proofs.Math.ListN.{replicate}
use Rattle.kes_text.specs.declared.refusal.Kind.TheVariants as kind
use Rattle.classfile.specs.ClassFile.{ClassInfo}
use Rattle.jworld.specs.Faults.{first_of_files, large_fault, refusal, world_fault}
use Rattle.jworld.specs.Worked.Files.{object, class_file, interface_file, method, ladder}
use Rattle.jworld.specs.Worked.FieldsFound.{field}

abbrev pub below : List ℕ → List ℕ → List (List ℕ) → ClassInfo
below name super interfaces = class_file name super interfaces []

abbrev pub NamesStandOnce : Type 0
NamesStandOnce =
    (world_fault (below (codes "A") object [] ∷ below (codes "A") object [] ∷ []) ≡ Some (refusal 1 kind.Duplicate 0)) × (world_fault (below object object [] ∷ []) ≡ Some (refusal 0 kind.Duplicate 0))
    × (world_fault (below (codes "A") object [] ∷ below (codes "[I") object [] ∷ []) ≡ Some (refusal 1 kind.Duplicate 0)) × (world_fault ladder ≡ None)

-- the superclass, and the second interface
abbrev pub SupersAreThere : Type 0
SupersAreThere =
    (world_fault (below (codes "A") (codes "B") [] ∷ []) ≡ Some (refusal 0 kind.MissingClass 20))
    × (world_fault (interface_file (codes "I") [] [] ∷ below (codes "A") object (codes "I" ∷ codes "J" ∷ []) ∷ []) ≡ Some (refusal 1 kind.MissingClass 26))
    × (world_fault (interface_file (codes "I") [] [] ∷ below (codes "A") (codes "I") [] ∷ []) ≡ Some (refusal 1 kind.SuperKind 20))
    × (world_fault (below (codes "B") object [] ∷ below (codes "A") object (codes "B" ∷ []) ∷ []) ≡ Some (refusal 1 kind.SuperKind 24))

-- a later name that stands twice comes before an earlier superclass that isn't there; that one, and one of the other kind, come in the order of the files
abbrev pub DuplicatesComeFirst : Type 0
DuplicatesComeFirst =
    (world_fault (below (codes "A") (codes "B") [] ∷ below (codes "A") object [] ∷ []) ≡ Some (refusal 1 kind.Duplicate 0))
    × (world_fault (below (codes "B") object [] ∷ below (codes "A") object (codes "B" ∷ []) ∷ below (codes "C") (codes "D") [] ∷ []) ≡ Some (refusal 1 kind.SuperKind 24))

-- 65,536 fields and methods are not too many, and one more is
abbrev pub MembersAreCounted : Type 0
MembersAreCounted =
    (first_of_files large_fault (record (below (codes "A") object []) { fields = replicate 65536 (field (codes "I")) } ∷ below (codes "B") object [] ∷ []) ≡ None)
    × (first_of_files large_fault (record (below (codes "A") object []) { fields = replicate 65536 (field (codes "I")) } ∷ class_file (codes "B") object [] (method 90 0x0401 ∷ []) ∷ []) ≡ Some (refusal 1 kind.Large 0))
