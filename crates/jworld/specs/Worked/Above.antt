-- Worked examples of what stands above what, and of classes above themselves.
use Rattle.std.specs.Prelude.{◌≡◌, [], ◌∷◌, codes, true, false, Some, None}
use Rattle.kes_text.specs.declared.refusal.Kind.TheVariants as kind
use Rattle.jworld.specs.Above.{supers_of, is_above}
use Rattle.jworld.specs.Faults.{first_of_files, cycle_fault, refusal}
use Rattle.jworld.specs.Worked.Files.{object, class_file, interface_file, ladder}

-- superclasses and superinterfaces, direct and indirect; nothing is above itself, or turned round
abbrev pub LadderLeadsUp : Type 0
LadderLeadsUp =
    (supers_of ladder 6 ≡ 0 ∷ 5 ∷ []) × (is_above ladder 7 6 ≡ true) × (is_above ladder 7 5 ≡ true) × (is_above ladder 7 4 ≡ true) × (is_above ladder 7 0 ≡ true) × (is_above ladder 3 1 ≡ true)
    × (is_above ladder 4 7 ≡ false) × (is_above ladder 7 7 ≡ false) × (is_above ladder 7 3 ≡ false) × (is_above ladder 8 0 ≡ false)

-- the first file on a cycle of interfaces, and not the one that leads into it
abbrev pub CycleOfInterfaces : Type 0
CycleOfInterfaces =
    first_of_files cycle_fault (class_file (codes "K") object (codes "X" ∷ []) [] ∷ interface_file (codes "X") (codes "Y" ∷ []) [] ∷ interface_file (codes "Y") (codes "X" ∷ []) [] ∷ [])
    ≡ Some (refusal 1 kind.SuperCycle 0)

abbrev pub CycleOfClasses : Type 0
CycleOfClasses =
    (first_of_files cycle_fault (class_file (codes "K") (codes "L") [] [] ∷ class_file (codes "L") (codes "K") [] [] ∷ []) ≡ Some (refusal 0 kind.SuperCycle 0)) × (first_of_files cycle_fault ladder ≡ None)
