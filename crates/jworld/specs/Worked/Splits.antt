-- Worked examples of packages, and of methods that are declared again in another one.
use Rattle.std.specs.Prelude.{◌≡◌, ℕ, List, [], ◌∷◌, codes, Some, None}
use Rattle.kes_text.specs.declared.refusal.Kind.TheVariants as kind
use Rattle.classfile.specs.ClassFile.{ClassInfo}
use Rattle.jworld.specs.Packages.{package_of}
use Rattle.jworld.specs.Faults.{first_of_files, split_fault, refusal}
use Rattle.jworld.specs.Worked.Files.{object, class_file, method}

abbrev pub PackagesEndAtTheLastSlash : Type 0
PackagesEndAtTheLastSlash = (package_of (codes "a/b/C") ≡ codes "a/b") × (package_of (codes "C") ≡ []) × (package_of (codes "a/") ≡ codes "a")

-- A declares m, and so does a class below it of this name; the two have these flags
abbrev pub two_classes : List ℕ → ℕ → ℕ → List ClassInfo
two_classes below above_flags flags = class_file below (codes "p/A") [] (method 50 flags ∷ []) ∷ class_file (codes "p/A") object [] (method 40 above_flags ∷ []) ∷ []

-- only what the package alone may override, and only in another package
abbrev pub OtherPackageSplits : Type 0
OtherPackageSplits =
    (first_of_files split_fault (two_classes (codes "q/B") 0 0x0001) ≡ Some (refusal 0 kind.SplitPackage 50)) × (first_of_files split_fault (two_classes (codes "p/B") 0 0x0001) ≡ None)
    × (first_of_files split_fault (two_classes (codes "q/B") 0x0004 0x0001) ≡ None)

-- a private or a static method declares nothing again
abbrev pub PrivateSplitsNothing : Type 0
PrivateSplitsNothing =
    let files = λ (flags : ℕ). class_file (codes "q/B") (codes "p/A") [] (method 50 flags ∷ []) ∷ class_file (codes "p/A") object [] (method 40 0 ∷ []) ∷ [] in
    (first_of_files split_fault (files 0x0002) ≡ None) × (first_of_files split_fault (files 0x0008) ≡ None) × (first_of_files split_fault (files 0) ≡ Some (refusal 0 kind.SplitPackage 50))
