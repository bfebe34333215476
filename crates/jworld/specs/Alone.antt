-- Methods that classes declare for their package alone: for each name and descriptor the classes that do.
use Rattle.std.specs.Prelude.{◌≡◌, ℕ, Bool, List, [], bytes_eq, ◌&&◌, unwrap_or}
use Rattle.std.specs.List.{list_any, range_with_len}
use Rattle.std.specs.Map.{lookup}
use Rattle.classfile.specs.ClassFile.{MethodInfo}
use Rattle.jworld.specs.Classes.{World, count}
use Rattle.jworld.specs.Members.{methods_of}
use Rattle.jworld.specs.Packages.{is_package_private}

abbrev pub Alone : Type 0
Alone = List ((List ℕ × List ℕ) × List ℕ)

abbrev pub is_key : List ℕ → List ℕ → List ℕ × List ℕ → Bool
is_key name descriptor key = bytes_eq name key.0 && bytes_eq descriptor key.1

abbrev pub owners : Alone → List ℕ → List ℕ → List ℕ
owners alone name descriptor = unwrap_or (lookup (is_key name descriptor) alone) []

-- whether one of these methods has this name and descriptor, for its package alone
abbrev pub declare_alone : List ℕ → List ℕ → List MethodInfo → Bool
declare_alone name descriptor methods = list_any (λ other. is_package_private other && is_key other.name other.descriptor (name, descriptor)) methods

-- whether one of the first classes that passes a test does so
abbrev pub alone_among : World → ℕ → (ℕ → Bool) → List ℕ → List ℕ → Bool
alone_among files classes test name descriptor = list_any (λ class. test class && declare_alone name descriptor (methods_of files class)) (range_with_len 0 classes)

-- of each name and descriptor these are the classes that do
abbrev pub AreAlone : World → Alone → Type 0
AreAlone files alone = (name descriptor : List ℕ) (test : ℕ → Bool) → list_any test (owners alone name descriptor) ≡ alone_among files (count files) test name descriptor
