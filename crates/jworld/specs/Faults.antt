-- Why class files are no world: the first fault, in the order of the kinds and of the files.
use Rattle.std.specs.Prelude.{ℕ, ◌<◌, ◌+◌, ◌-◌, ◌^◌, min, Bool, true, false, List, [], ◌∷◌, take, length, sum_by, Option, Some, None, Result, Ok, Err, bytes_eq, ◌==◌, ◌||◌, nat_lt, if◌then◌else◌}
use Rattle.std.specs.List.{list_any}
use mathlib.Core.Bool.{beq}
use Rattle.kes_text.specs.declared.refusal.Kind.{Kind}
use Rattle.kes_text.specs.declared.refusal.Kind.TheVariants as kind
use Rattle.kes_text.specs.declared.refusal.Refusal.{Refusal}
use Rattle.kes_text.specs.declared.refusal.Stop.{Stop}
use Rattle.kes_text.specs.declared.refusal.Stop.TheVariants.{Refused}
use Rattle.classfile.specs.ClassFile.{ClassInfo, MethodInfo}
use Rattle.jworld.specs.Classes.{World, names, class_named, is_interface}
use Rattle.jworld.specs.Above.{is_above}
use Rattle.jworld.specs.Fields.{or_else}
use Rattle.jworld.specs.Packages.{is_split}

-- a refusal of file i at a place; a number of 64 bits stands still at its end
abbrev pub refusal : ℕ → Kind → ℕ → Refusal
refusal i kind place = record { file = i; kind = kind; at = min place (2 ^ 64 - 1) }

-- the first of the files, which are numbered from i on, that has a fault
abbrev pub first_from : (ℕ → ClassInfo → Option Refusal) → ℕ → List ClassInfo → Option Refusal
first_from fault i [] = None
first_from fault i (file ∷ files) = or_else (fault i file) (first_from fault (i + 1) files)

abbrev pub refused_if : Bool → Refusal → Option Refusal
refused_if holds refusal = if holds then Some refusal else None

-- ---- a name that stands already, is built in, or is that of an array

abbrev pub is_array_name : List ℕ → Bool
is_array_name [] = false
is_array_name (c ∷ name) = c == 91

abbrev pub duplicate_fault : World → ℕ → ClassInfo → Option Refusal
duplicate_fault files i file = refused_if (is_array_name file.name || list_any (bytes_eq file.name) (names (take i files))) (refusal i kind.Duplicate 0)

-- ---- a superclass or an interface that isn't there, or is of the other kind

abbrev pub kind_of_super : World → Bool → Option ℕ → Option Kind
kind_of_super files wants_interface None = Some kind.MissingClass
kind_of_super files wants_interface (Some class) = if beq (is_interface files class) wants_interface then None else Some kind.SuperKind

abbrev pub refusal_of : ℕ → ℕ → Option Kind → Option Refusal
refusal_of i place None = None
refusal_of i place (Some kind) = Some (refusal i kind place)

abbrev pub super_fault : World → ℕ → Bool → List ℕ → ℕ → Option Refusal
super_fault files i wants_interface name place = refusal_of i place (kind_of_super files wants_interface (class_named files name))

-- the interfaces, whose index fields stand two bytes apart
abbrev pub interface_fault : World → ℕ → ℕ → List (List ℕ) → Option Refusal
interface_fault files i place [] = None
interface_fault files i place (name ∷ names) = or_else (super_fault files i true name place) (interface_fault files i (place + 2) names)

-- super_class stands before interfaces_count and the interfaces (4.1)
abbrev pub supers_fault : World → ℕ → ClassInfo → Option Refusal
supers_fault files i file = or_else (super_fault files i false file.super_name file.super_at) (interface_fault files i (file.super_at + 4) file.interfaces)

-- ---- a class above itself

abbrev pub cycle_fault : World → ℕ → ClassInfo → Option Refusal
cycle_fault files i file = refused_if (is_above files (4 + i) (4 + i)) (refusal i kind.SuperCycle 0)

-- ---- a method of a package alone that another package declares again

abbrev pub split_in : World → ℕ → List MethodInfo → Option Refusal
split_in files i [] = None
split_in files i (method ∷ methods) = or_else (refused_if (is_split files (4 + i) method) (refusal i kind.SplitPackage method.at)) (split_in files i methods)

abbrev pub split_fault : World → ℕ → ClassInfo → Option Refusal
split_fault files i file = split_in files i file.methods

-- ---- more than 65,536 fields and methods

abbrev pub members : List ClassInfo → ℕ
members files = sum_by (λ file. length file.fields + length file.methods) files

-- the files up to this one have too many
abbrev pub large_fault : World → ℕ → ClassInfo → Option Refusal
large_fault files i file = refused_if (nat_lt 65536 (members (take (i + 1) files))) (refusal i kind.Large 0)

-- ---- the first fault

abbrev pub first_of_files : (World → ℕ → ClassInfo → Option Refusal) → List ClassInfo → Option Refusal
first_of_files fault files = first_from (fault files) 0 files

-- that of files of which no two have one name
abbrev pub misfit : List ClassInfo → Option Refusal
misfit files =
    or_else (first_of_files supers_fault files)
    (or_else (first_of_files cycle_fault files)
    (or_else (first_of_files split_fault files)
    (first_of_files large_fault files)))

unfoldable pub world_fault : List ClassInfo → Option Refusal
world_fault files = or_else (first_of_files duplicate_fault files) (misfit files)

-- a value unless there is a fault
abbrev pub unless : {A : Type 0} → Option Refusal → A → Result A Stop
unless None x = Ok x
unless (Some fault) x = Err (Refused fault)

-- the world of class files, or why they are none
abbrev pub world_of : List ClassInfo → Result World Stop
world_of files = unless (world_fault files) files

-- a fault is that of one of so many files
abbrev pub IsOfFile : ℕ → Stop → Type 0
IsOfFile n (Refused fault) = fault.file < n
IsOfFile n _ = Unit {0}
