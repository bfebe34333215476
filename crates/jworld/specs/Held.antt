-- What is kept beside class files: the name, the superclass, the superinterfaces and the members of each class, and which classes
-- stand above which.
use Rattle.std.specs.Prelude.{◌≡◌, ◌≤◌, ℕ, List, [], ◌∷◌, ◌++◌, map, length, Option, Some, None}
use Rattle.jworld.specs.Classes.{World, names, class_named}
use Rattle.jworld.specs.Above.{TellsAbove}
use Rattle.jworld.specs.Superinterfaces.{TellsSuperinterfaces}
use Rattle.jworld.specs.Found.{Found, TellsAllMembers}
use Rattle.jworld.specs.Faults.{world_fault}

abbrev pub built_in_supers : List (Option ℕ)
built_in_supers = None ∷ Some 0 ∷ Some 1 ∷ Some 2 ∷ []

-- the superclasses of these files' classes, by number
abbrev pub supers_in : World → List (Option ℕ)
supers_in files = built_in_supers ++ map (λ file. class_named files file.super_name) files

pub record IsHeld (files : World) (held_names : List (List ℕ)) (held_supers : List (Option ℕ)) : Type 0 where
  pub few : length files ≤ 2048
  pub named : held_names ≡ names files
  pub supers : held_supers ≡ supers_in files

-- files without a fault, rows that tell which of their classes stand above which, lists of the superinterfaces of each class, and
-- what is found in each class
pub record IsWorld (files : World) (held_above : List (List ℕ)) (held_superinterfaces : List (List ℕ)) (held_found : List Found) : Type 0 where
  pub faultless : world_fault files ≡ None
  pub above : TellsAbove files held_above
  pub superinterfaces : TellsSuperinterfaces files held_superinterfaces
  pub found : TellsAllMembers files held_found
