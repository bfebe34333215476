-- The fields and methods of classes by name and descriptor.
use Rattle.std.specs.Prelude.{◌≡◌, ℕ, Bool, true, List, [], Option, position, bytes_eq, not, ◌&&◌, slice_index_or}
use Rattle.classfile.specs.ClassFile.{FieldInfo, MethodInfo}
use Rattle.jworld.specs.Classes.{World, file_of}
use Rattle.jworld.specs.Members.{fields_of, methods_in, is_inherited, is_abstract}
use Rattle.jworld.specs.Keyed.{Keyed, place_in}
use Rattle.jworld.specs.declared.found.Wanted.{Wanted}
use Rattle.jworld.specs.declared.found.Wanted.TheVariants as wanted

-- which methods are wanted: all, the instance methods that aren't private, and of these those that aren't abstract
abbrev pub is_wanted : Wanted → MethodInfo → Bool
is_wanted wanted.Any method = true
is_wanted wanted.Inherited method = is_inherited method
is_wanted wanted.Concrete method = is_inherited method && not (is_abstract method)

abbrev pub is_field_named : List ℕ → List ℕ → FieldInfo → Bool
is_field_named name descriptor field = bytes_eq field.name name && bytes_eq field.descriptor descriptor

abbrev pub is_method_named : Wanted → List ℕ → List ℕ → MethodInfo → Bool
is_method_named which name descriptor method = bytes_eq method.name name && bytes_eq method.descriptor descriptor && is_wanted which method

pub record Found : Type 0 where
  pub fields : Keyed
  pub methods : Keyed
  pub inherited : Keyed
  pub concrete : Keyed

-- nothing is found
abbrev pub nothing : Found
nothing = record { fields = []; methods = []; inherited = []; concrete = [] }

abbrev pub methods_by : Wanted → Found → Keyed
methods_by wanted.Any found = found.methods
methods_by wanted.Inherited found = found.inherited
methods_by wanted.Concrete found = found.concrete

abbrev pub field_in : Found → List ℕ → List ℕ → Option ℕ
field_in found name descriptor = place_in found.fields name descriptor

abbrev pub method_in : Wanted → Found → List ℕ → List ℕ → Option ℕ
method_in which found name descriptor = place_in (methods_by which found) name descriptor

-- what is found of these fields and methods is the first of a name and a descriptor
pub record TellsMembers (all_fields : List FieldInfo) (all_methods : List MethodInfo) (found : Found) : Type 0 where
  pub fields : (name descriptor : List ℕ) → field_in found name descriptor ≡ position (is_field_named name descriptor) all_fields
  pub methods : (which : Wanted) (name descriptor : List ℕ) → method_in which found name descriptor ≡ position (is_method_named which name descriptor) all_methods

-- of each class's file; a class without one has nothing here
abbrev pub TellsAllMembers : World → List Found → Type 0
TellsAllMembers files all = (class : ℕ) → TellsMembers (fields_of files class) (methods_in (file_of files class)) (slice_index_or all class nothing)
