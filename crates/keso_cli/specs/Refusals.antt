-- Why an input isn't compiled: the first fault of the configuration's text, else the first of a class file, in the order of
-- the words, else why these are no world, else the first line of the configuration whose rule fails in this world, else the
-- first fault of what is reached, and else that the input isn't of the first form.
use Rattle.std.specs.Prelude.{◌≡◌, ℕ, ◌+◌, ◌-◌, ◌^◌, min, List, [], ◌∷◌, filter_map, Option, Some, None, Result, Ok, Err, option_map, is_none, slice_index_or, if◌then◌else◌}
use Rattle.std.specs.Option.{option_or}
use Rattle.std.specs.Result.{result_ok}
use Rattle.kes_text.specs.declared.refusal.Refusal.{Refusal}
use Rattle.kes_text.specs.declared.refusal.Kind.TheVariants.{Later}
use Rattle.kes_text.specs.declared.refusal.Stop.{Stop}
use Rattle.kes_text.specs.declared.refusal.Stop.TheVariants.{Refused, NoMemory}
use Rattle.classfile.specs.ClassFile.{ClassInfo}
use Rattle.classfile.specs.Pool.{◌>>=◌}
use Rattle.classfile.specs.Reading.{class_file}
use Rattle.jworld.specs.Faults.{world_fault}
use Rattle.kbind.specs.declared.bound.Bound.{Bound}
use Rattle.kbind.specs.Bound.{bound_of}
use Rattle.reach.specs.Reach.{reach_of}
use Rattle.kconfig.specs.declared.config.Config.{Config}
use Rattle.first_form.specs.Configuration.{configuration}
use Rattle.first_form.specs.declared.config.FirstConfig.{FirstConfig}
use Rattle.first_form.specs.declared.first_class.FirstClass.{FirstClass}
use Rattle.first_form.specs.Fits.{first_form}

-- a file's fault, with the file's number: the configuration is 0, and the first class file 1
abbrev pub fault_of : {A : Type 0} → ℕ → Result A Stop → Option Refusal
fault_of number (Ok read) = None
fault_of number (Err NoMemory) = None
fault_of number (Err (Refused fault)) = Some (record { file = number; kind = fault.kind; at = fault.at })

-- the first of the class files that has one, from this number on
abbrev pub first_fault : ℕ → List (List ℕ) → Option Refusal
first_fault number [] = None
first_fault number (bytes ∷ more) = option_or (fault_of number (class_file bytes)) (first_fault (number + 1) more)

-- the class files that are read
abbrev pub classes_in : List (List ℕ) → List ClassInfo
classes_in files = filter_map (λ bytes. result_ok (class_file bytes)) files

-- the refusal of a class file, which stands one behind its place among them
abbrev pub of_class_file : Refusal → Refusal
of_class_file fault = record { file = fault.file + 1; kind = fault.kind; at = fault.at }

-- why classes are no world
abbrev pub world_refusal : List ClassInfo → Option Refusal
world_refusal classes = option_map of_class_file (world_fault classes)

-- the first line of a configuration whose rule fails in a world
abbrev pub binding_refusal : List ClassInfo → Config → Option Refusal
binding_refusal world config = fault_of 0 (bound_of world config)

-- the first fault of what is reached: that of a method, in their order, else the first call of a service or a portal that
-- initialisers reach, and else the first call on a cycle. The class files are numbered from 0 there; a number of 32 bits
-- stands still at its end
abbrev pub reached_fault : {A : Type 0} → Result A Stop → Option Refusal
reached_fault (Ok reached) = None
reached_fault (Err NoMemory) = None
reached_fault (Err (Refused fault)) = Some (record { file = min (fault.file + 1) (2 ^ 32 - 1); kind = fault.kind; at = fault.at })

abbrev pub reach_refusal : List ClassInfo → Bound → Option Refusal
reach_refusal world bound = reached_fault (reach_of (record { files = world; bound = bound }))

-- of a configuration that is bound
abbrev pub bound_refusal : List ClassInfo → Result Bound Stop → Option Refusal
bound_refusal world (Ok bound) = reach_refusal world bound
bound_refusal world (Err stop) = None

abbrev pub reached_refusal : List ClassInfo → Config → Option Refusal
reached_refusal world config = bound_refusal world (bound_of world config)

-- why a configuration and classes are refused, whatever is asked for
unfoldable pub input_refusal : List ℕ → List (List ℕ) → Option Refusal
input_refusal text files =
    option_or (fault_of 0 (configuration text))
    (option_or (first_fault 1 files)
    (option_or (world_refusal (classes_in files))
    (option_or (result_ok (configuration text) >>= binding_refusal (classes_in files))
    (result_ok (configuration text) >>= reached_refusal (classes_in files)))))

-- what is asked for can't be done with the input yet
abbrev pub later : Refusal
later = record { file = 0; kind = Later; at = 0 }

-- why they aren't compiled
unfoldable pub refusal_of : List ℕ → List (List ℕ) → Option Refusal
refusal_of text files = option_or (input_refusal text files) (if is_none (first_form text files) then Some later else None)

-- an input that isn't refused, and what it says
pub record IsAccepted (text : List ℕ) (files : List (List ℕ)) (config : FirstConfig) (class : FirstClass) : Type 0 where
  pub of_form : first_form text files ≡ Some (config, class)
  pub faultless : refusal_of text files ≡ None

-- the name of the file of a number
abbrev pub name_of : List ℕ → List (List ℕ) → ℕ → List ℕ
name_of config classes number = slice_index_or (config ∷ classes) number []
