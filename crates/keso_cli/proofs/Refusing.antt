-- Why an input that wasn't compiled is refused.
use Rattle.std.proofs.Common.{◌≡◌, ℕ, zero, suc, ◌+◌, ◌-◌, ◌<◌, ◌≤◌, List, [], ◌∷◌, length, map, take, drop, get_or, Option, Some, None, Result, Ok, Err, refl, sym, ap, subst, ◌∙◌, arith}
use Rattle.std.specs.Prelude.{unwrap_or, is_none, option_map, slice_index_or, if◌then◌else◌}
use Rattle.std.specs.Option.{option_or}
use Rattle.std.specs.Result.{result_ok}
use Rattle.classfile.specs.ClassFile.{ClassInfo}
use Rattle.classfile.specs.Pool.{◌>>=◌}
use Rattle.classfile.specs.Reading.{class_file}
use Rattle.jworld.specs.Faults.{world_fault}
use Rattle.kbind.specs.declared.bound.Bound.{Bound}
use Rattle.kbind.specs.Bound.{bound_of}
use Rattle.kconfig.specs.declared.config.Config.{Config}
use Rattle.kes_text.specs.declared.refusal.Refusal.{Refusal}
use Rattle.kes_text.specs.declared.refusal.Stop.{Stop}
use Rattle.kes_text.specs.declared.refusal.Stop.TheVariants as stop
use Rattle.first_form.specs.declared.config.FirstConfig.{FirstConfig}
use Rattle.first_form.specs.declared.first_class.FirstClass.{FirstClass}
use Rattle.keso_cli.specs.declared.trouble.Trouble.{Trouble}
use Rattle.keso_cli.specs.declared.trouble.Trouble.TheVariants.{Usage, CannotRead, Refused, CannotWrite, CannotWriteOutput, NoMemory}
use Rattle.first_form.specs.Configuration.{configuration}
use Rattle.first_form.specs.Class.{class_of}
use Rattle.first_form.specs.Config.{config_of}
use Rattle.first_form.specs.Fits.{if_they_fit, only_class, first_form}
use Rattle.keso_cli.specs.Refusals.{IsAccepted, fault_of, first_fault, classes_in, of_class_file, world_refusal, binding_refusal, reach_refusal, bound_refusal, reached_refusal, later, input_refusal, refusal_of, name_of}
use Rattle.keso_cli.specs.Stops.{FileStops, ClassesStop, FaultStops, InputStops, CompileStops}
use Rattle.keso_cli.specs.Taken.{IsBoundTo, IsTaken}
use Rattle.run_input.proofs.Inputs.{config_is}
use Rattle.first_form.proofs.Headline.Inversion.{none_is_some}

pub never_fits : (config : Option FirstConfig) → if_they_fit config None ≡ None
never_fits None = refl
never_fits (Some config) = refl

-- a fault has its file's number
file_is : {A : Type 0} (number : ℕ) (read : Result A Stop) (r : Refusal) → fault_of number read ≡ Some r → number ≡ r.file
file_is number (Ok read) r e = absurd (none_is_some r e)
file_is number (Err stop.NoMemory) r e = absurd (none_is_some r e)
file_is number (Err (stop.Refused fault)) r e = ap (λ o. (unwrap_or o r).file) e

-- why an input is refused that is bound, and one whose classes are read
abbrev when_bound : Result Config Stop → List ClassInfo → Option Refusal
when_bound read classes = result_ok read >>= reached_refusal classes

abbrev in_world : Result Config Stop → List ClassInfo → Option Refusal
in_world read classes = option_or (world_refusal classes) (option_or (result_ok read >>= binding_refusal classes) (when_bound read classes))

config_refused : (text : List ℕ) (files : List (List ℕ)) (r : Refusal) → fault_of 0 (configuration text) ≡ Some r → input_refusal text files ≡ Some r
unfolding input_refusal
config_refused text files r e =
    ap (λ fault. option_or fault (option_or (first_fault 1 files) (in_world (configuration text) (classes_in files)))) e

class_refused : (text : List ℕ) (files : List (List ℕ)) (config : Config) (r : Refusal) → configuration text ≡ Ok config → first_fault 1 files ≡ Some r → input_refusal text files ≡ Some r
unfolding input_refusal
class_refused text files config r ok e =
    ap (λ read. option_or (fault_of 0 read) (option_or (first_fault 1 files) (in_world read (classes_in files)))) ok
    ∙ ap (λ fault. option_or fault (in_world (Ok config) (classes_in files))) e

-- a fault of the file of this number and name stops the build where the input is refused for it
file_stops : {A : Type 0} (trouble : Trouble) (config : List ℕ) (classes : List (List ℕ)) (text : List ℕ) (files : List (List ℕ)) (read : Result A Stop)
    → ((r : Refusal) → fault_of 0 read ≡ Some r → input_refusal text files ≡ Some r) → FileStops trouble 0 config read → InputStops trouble config classes text files
file_stops (Refused refusal name) config classes text files read refused h =
    (h.0 ∙ ap (name_of config classes) (file_is 0 read refusal h.1), refused refusal h.1)
file_stops NoMemory config classes text files read refused h = tt
file_stops Usage config classes text files read refused h = absurd h
file_stops (CannotRead name) config classes text files read refused h = absurd h
file_stops (CannotWrite name) config classes text files read refused h = absurd h
file_stops CannotWriteOutput config classes text files read refused h = absurd h

pub config_stops : (trouble : Trouble) (config : List ℕ) (classes : List (List ℕ)) (text : List ℕ) (files : List (List ℕ)) → FileStops trouble 0 config (configuration text) → InputStops trouble config classes text files
config_stops trouble config classes text files h = file_stops trouble config classes text files (configuration text) (config_refused text files) h

-- the class files' names stand behind the configuration's
named_behind : (config : List ℕ) (classes : List (List ℕ)) (number : ℕ) → 1 ≤ number → slice_index_or classes (number - 1) [] ≡ name_of config classes number
named_behind config classes (suc number) least = ap (λ k. slice_index_or classes k []) (omega arith)
named_behind config classes zero least = absurd (omega (least, arith))

-- a fault of a class file stops the build where the input is refused for it
class_file_stops : (trouble : Trouble) (config : List ℕ) (classes : List (List ℕ)) (text : List ℕ) (files : List (List ℕ)) (fault : Option Refusal)
    → ((r : Refusal) → fault ≡ Some r → input_refusal text files ≡ Some r) → ClassesStop trouble classes fault → InputStops trouble config classes text files
class_file_stops (Refused refusal name) config classes text files fault refused h =
    (h.1 ∙ named_behind config classes refusal.file h.2, refused refusal h.0)
class_file_stops NoMemory config classes text files fault refused h = tt
class_file_stops Usage config classes text files fault refused h = absurd h
class_file_stops (CannotRead name) config classes text files fault refused h = absurd h
class_file_stops (CannotWrite name) config classes text files fault refused h = absurd h
class_file_stops CannotWriteOutput config classes text files fault refused h = absurd h

pub classes_stop : (trouble : Trouble) (config : List ℕ) (classes : List (List ℕ)) (text : List ℕ) (files : List (List ℕ)) (read : Config) → configuration text ≡ Ok read
    → ClassesStop trouble classes (first_fault 1 files) → InputStops trouble config classes text files
classes_stop trouble config classes text files read ok h =
    class_file_stops trouble config classes text files (first_fault 1 files) (λ r e. class_refused text files read r ok e) h

-- the first class file that isn't read, behind those that are
at_fault : {W : Type 0} (bytes : W → List ℕ) (number i : ℕ) (files : List W) (classes : List ClassInfo) (item : W) (r : Refusal) → map class_file (map bytes (take i files)) ≡ map Ok classes
    → i < length files → item ≡ get_or files i item → fault_of (number + i) (class_file (bytes item)) ≡ Some r → first_fault number (map bytes files) ≡ Some r
at_fault bytes number i [] classes item r read lt is e = absurd (omega (lt, arith))
at_fault bytes number zero (file ∷ files) classes item r read lt is e =
    let here : fault_of number (class_file (bytes file)) ≡ Some r = ap (λ f. fault_of number (class_file (bytes f))) (sym is) ∙ subst (λ n. fault_of n (class_file (bytes item)) ≡ Some r) (omega arith) e in
    ap (λ fault. option_or fault (first_fault (number + 1) (map bytes files))) here
at_fault bytes number (suc i) (file ∷ files) [] item r read lt is e = absurd (let n = ap length read in omega (arith, n))
at_fault bytes number (suc i) (file ∷ files) (class ∷ classes) item r read lt is e =
    let one : class_file (bytes file) ≡ Ok class = ap (λ l. slice_index_or l 0 (Ok class)) read in
    ap (λ read. option_or (fault_of number read) (first_fault (number + 1) (map bytes files))) one
    ∙ at_fault bytes (number + 1) i files classes item r (ap (λ l. drop 1 l) read) (omega (lt, arith)) is (subst (λ n. fault_of n (class_file (bytes item)) ≡ Some r) (omega arith) e)

pub class_stops : {W : Type 0} (bytes : W → List ℕ) (names : List (List ℕ)) (files : List W) (i : ℕ) (classes : List ClassInfo) (item : W) (trouble : Trouble) → map class_file (map bytes (take i files)) ≡ map Ok classes
    → i < length files → item ≡ get_or files i item → FileStops trouble (i + 1) (slice_index_or names i []) (class_file (bytes item)) → ClassesStop trouble names (first_fault 1 (map bytes files))
class_stops bytes names files i classes item (Refused refusal name) read lt is h =
    let file : i + 1 ≡ refusal.file = file_is (i + 1) (class_file (bytes item)) refusal h.1 in (
      at_fault bytes 1 i files classes item refusal read lt is (subst (λ n. fault_of n (class_file (bytes item)) ≡ Some refusal) (omega arith) h.1),
      h.0 ∙ ap (λ k. slice_index_or names k []) (omega (file, arith)),
      omega (file, arith),
    )
class_stops bytes names files i classes item NoMemory read lt is h = tt
class_stops bytes names files i classes item Usage read lt is h = absurd h
class_stops bytes names files i classes item (CannotRead name) read lt is h = absurd h
class_stops bytes names files i classes item (CannotWrite name) read lt is h = absurd h
class_stops bytes names files i classes item CannotWriteOutput read lt is h = absurd h

-- class files that are all read have no fault
all_read : (number : ℕ) (files : List (List ℕ)) (classes : List ClassInfo) → map class_file files ≡ map Ok classes → first_fault number files ≡ None
all_read number [] classes e = refl
all_read number (file ∷ files) [] e = absurd (let n = ap length e in omega (arith, n))
all_read number (file ∷ files) (class ∷ classes) e =
    let one : class_file file ≡ Ok class = ap (λ l. slice_index_or l 0 (Ok class)) e in
    ap (λ read. option_or (fault_of number read) (first_fault (number + 1) files)) one ∙ all_read (number + 1) files classes (ap (λ l. drop 1 l) e)

-- of the first form they are where there is one of them, and it is
pub form_is : (text : List ℕ) (files : List (List ℕ)) (config : Config) (classes : List ClassInfo) → configuration text ≡ Ok config → map class_file files ≡ map Ok classes
    → first_form text files ≡ if_they_fit (config_of config) (only_class classes)
form_is text [] config [] ok e = sym (never_fits (config_of config))
form_is text [] config (class ∷ classes) ok e = absurd (let n = ap length e in omega (arith, n))
form_is text (file ∷ files) config [] ok e = absurd (let n = ap length e in omega (arith, n))
form_is text (file ∷ []) config (class ∷ []) ok e =
    ap (λ read. if_they_fit (result_ok read >>= config_of) (result_ok (class_file file) >>= class_of)) ok
    ∙ ap (λ read. if_they_fit (config_of config) (result_ok read >>= class_of)) (ap (λ l. slice_index_or l 0 (Ok class)) e)
form_is text (file ∷ []) config (class ∷ next ∷ classes) ok e = absurd (let n = ap length e in omega (arith, n))
form_is text (file ∷ next ∷ files) config (class ∷ []) ok e = absurd (let n = ap length e in omega (arith, n))
form_is text (file ∷ next ∷ files) config (class ∷ also ∷ classes) ok e = sym (never_fits (config_of config))

-- the classes in files that are all read
abbrev classes_behind : Option ClassInfo → List ClassInfo → List ClassInfo
classes_behind None more = more
classes_behind (Some class) more = class ∷ more

are_read : (files : List (List ℕ)) (classes : List ClassInfo) → map class_file files ≡ map Ok classes → classes_in files ≡ classes
are_read [] [] e = refl
are_read [] (class ∷ classes) e = absurd (let n = ap length e in omega (arith, n))
are_read (file ∷ files) [] e = absurd (let n = ap length e in omega (arith, n))
are_read (file ∷ files) (class ∷ classes) e =
    let one : class_file file ≡ Ok class = ap (λ l. slice_index_or l 0 (Ok class)) e in
    ap (λ read. classes_behind (result_ok read) (classes_in files)) one ∙ ap (λ l. class ∷ l) (are_read files classes (ap (λ l. drop 1 l) e))

-- why an input is refused that is read
read_refused : (text : List ℕ) (files : List (List ℕ)) (config : Config) (classes : List ClassInfo) → configuration text ≡ Ok config → map class_file files ≡ map Ok classes
    → input_refusal text files ≡ in_world (Ok config) classes
unfolding input_refusal
read_refused text files config classes ok e =
    ap (λ read. option_or (fault_of 0 read) (option_or (first_fault 1 files) (in_world read (classes_in files)))) ok
    ∙ ap (λ fault. option_or fault (in_world (Ok config) (classes_in files))) (all_read 1 files classes e)
    ∙ ap (in_world (Ok config)) (are_read files classes e)

-- classes that are no world
pub world_stops : (trouble : Trouble) (config : List ℕ) (names : List (List ℕ)) (text : List ℕ) (files : List (List ℕ)) (read : Config) (classes : List ClassInfo)
    → configuration text ≡ Ok read → map class_file files ≡ map Ok classes → ClassesStop trouble names (world_refusal classes) → InputStops trouble config names text files
world_stops trouble config names text files read classes ok e h =
    class_file_stops trouble config names text files (world_refusal classes)
    (λ r is. read_refused text files read classes ok e ∙ ap (λ fault. option_or fault (option_or (binding_refusal classes read) (when_bound (Ok read) classes))) is) h

-- why an input is refused whose classes are a world
world_refused : (text : List ℕ) (files : List (List ℕ)) (config : Config) (classes : List ClassInfo) → configuration text ≡ Ok config → map class_file files ≡ map Ok classes → world_fault classes ≡ None
    → input_refusal text files ≡ option_or (binding_refusal classes config) (when_bound (Ok config) classes)
world_refused text files config classes ok e world =
    read_refused text files config classes ok e
    ∙ ap (λ fault. option_or (option_map of_class_file fault) (option_or (binding_refusal classes config) (when_bound (Ok config) classes))) world

-- a configuration that can't be bound to their world
pub binding_stops : (trouble : Trouble) (config : List ℕ) (names : List (List ℕ)) (text : List ℕ) (files : List (List ℕ)) (read : Config) (classes : List ClassInfo)
    → configuration text ≡ Ok read → map class_file files ≡ map Ok classes → world_fault classes ≡ None → FileStops trouble 0 config (bound_of classes read) → InputStops trouble config names text files
binding_stops trouble config names text files read classes ok e world h =
    file_stops trouble config names text files (bound_of classes read)
    (λ r is. world_refused text files read classes ok e world ∙ ap (λ fault. option_or fault (when_bound (Ok read) classes)) is) h

-- what was read, made a world and bound to it
pub are_bound : (text : List ℕ) (files : List (List ℕ)) (config : Config) (classes world : List ClassInfo) (bound : Bound) → configuration text ≡ Ok config → map class_file files ≡ map Ok classes → world_fault classes ≡ None
    → world ≡ classes → bound_of world config ≡ Ok bound → IsBoundTo text files bound world
are_bound text files config classes world bound ok e faultless same is =
    let config_same = config_is world config bound is in
    record {
      config_is = ok ∙ ap Ok (sym config_same);
      classes_are = e ∙ ap (map Ok) (sym same);
      are_world = ap world_fault same ∙ faultless;
      is_bound = ap (bound_of world) config_same ∙ is;
    }

-- why an input is refused that is bound
bound_refused : (text : List ℕ) (files : List (List ℕ)) (bound : Bound) (classes : List ClassInfo) → IsBoundTo text files bound classes
    → input_refusal text files ≡ reach_refusal classes bound
bound_refused text files bound classes to =
    world_refused text files bound.config classes to.config_is to.classes_are to.are_world
    ∙ ap (λ answer. option_or (fault_of 0 answer) (bound_refusal classes answer)) to.is_bound

-- a fault that is the first
pub fault_stops : (trouble : Trouble) (config : List ℕ) (names : List (List ℕ)) (fault first : Option Refusal) → ((r : Refusal) → fault ≡ Some r → first ≡ Some r)
    → FaultStops trouble config names fault → FaultStops trouble config names first
fault_stops (Refused refusal name) config names fault first refused h = (h.0, refused refusal h.1)
fault_stops NoMemory config names fault first refused h = tt
fault_stops Usage config names fault first refused h = absurd h
fault_stops (CannotRead name) config names fault first refused h = absurd h
fault_stops (CannotWrite name) config names fault first refused h = absurd h
fault_stops CannotWriteOutput config names fault first refused h = absurd h

-- a method that is reached and refused
pub reach_stops : (trouble : Trouble) (config : List ℕ) (names : List (List ℕ)) (text : List ℕ) (files : List (List ℕ)) (bound : Bound) (classes : List ClassInfo)
    → IsBoundTo text files bound classes → FaultStops trouble config names (reach_refusal classes bound) → InputStops trouble config names text files
reach_stops trouble config names text files bound classes to h =
    fault_stops trouble config names (reach_refusal classes bound) (input_refusal text files) (λ r fault. bound_refused text files bound classes to ∙ fault) h

-- an input that is taken isn't refused
pub not_refused : (text : List ℕ) (files : List (List ℕ)) (bound : Bound) (classes : List ClassInfo) → IsTaken text files bound classes → input_refusal text files ≡ None
not_refused text files bound classes taken = bound_refused text files bound classes taken.bound_to ∙ taken.are_reached

-- ---- why an input isn't compiled

abbrev unless_form : Option (FirstConfig × FirstClass) → Option Refusal
unless_form form = if is_none form then Some later else None

-- it is refused
pub input_stops : (trouble : Trouble) (config : List ℕ) (names : List (List ℕ)) (text : List ℕ) (files : List (List ℕ)) → InputStops trouble config names text files → CompileStops trouble config names text files
unfolding refusal_of
input_stops trouble config names text files h =
    fault_stops trouble config names (input_refusal text files) (refusal_of text files) (λ r e. ap (λ fault. option_or fault (unless_form (first_form text files))) e) h

-- it isn't of the first form
taken_refused : (text : List ℕ) (files : List (List ℕ)) (bound : Bound) (classes : List ClassInfo) → IsTaken text files bound classes
    → refusal_of text files ≡ unless_form (if_they_fit (config_of bound.config) (only_class classes))
unfolding refusal_of
taken_refused text files bound classes taken =
    ap (λ fault. option_or fault (unless_form (first_form text files))) (not_refused text files bound classes taken)
    ∙ ap unless_form (form_is text files bound.config classes taken.bound_to.config_is taken.bound_to.classes_are)

pub comes_later : (text : List ℕ) (files : List (List ℕ)) (bound : Bound) (classes : List ClassInfo) → IsTaken text files bound classes
    → if_they_fit (config_of bound.config) (only_class classes) ≡ None → refusal_of text files ≡ Some later
comes_later text files bound classes taken none = taken_refused text files bound classes taken ∙ ap unless_form none

pub is_accepted : (text : List ℕ) (files : List (List ℕ)) (bound : Bound) (classes : List ClassInfo) (first : FirstConfig) (second : FirstClass) → IsTaken text files bound classes
    → if_they_fit (config_of bound.config) (only_class classes) ≡ Some (first, second) → IsAccepted text files first second
is_accepted text files bound classes first second taken form = record {
  of_form = form_is text files bound.config classes taken.bound_to.config_is taken.bound_to.classes_are ∙ form;
  faultless = taken_refused text files bound classes taken ∙ ap unless_form form;
}
