-- The text of a whole C program: the prologue, the base of the device, a Declare line for each
-- object of the kernel, the regions, the functions' declarations and then their definitions, the
-- startup hook that calls the initialisers (OSEK/VDX OS 2.2.3, section 11), and a line for each
-- task. Regions and functions are numbered by their places, from 0, and so are a function's words.
use Rattle.std.specs.Prelude.{ℕ, zero, suc, List, [], ◌∷◌, ◌++◌, codes, decimal, flat_map}
use Rattle.std.specs.List.{enumerate_from, join_by, range_with_len}
use Rattle.csubset.specs.declared.program.CRegion.{CRegion}
use Rattle.csubset.specs.declared.program.CFunction.{CFunction}
use Rattle.csubset.specs.declared.program.CTask.{CTask}
use Rattle.csubset.specs.declared.program.CProgram.{CProgram}
use Rattle.csubset.specs.Text.Line.{line}
use Rattle.csubset.specs.Text.Prologue.{prologue}
use Rattle.csubset.specs.Text.Names.{word_name, region_name, function_name, number_text, task_name, resource_name, event_name, alarm_name}
use Rattle.csubset.specs.Text.Statements.{label_line, statement_text}

abbrev pub task_declaration : List ℕ → List ℕ
task_declaration name = line (codes "DeclareTask(" ++ task_name name ++ codes ");")

abbrev pub resource_declaration : List ℕ → List ℕ
resource_declaration name = line (codes "DeclareResource(" ++ resource_name name ++ codes ");")

abbrev pub event_declaration : List ℕ → List ℕ
event_declaration name = line (codes "DeclareEvent(" ++ event_name name ++ codes ");")

abbrev pub alarm_declaration : List ℕ → List ℕ
alarm_declaration name = line (codes "DeclareAlarm(" ++ alarm_name name ++ codes ");")

-- the first words of a region, where not all words are zero
abbrev pub first_words : List ℕ → List ℕ
first_words [] = []
first_words (x ∷ xs) = codes " = { " ++ join_by number_text (codes ", ") (x ∷ xs) ++ codes " }"

abbrev pub region_line : ℕ → CRegion → List ℕ
region_line n region = line (
    codes "static W " ++ region_name n ++ codes "[" ++ decimal region.words ++ codes "]"
    ++ first_words region.first ++ codes ";")

-- the parameters are the first words of the function
abbrev pub parameters_text : ℕ → List ℕ
parameters_text zero = codes "void"
parameters_text (suc n) =
    join_by (λ k. codes "W " ++ word_name k) (codes ", ") (range_with_len 0 (suc n))

-- what a function's declaration and its definition begin with
abbrev pub heading : ℕ → CFunction → List ℕ
heading n function =
    codes "static W " ++ function_name n
    ++ codes "(" ++ parameters_text function.parameters ++ codes ")"

abbrev pub function_declaration : ℕ → CFunction → List ℕ
function_declaration n function = line (heading n function ++ codes ";")

-- the further words start at zero
abbrev pub further_word : ℕ → List ℕ
further_word k = line (codes "  W " ++ word_name k ++ codes " = 0ull;")

abbrev pub function_text : ℕ → CFunction → List ℕ
function_text n function =
    line (heading n function ++ codes " {")
    ++ flat_map further_word (range_with_len function.parameters function.further)
    ++ flat_map statement_text function.statements
    ++ flat_map label_line function.end_labels
    ++ line (codes "}")

abbrev pub start_line : ℕ → List ℕ
start_line function = line (codes "  (void)" ++ function_name function ++ codes "();")

abbrev pub task_line : CTask → List ℕ
task_line task =
    line (codes "KTASK(" ++ task_name task.name ++ codes ", " ++ function_name task.function ++ codes ")")

-- the lines behind the prologue
abbrev pub body_text : CProgram → List ℕ
body_text program =
    line (codes "#define KDEV " ++ decimal program.device_base ++ codes "ul")
    ++ flat_map task_declaration program.tasks
    ++ flat_map resource_declaration program.resources
    ++ flat_map event_declaration program.events
    ++ flat_map alarm_declaration program.alarms
    ++ flat_map (λ r. region_line r.0 r.1) (enumerate_from 0 program.regions)
    ++ flat_map (λ f. function_declaration f.0 f.1) (enumerate_from 0 program.functions)
    ++ flat_map (λ f. function_text f.0 f.1) (enumerate_from 0 program.functions)
    ++ line (codes "void StartupHook(void) {")
    ++ flat_map start_line program.starts
    ++ line (codes "}")
    ++ flat_map task_line program.task_lines

abbrev pub program_text : CProgram → List ℕ
program_text program = prologue ++ body_text program
