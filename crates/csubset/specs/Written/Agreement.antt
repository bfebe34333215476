-- When a program agrees with the tables that the OIL gives, and with its map.
use Rattle.std.specs.Prelude.{◌≡◌, ◌≤◌, ◌↔◌, ℕ, List, [], ◌∷◌, map, flat_map, length, Contains}
use Rattle.std.specs.List.{AllZip}
use Rattle.osek_core.specs.declared.tables.Tables.{Tables}
use Rattle.csubset.specs.declared.statement.Form.{Form}
use Rattle.csubset.specs.declared.statement.Form.TheVariants.{Fail}
use Rattle.csubset.specs.declared.program.CProgram.{CProgram}
use Rattle.csubset.specs.declared.map.Map.{Map}

-- the Declare lines name the objects of the tables, and there is a KTASK line for each task, all in the order of the tables
pub record AgreesWithTables (program : CProgram) (tables : Tables) : Type 0 where
  pub tasks : program.tasks ≡ map (λ row. row.name.text) tables.tasks
  pub resources : program.resources ≡ map (λ name. name.text) tables.resources
  pub events : program.events ≡ map (λ name. name.text) tables.events
  pub alarms : program.alarms ≡ map (λ row. row.name.text) tables.alarms
  pub bodies : map (λ line. line.name) program.task_lines ≡ program.tasks

-- the number of a failure, where it has a row in the map
abbrev pub fail_numbers : Form → List ℕ
fail_numbers (Fail number) = number ∷ []
fail_numbers form = []

abbrev pub failures : CProgram → List ℕ
failures program = flat_map (λ function. flat_map (λ statement. fail_numbers statement.form) function.statements) program.functions

-- a row for each region and each function, a weight for each statement, and failures 1 up to the number of their rows
pub record AgreesWithMap (program : CProgram) (map : Map) : Type 0 where
  pub regions : length map.regions ≡ length program.regions
  pub functions : AllZip (λ row function. length row.weights ≡ length function.statements) map.functions program.functions
  pub fails : (number : ℕ) → 1 ≤ number → Contains (failures program) number ↔ (number ≤ length map.fails)
