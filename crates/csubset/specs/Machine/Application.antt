-- What a run is given: the program, the kernel's tables and the map. Functions and their statements by their places.
use Rattle.std.specs.Prelude.{ℕ, Bool, List, length, nat_eq, Option, Some, None, slice_get, position, if◌then◌else◌}
use Rattle.std.specs.List.{list_any}
use Rattle.std.specs.Option.{option_and_then, option_map}
use Rattle.osek_core.specs.declared.tables.Tables.{Tables}
use Rattle.csubset.specs.declared.statement.Form.{Form}
use Rattle.csubset.specs.declared.program.CFunction.{CFunction}
use Rattle.csubset.specs.declared.program.CProgram.{CProgram}
use Rattle.csubset.specs.declared.map.Map.{Map}

pub record CApplication : Type 0 where
  pub program : CProgram
  pub tables : Tables
  pub map : Map

abbrev pub function_at : CProgram → ℕ → Option CFunction
function_at program n = slice_get program.functions n

abbrev pub form_in : CFunction → ℕ → Option Form
form_in function place = option_map (λ statement. statement.form) (slice_get function.statements place)

abbrev pub form_at : CProgram → ℕ → ℕ → Option Form
form_at program n place = option_and_then (λ function. form_in function place) (function_at program n)

abbrev pub has : List ℕ → ℕ → Bool
has xs x = list_any (nat_eq x) xs

-- the place of the statement behind the label's line: of a label that stands twice the first one counts. Behind the
-- last statement there is none.
abbrev pub label_place : CFunction → ℕ → Option ℕ
label_place function label = first (position (λ statement. has statement.labels label) function.statements)
  where
    first : Option ℕ → Option ℕ
    first (Some place) = Some place
    first None = if has function.end_labels label then Some (length function.statements) else None
