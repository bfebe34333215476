-- What is declared already: names by their places among the lines of their kind, and METHODs and cells.
use Rattle.std.specs.Prelude.{ℕ, Bool, false, ◌||◌, List, Option, bytes_eq}
use Rattle.std.specs.List.{list_any, position}
use Rattle.kconfig.specs.declared.config.Config.{Config}
use Rattle.kconfig.specs.declared.config.NameLine.{NameLine}
use Rattle.kconfig.specs.declared.config.Line.{Line}
use Rattle.kconfig.specs.declared.config.Line.TheVariants as line

abbrev pub named : List NameLine → List ℕ → Option ℕ
named lines name = position (λ x. bytes_eq x.name name) lines

abbrev pub domain_named : Config → List ℕ → Option ℕ
domain_named c name = position (λ x. bytes_eq x.name name) c.domains

abbrev pub counter_named : Config → List ℕ → Option ℕ
counter_named c name = position (λ x. bytes_eq x.name name) c.counters

abbrev pub task_named : Config → List ℕ → Option ℕ
task_named c name = position (λ x. bytes_eq x.name name) c.tasks

abbrev pub alarm_named : Config → List ℕ → Option ℕ
alarm_named c name = position (λ x. bytes_eq x.name name) c.alarms

abbrev pub object_named : Config → List ℕ → Option ℕ
object_named c name = position (λ x. bytes_eq x.name name) c.objects

-- a native, device or portal line has this METHOD
abbrev pub is_bound : Config → List ℕ → Bool
is_bound c method =
    (list_any (λ x. bytes_eq method x.method) c.natives || list_any (λ x. bytes_eq method x.method) c.device_methods)
    || list_any (λ x. bytes_eq method x.method) c.portals

-- a cell line has this CLASS.FIELD
abbrev pub has_cell : Config → List ℕ → Bool
has_cell c field = list_any (λ x. bytes_eq field x.field) c.cells

-- the line has this METHOD, or this CLASS.FIELD
abbrev pub binds : Line → List ℕ → Bool
binds (line.Native x) method = bytes_eq method x.method
binds (line.Device x) method = bytes_eq method x.method
binds (line.Portal x) method = bytes_eq method x.method
binds _ method = false

abbrev pub places : Line → List ℕ → Bool
places (line.Cell x) field = bytes_eq field x.field
places _ field = false
