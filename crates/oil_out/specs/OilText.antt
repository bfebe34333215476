-- The OIL text of an application (OIL 2.5, section 3): one CPU with one OS and one application mode, and then the objects
-- of each kind in the order of their table. Each line ends with one line feed. In the text a name begins with the letter of
-- its kind. Where a table names a place at which nothing stands the name is empty, so that all tables have a text.
use Rattle.std.specs.Prelude.{ℕ, ◌^◌, Bool, true, false, nat_lt, if◌then◌else◌, Option, Some, None, List, [], ◌++◌, codes, decimal, flat_map, slice_get}
use Rattle.std.specs.Option.{option_map_or}
use Rattle.osek_core.specs.declared.tables.Name.{Name}
use Rattle.osek_core.specs.declared.tables.TaskRow.{TaskRow}
use Rattle.osek_core.specs.declared.tables.CounterRow.{CounterRow}
use Rattle.osek_core.specs.declared.tables.AlarmRow.{AlarmRow}
use Rattle.osek_core.specs.declared.tables.Action.{Action}
use Rattle.osek_core.specs.declared.tables.Action.TheVariants as action
use Rattle.osek_core.specs.declared.tables.Start.{Start}
use Rattle.osek_core.specs.declared.tables.Tables.{Tables}
use Rattle.kes_text.specs.Numbered.{numbered}

-- the text before the objects
abbrev pub opening_text : List ℕ
opening_text =
    codes "OIL_VERSION = \"2.5\";\n"
    ++ codes "#include \"keso_impl.oil\"\n"
    ++ codes "CPU keso {\n"
    ++ codes "  OS os {\n"
    ++ codes "    STATUS = EXTENDED;\n"
    ++ codes "    STARTUPHOOK = TRUE;\n"
    ++ codes "    ERRORHOOK = FALSE;\n"
    ++ codes "    SHUTDOWNHOOK = FALSE;\n"
    ++ codes "    PRETASKHOOK = FALSE;\n"
    ++ codes "    POSTTASKHOOK = FALSE;\n"
    ++ codes "    USEGETSERVICEID = FALSE;\n"
    ++ codes "    USEPARAMETERACCESS = FALSE;\n"
    ++ codes "    USERESSCHEDULER = FALSE;\n"
    ++ codes "  };\n"
    ++ codes "  APPMODE mode { };\n"

-- an object's attribute
unfoldable pub attribute : List ℕ → List ℕ → List ℕ
attribute name value = codes "    " ++ name ++ codes " = " ++ value ++ codes ";\n"

-- an object's first line
unfoldable pub header : List ℕ → List ℕ → List ℕ
header kind name = codes "  " ++ kind ++ codes " " ++ name ++ codes " {\n"

-- an object with its attributes
abbrev pub object : List ℕ → List ℕ → List ℕ → List ℕ
object kind name attributes = header kind name ++ attributes ++ codes "  };\n"

-- the bits of the k-th event. A MASK has 64 bits, so an event from the 64th on has none.
abbrev pub mask : ℕ → ℕ
mask k = if nat_lt k 64 then 2 ^ k else 0

unfoldable pub event_text : ℕ → Name → List ℕ
event_text k name = object (codes "EVENT") (codes "e_" ++ name.text) (attribute (codes "MASK") (decimal (mask k)))

unfoldable pub resource_text : Name → List ℕ
resource_text name = object (codes "RESOURCE") (codes "r_" ++ name.text) (attribute (codes "RESOURCEPROPERTY") (codes "STANDARD"))

unfoldable pub counter_text : CounterRow → List ℕ
counter_text row = object (codes "COUNTER") (codes "c_" ++ row.name.text) (
    attribute (codes "MAXALLOWEDVALUE") (decimal row.rule.max)
    ++ attribute (codes "TICKSPERBASE") (decimal row.rule.base)
    ++ attribute (codes "MINCYCLE") (decimal row.rule.min))

-- the names at the places of a table's lists
abbrev pub name_at : List Name → ℕ → List ℕ
name_at names k = option_map_or (λ name. name.text) (slice_get names k) []

abbrev pub counter_name : Tables → ℕ → List ℕ
counter_name tables k = option_map_or (λ row. row.name.text) (slice_get tables.counters k) []

abbrev pub task_name : Tables → ℕ → List ℕ
task_name tables k = option_map_or (λ row. row.name.text) (slice_get tables.tasks k) []

-- whether a task gives way to others at any time
abbrev pub schedule_text : Bool → List ℕ
schedule_text true = codes "FULL"
schedule_text false = codes "NON"

-- whether a task is activated when the kernel starts
abbrev pub activation_text : Bool → List ℕ
activation_text true = codes "TRUE { APPMODE = mode; }"
activation_text false = codes "FALSE"

unfoldable pub task_text : Tables → TaskRow → List ℕ
task_text tables row = object (codes "TASK") (codes "t_" ++ row.name.text) (
    attribute (codes "PRIORITY") (decimal row.rule.priority)
    ++ attribute (codes "SCHEDULE") (schedule_text row.rule.preemptable)
    ++ attribute (codes "ACTIVATION") (decimal row.rule.activations)
    ++ attribute (codes "AUTOSTART") (activation_text row.auto)
    ++ flat_map (λ k. attribute (codes "RESOURCE") (codes "r_" ++ name_at tables.resources k)) row.resources
    ++ flat_map (λ k. attribute (codes "EVENT") (codes "e_" ++ name_at tables.events k)) row.events)

-- what an alarm does when it is due
abbrev pub action_text : Tables → Action → List ℕ
action_text tables (action.Activate task) = codes "ACTIVATETASK { TASK = t_" ++ task_name tables task ++ codes "; }"
action_text tables (action.Set task event) =
    codes "SETEVENT { TASK = t_" ++ task_name tables task ++ codes "; EVENT = e_" ++ name_at tables.events event ++ codes "; }"

-- when an alarm that starts with the kernel is due
abbrev pub start_text : Option Start → List ℕ
start_text (Some start) =
    codes "TRUE { ALARMTIME = " ++ decimal start.first
    ++ codes "; CYCLETIME = " ++ decimal start.cycle
    ++ codes "; APPMODE = mode; }"
start_text None = codes "FALSE"

unfoldable pub alarm_text : Tables → AlarmRow → List ℕ
alarm_text tables row = object (codes "ALARM") (codes "a_" ++ row.name.text) (
    attribute (codes "COUNTER") (codes "c_" ++ counter_name tables row.counter)
    ++ attribute (codes "ACTION") (action_text tables row.action)
    ++ attribute (codes "AUTOSTART") (start_text row.start))

abbrev pub oil_text : Tables → List ℕ
oil_text tables =
    opening_text
    ++ numbered event_text 0 tables.events
    ++ flat_map resource_text tables.resources
    ++ flat_map counter_text tables.counters
    ++ flat_map (task_text tables) tables.tasks
    ++ flat_map (alarm_text tables) tables.alarms
    ++ codes "};\n"
