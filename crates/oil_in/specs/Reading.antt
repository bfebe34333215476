-- The tables that an OIL text says (OIL 2.5, section 3), or its first fault. The text has one line in each place: the lines
-- before the objects, the events, resources, counters, tasks and alarms, and a last line. What is no form that may stand at
-- its place is a fault of syntax there; where the text ends too early, that is behind its last line.
use Rattle.std.specs.Prelude.{ℕ, List, [], ◌∷◌, Ok, codes, Result}
use Rattle.kes_text.specs.declared.refusal.Kind.TheVariants as kind
use Rattle.kes_text.specs.declared.refusal.Stop.{Stop}
use Rattle.osek_core.specs.declared.tables.Tables.{Tables}
use Rattle.oil_in.specs.Pieces.{behind}
use Rattle.oil_in.specs.Scan.{Scan, Read, ◌>>=◌, refused, fixed}
use Rattle.oil_in.specs.Objects.{events_at, resources_at, counters_at}
use Rattle.oil_in.specs.Tasks.{tasks_at}
use Rattle.oil_in.specs.Alarms.{alarms_at}

-- lines that stand in each text
unfoldable pub fixed_lines : List (List ℕ) → Scan → Result Scan Stop
fixed_lines [] s = Ok s
fixed_lines (text ∷ texts) s = fixed (behind text s.text) s >>= fixed_lines texts

-- those before the objects
abbrev pub opening_lines : List (List ℕ)
opening_lines =
    codes "OIL_VERSION = \"2.5\";\n"
    ∷ codes "#include \"keso_impl.oil\"\n"
    ∷ codes "CPU keso {\n"
    ∷ codes "  OS os {\n"
    ∷ codes "    STATUS = EXTENDED;\n"
    ∷ codes "    STARTUPHOOK = TRUE;\n"
    ∷ codes "    ERRORHOOK = FALSE;\n"
    ∷ codes "    SHUTDOWNHOOK = FALSE;\n"
    ∷ codes "    PRETASKHOOK = FALSE;\n"
    ∷ codes "    POSTTASKHOOK = FALSE;\n"
    ∷ codes "    USEGETSERVICEID = FALSE;\n"
    ∷ codes "    USEPARAMETERACCESS = FALSE;\n"
    ∷ codes "    USERESSCHEDULER = FALSE;\n"
    ∷ codes "  };\n"
    ∷ codes "  APPMODE mode { };\n"
    ∷ []

-- nothing is left
abbrev pub ended : Scan → List ℕ → Result Scan Stop
ended s [] = Ok s
ended s (byte ∷ rest) = refused kind.Syntax s

-- the last line, behind which there is nothing
unfoldable pub closed_at : Scan → Result Scan Stop
closed_at s = do
  closed ← fixed (behind (codes "};\n") s.text) s
  ended closed closed.text

unfoldable pub objects_at : Scan → Read Tables
objects_at s = do
  events ← events_at s
  resources ← resources_at events.1
  counters ← counters_at resources.1
  tasks ← tasks_at resources.0 events.0 counters.1
  alarms ← alarms_at events.0 counters.0 tasks.0 tasks.1
  Ok (record { events = events.0; resources = resources.0; counters = counters.0; tasks = tasks.0; alarms = alarms.0 }, alarms.1)

unfoldable pub oil_read : List ℕ → Result Tables Stop
oil_read text = do
  opened ← fixed_lines opening_lines (record { text = text; line = 1 })
  objects ← objects_at opened
  closed ← closed_at objects.1
  Ok objects.0
