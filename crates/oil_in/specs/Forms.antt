-- The forms of the lines that have a name or a number in them. A form is a whole line with its line feed; where it stands
-- at the front of the bytes it answers its values and the bytes behind it.
use Rattle.std.specs.Prelude.{ℕ, List, [], Option, Some, None, Bool, true, false, codes}
use Rattle.oil_in.specs.declared.pieces.Number.{Number}
use Rattle.oil_in.specs.Pieces.{◌>>=◌, behind, name_at, number_at}

-- a name between two texts
unfoldable pub name_in : List ℕ → List ℕ → List ℕ → Option (List ℕ × List ℕ)
name_in front back bytes = do
  word ← behind front bytes
  name ← name_at word
  rest ← behind back name.1
  Some (name.0, rest)

-- an object's first line
abbrev pub header : List ℕ → List ℕ → Option (List ℕ × List ℕ)
header front bytes = name_in front (codes " {\n") bytes

-- an attribute whose value is the name of another object
abbrev pub reference : List ℕ → List ℕ → Option (List ℕ × List ℕ)
reference front bytes = name_in front (codes ";\n") bytes

-- a number between two texts
unfoldable pub number_in : List ℕ → List ℕ → List ℕ → Option (Number × List ℕ)
number_in front back bytes = do
  word ← behind front bytes
  number ← number_at word
  rest ← behind back number.1
  Some (number.0, rest)

-- an attribute whose value is a number
abbrev pub number_line : List ℕ → List ℕ → Option (Number × List ℕ)
number_line front bytes = number_in front (codes ";\n") bytes

abbrev pub picked : Option (List ℕ) → Option (List ℕ) → Option (Bool × List ℕ)
picked (Some rest) other = Some (true, rest)
picked None (Some rest) = Some (false, rest)
picked None None = None

-- which of two lines stands there
unfoldable pub choice : List ℕ → List ℕ → List ℕ → Option (Bool × List ℕ)
choice one other bytes = picked (behind one bytes) (behind other bytes)

abbrev pub schedule_line : List ℕ → Option (Bool × List ℕ)
schedule_line bytes = choice (codes "    SCHEDULE = FULL;\n") (codes "    SCHEDULE = NON;\n") bytes

abbrev pub autostart_line : List ℕ → Option (Bool × List ℕ)
autostart_line bytes = choice (codes "    AUTOSTART = TRUE { APPMODE = mode; };\n") (codes "    AUTOSTART = FALSE;\n") bytes

-- the two actions of an alarm
abbrev pub activate_line : List ℕ → Option (List ℕ × List ℕ)
activate_line bytes = name_in (codes "    ACTION = ACTIVATETASK { TASK = t_") (codes "; };\n") bytes

unfoldable pub set_line : List ℕ → Option (List ℕ × List ℕ × List ℕ)
set_line bytes = do
  task ← name_in (codes "    ACTION = SETEVENT { TASK = t_") (codes "; EVENT = e_") bytes
  event ← name_in [] (codes "; };\n") task.1
  Some (task.0, event.0, event.1)

-- an alarm that starts with the kernel
unfoldable pub started_line : List ℕ → Option (Number × Number × List ℕ)
started_line bytes = do
  first ← number_in (codes "    AUTOSTART = TRUE { ALARMTIME = ") (codes "; CYCLETIME = ") bytes
  cycle ← number_in [] (codes "; APPMODE = mode; };\n") first.1
  Some (first.0, cycle.0, cycle.1)

-- one that doesn't
abbrev pub unstarted_line : List ℕ → Option (List ℕ)
unstarted_line bytes = behind (codes "    AUTOSTART = FALSE;\n") bytes
