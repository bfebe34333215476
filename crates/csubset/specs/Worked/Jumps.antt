-- Jumps: a switch by its cases and its default, a goto, and the two ways of an if.
use Rattle.std.specs.Prelude.{◌≡◌, ℕ, pos, List, [], ◌∷◌}
use Rattle.osek_core.specs.declared.call.Call.TheVariants.{TerminateTask}
use Rattle.osek_core.specs.declared.event.Who.TheVariants.{Task}
use Rattle.osek_core.specs.declared.event.Event.{Event}
use Rattle.osek_core.specs.declared.event.Event.TheVariants.{Service, DevWrite}
use Rattle.osek_core.specs.Worked.Application.{runs}
use Rattle.csubset.specs.declared.expression.Atom.TheVariants.{Number}
use Rattle.csubset.specs.declared.expression.Expr.TheVariants.{Atom}
use Rattle.csubset.specs.declared.statement.Form.TheVariants as form
use Rattle.csubset.specs.declared.program.CFunction.{CFunction}
use Rattle.csubset.specs.Machine.Application.{CApplication}
use Rattle.csubset.specs.Machine.State.{first_state}
use Rattle.csubset.specs.Machine.Statement.{Next, Jump, execute}
use Rattle.csubset.specs.Machine.Trace.{c_trace}
use Rattle.csubset.specs.Worked.Application.{program, tables, map_of}
use Rattle.csubset.specs.Worked.Form.{at, function_of}

-- each way writes its number to the device; the first one goes on to the second
abbrev pub three_ways : ℕ → CFunction
three_ways n = function_of
    (at [] (form.Switch (Number n) ((3, 1) ∷ (7, 2) ∷ []) 3)
    ∷ at (1 ∷ []) (form.DeviceStore 1 (Number 0) (Number 1))
    ∷ at (2 ∷ []) (form.DeviceStore 1 (Number 0) (Number 2))
    ∷ at [] (form.Goto 4)
    ∷ at (3 ∷ []) (form.DeviceStore 1 (Number 0) (Number 3))
    ∷ at (4 ∷ []) (form.Return (Number 0))
    ∷ []) []

abbrev pub shown_of : ℕ → List Event
shown_of n = c_trace (record (program []) { functions = three_ways n ∷ [] }) tables (map_of []) (runs 6)

abbrev pub write : ℕ → Event
write value = DevWrite (Task 0) 0 1 value

abbrev pub ends : Event
ends = Service (Task 0) TerminateTask (pos 0)

abbrev pub app : CApplication
app = record { program = program []; tables = tables; map = map_of [] }

pub record JumpsHold : Type 0 where
  pub first_case : shown_of 3 ≡ write 1 ∷ write 2 ∷ ends ∷ []
  pub second_case : shown_of 7 ≡ write 2 ∷ ends ∷ []
  pub default : shown_of 5 ≡ write 3 ∷ ends ∷ []
  pub zero_goes_on : execute app (three_ways 0) (first_state app).shared [] (form.If (Atom (Number 0)) 3) ≡ Next []
  pub other_jumps : execute app (three_ways 0) (first_state app).shared [] (form.If (Atom (Number 2)) 3) ≡ Jump 4
