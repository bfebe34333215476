-- Section: an interrupt section goes in the text from a SUSPEND to the next RESUME. No service, device access, call, return
-- or SUSPEND stands in it, no jump leaves or enters it, and each SUSPEND has its RESUME.
use Rattle.std.specs.Prelude.{ℕ, ◌+◌, Bool, true, false, ◌&&◌, ◌||◌, not, take, drop, fold, map, Option, Some, None}
use Rattle.std.specs.List.{list_any}
use Rattle.csubset.specs.declared.statement.Form.{Form}
use Rattle.csubset.specs.declared.statement.Form.TheVariants.{Assign, Load, Store, DeviceLoad, DeviceStore, Goto, If, Switch, Call, Return, Service, Fail, Suspend, Resume}
use Rattle.csubset.specs.declared.program.CFunction.{CFunction}
use Rattle.csubset.specs.Machine.Application.{label_place}
use Rattle.csubset.specs.Form.Jump.{at_form, targets_at}

-- whether a section is open behind a statement, by whether one was before it
abbrev pub open_behind : Bool → Form → Bool
open_behind inside Suspend = true
open_behind inside Resume = false
open_behind inside form = inside

-- a section is open before the statement at this place: its RESUME counts as inside it, and its SUSPEND as outside
abbrev pub in_section : CFunction → ℕ → Bool
in_section function place = fold open_behind false (map (λ statement. statement.form) (take place function.statements))

-- what may not stand in a section
abbrev pub is_barred : Form → Bool
is_barred (Assign to value) = false
is_barred (Load to width region at) = false
is_barred (Store width region at value) = false
is_barred (DeviceLoad to width at) = true
is_barred (DeviceStore width at value) = true
is_barred (Goto label) = false
is_barred (If test label) = false
is_barred (Switch on cases other) = false
is_barred (Call to function arguments) = true
is_barred (Return value) = true
is_barred (Service to service) = true
is_barred (Fail number) = false
is_barred Suspend = true
is_barred Resume = false

abbrev pub is_suspend : Form → Bool
is_suspend Suspend = true
is_suspend form = false

abbrev pub is_resume : Form → Bool
is_resume Resume = true
is_resume form = false

-- no RESUME stands behind this place
abbrev pub never_resumed : CFunction → ℕ → Bool
never_resumed function place = not (list_any (λ statement. is_resume statement.form) (drop (place + 1) function.statements))

-- the place is on the other side of a section's border
abbrev pub is_across : CFunction → ℕ → Option ℕ → Bool
is_across function place None = false
is_across function place (Some target) = differs (in_section function place) (in_section function target)
  where
    differs : Bool → Bool → Bool
    differs true b = not b
    differs false b = b

abbrev pub section_fault : CFunction → ℕ → Bool
section_fault function place =
    (in_section function place && at_form function place false is_barred)
    || (at_form function place false is_suspend && never_resumed function place)
    || list_any (λ label. is_across function place (label_place function label)) (targets_at function place)
