-- What one statement makes of its frame and of the shared part.
use Rattle.std.specs.Prelude.{ℕ, zero, suc, List, length, find, nat_eq, nat_lt, Option, Some, None, slice_get, slice_set, if◌then◌else◌}
use Rattle.std.specs.Option.{option_and_then}
use Rattle.osek_core.specs.declared.call.Call.{Call}
use Rattle.osek_core.specs.declared.event.FailKind.{FailKind}
use Rattle.osek_core.specs.declared.event.FailKind.TheVariants.{HeldAtEnd}
use Rattle.osek_core.specs.declared.event.Place.{Place}
use Rattle.csubset.specs.declared.statement.Form.{Form}
use Rattle.csubset.specs.declared.statement.Form.TheVariants as form
use Rattle.csubset.specs.declared.program.CFunction.{CFunction}
use Rattle.csubset.specs.declared.map.Map.{Map}
use Rattle.csubset.specs.Machine.Expression.{atom_value, atom_values, evaluate}
use Rattle.csubset.specs.Machine.Memory.{load, store}
use Rattle.csubset.specs.Machine.Application.{CApplication, label_place}
use Rattle.csubset.specs.Machine.Services.{call_of}
use Rattle.csubset.specs.Machine.State.{Shared}

pub data Outcome : Type 0 where
  -- goes on behind the statement with these words
  Next : (words : List ℕ) → Outcome
  -- goes on at this place
  Jump : (place : ℕ) → Outcome
  -- calls a function with these arguments
  Enter : (function : ℕ) (arguments : List ℕ) → Outcome
  -- leaves the function with this answer
  Leave : (answer : ℕ) → Outcome
  -- goes on behind the statement; the region has these bytes
  Store : (region : ℕ) (bytes : List ℕ) → Outcome
  -- a device access, which is shown
  Read : (at width value : ℕ) (words : List ℕ) → Outcome
  Write : (at width value : ℕ) (devices : List ℕ) → Outcome
  -- calls a service of the kernel, whose answer this word takes
  Serve : (call : Call) (to : ℕ) → Outcome
  Fails : (kind : FailKind) (at : Option Place) → Outcome
  Suspend : Outcome
  Resume : Outcome
  -- has no meaning
  Undefined : Outcome

abbrev pub defined : {A : Type 0} → (A → Outcome) → Option A → Outcome
defined outcome None = Undefined
defined outcome (Some x) = outcome x

-- the words after one of them was set, where it is there
abbrev pub set_word : List ℕ → ℕ → ℕ → Option (List ℕ)
set_word words to value = if nat_lt to (length words) then Some (slice_set words to value) else None

-- goes on behind the statement with this value in that word
abbrev pub assign : List ℕ → ℕ → Option ℕ → Outcome
assign words to value = defined Next (option_and_then (set_word words to) value)

abbrev pub jump : CFunction → ℕ → Outcome
jump function label = defined Jump (label_place function label)

abbrev pub jump_if : CFunction → List ℕ → ℕ → ℕ → Outcome
jump_if function words label test = if nat_eq test 0 then Next words else jump function label

-- the label of the case with this number, or the other one
abbrev pub case_label : List (ℕ × ℕ) → ℕ → ℕ → ℕ
case_label cases other value = chosen (find (λ c. nat_eq c.0 value) cases)
  where
    chosen : Option (ℕ × ℕ) → ℕ
    chosen None = other
    chosen (Some c) = c.1

-- what two values make, where both are there
abbrev pub with_both : (ℕ → ℕ → Outcome) → Option ℕ → Option ℕ → Outcome
with_both outcome a b = defined (λ x. defined (outcome x) b) a

-- the number in a region's cell goes into a word
abbrev pub region_load : CApplication → Shared → List ℕ → ℕ → ℕ → ℕ → ℕ → Outcome
region_load app s words to width region at =
    assign words to (option_and_then (λ bytes. load app.map.big bytes width at) (slice_get s.regions region))

-- the low bytes of the value go into a region's cell
abbrev pub region_store : CApplication → Shared → ℕ → ℕ → ℕ → ℕ → Outcome
region_store app s width region at value =
    defined (Store region) (option_and_then (λ bytes. store app.map.big bytes width at value) (slice_get s.regions region))

abbrev pub device_load : CApplication → Shared → List ℕ → ℕ → ℕ → ℕ → Outcome
device_load app s words to width at =
    defined (λ value. defined (Read at width value) (set_word words to value)) (load app.map.big s.devices width at)

-- the low bytes of the value go into a device cell; the event shows them
abbrev pub device_store : CApplication → Shared → ℕ → ℕ → ℕ → Outcome
device_store app s width at value =
    defined (λ devices. defined (λ shown. Write at width shown devices) (load app.map.big devices width at))
    (store app.map.big s.devices width at value)

-- FAIL with this number: 0 is a task's end with a resource held, and n + 1 is row n of the map
abbrev pub failure : Map → ℕ → Outcome
failure map zero = Fails HeldAtEnd None
failure map (suc n) = defined (λ row. Fails row.kind (Some row.place)) (slice_get map.fails n)

abbrev pub execute : CApplication → CFunction → Shared → List ℕ → Form → Outcome
execute app function s words (form.Assign to value) = assign words to (evaluate words value)
execute app function s words (form.Load to width region at) =
    defined (region_load app s words to width region) (atom_value words at)
execute app function s words (form.Store width region at value) =
    with_both (region_store app s width region) (atom_value words at) (atom_value words value)
execute app function s words (form.DeviceLoad to width at) = defined (device_load app s words to width) (atom_value words at)
execute app function s words (form.DeviceStore width at value) =
    with_both (device_store app s width) (atom_value words at) (atom_value words value)
execute app function s words (form.Goto label) = jump function label
execute app function s words (form.If test label) = defined (jump_if function words label) (evaluate words test)
execute app function s words (form.Switch on cases other) =
    defined (λ value. jump function (case_label cases other value)) (atom_value words on)
execute app function s words (form.Call to n arguments) = defined (Enter n) (atom_values words arguments)
execute app function s words (form.Return value) = defined Leave (atom_value words value)
execute app function s words (form.Service to service) = defined (λ call. Serve call to) (call_of app.tables words service)
execute app function s words (form.Fail number) = failure app.map number
execute app function s words form.Suspend = Suspend
execute app function s words form.Resume = Resume
