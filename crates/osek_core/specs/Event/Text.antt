-- The text of an event line, without its line feed: words with one blank between them.
use Rattle.std.specs.Prelude.{ℕ, ◌+◌, ◌^◌, ℤ, pos, negsuc, not, List, [], ◌∷◌, ◌++◌, map, filter, length, Option, Some, None, nat_eq, bit_and, slice_index_or, codes, decimal}
use Rattle.std.specs.Int.{w32, cast_signed}
use Rattle.std.specs.List.{join_with_byte, range_with_len}
use Rattle.osek_core.specs.declared.call.Call.{Call}
use Rattle.osek_core.specs.declared.call.Call.TheVariants.{ActivateTask, TerminateTask, ChainTask, Schedule, GetResource, ReleaseResource, SetEvent, ClearEvent, GetEvent, WaitEvent, SetRelAlarm, SetAbsAlarm, CancelAlarm, GetAlarm}
use Rattle.osek_core.specs.declared.event.Who.{Who}
use Rattle.osek_core.specs.declared.event.Who.TheVariants.{Start, Task}
use Rattle.osek_core.specs.declared.event.Place.{Place}
use Rattle.osek_core.specs.declared.event.FailKind.{FailKind}
use Rattle.osek_core.specs.declared.event.FailKind.TheVariants.{HeldAtEnd, Null, Bounds, DivZero, NegativeSize, Cast, Store, Interface, HeapFull, CopyLimit, NotPortable, Thrown, Depth}
use Rattle.osek_core.specs.declared.event.Event.{Event}
use Rattle.osek_core.specs.declared.event.Event.TheVariants.{Service, DevRead, DevWrite, Fail, Lost, Stuck}

-- the names of an application's objects, and the shown bytes of its methods, by their numbers
pub record Names : Type 0 where
  pub tasks : List (List ℕ)
  pub resources : List (List ℕ)
  pub events : List (List ℕ)
  pub alarms : List (List ℕ)
  pub methods : List (List ℕ)

abbrev pub name_at : List (List ℕ) → ℕ → List ℕ
name_at names number = slice_index_or names number []

-- a signed number
abbrev pub signed : ℤ → List ℕ
signed (pos n) = decimal n
signed (negsuc n) = codes "-" ++ decimal (n + 1)

-- a number of 32 bits as the int that it was
abbrev pub as_int : ℕ → List ℕ
as_int n = signed (cast_signed w32 n)

abbrev pub who_text : Names → Who → List ℕ
who_text names Start = codes "start"
who_text names (Task task) = name_at names.tasks task

-- the events of a mask, in the order of their numbers, with `+` between them
abbrev pub mask_text : Names → ℕ → List ℕ
mask_text names mask =
    join_with_byte 43 (map (name_at names.events) (filter (λ event. not (nat_eq (bit_and mask (2 ^ event)) 0)) (range_with_len 0 (length names.events))))

-- a service's name and arguments
abbrev pub call_words : Names → Call → List (List ℕ)
call_words names (ActivateTask task) = codes "ActivateTask" ∷ name_at names.tasks task ∷ []
call_words names TerminateTask = codes "TerminateTask" ∷ []
call_words names (ChainTask task) = codes "ChainTask" ∷ name_at names.tasks task ∷ []
call_words names Schedule = codes "Schedule" ∷ []
call_words names (GetResource resource) = codes "GetResource" ∷ name_at names.resources resource ∷ []
call_words names (ReleaseResource resource) = codes "ReleaseResource" ∷ name_at names.resources resource ∷ []
call_words names (SetEvent task mask) = codes "SetEvent" ∷ name_at names.tasks task ∷ mask_text names mask ∷ []
call_words names (ClearEvent mask) = codes "ClearEvent" ∷ mask_text names mask ∷ []
call_words names (GetEvent task) = codes "GetEvent" ∷ name_at names.tasks task ∷ []
call_words names (WaitEvent mask) = codes "WaitEvent" ∷ mask_text names mask ∷ []
call_words names (SetRelAlarm alarm first cycle) = codes "SetRelAlarm" ∷ name_at names.alarms alarm ∷ as_int first ∷ as_int cycle ∷ []
call_words names (SetAbsAlarm alarm first cycle) = codes "SetAbsAlarm" ∷ name_at names.alarms alarm ∷ as_int first ∷ as_int cycle ∷ []
call_words names (CancelAlarm alarm) = codes "CancelAlarm" ∷ name_at names.alarms alarm ∷ []
call_words names (GetAlarm alarm) = codes "GetAlarm" ∷ name_at names.alarms alarm ∷ []

abbrev pub kind_text : FailKind → List ℕ
kind_text HeldAtEnd = codes "HeldAtEnd"
kind_text Null = codes "Null"
kind_text Bounds = codes "Bounds"
kind_text DivZero = codes "DivZero"
kind_text NegativeSize = codes "NegativeSize"
kind_text Cast = codes "Cast"
kind_text Store = codes "Store"
kind_text Interface = codes "Interface"
kind_text HeapFull = codes "HeapFull"
kind_text CopyLimit = codes "CopyLimit"
kind_text NotPortable = codes "NotPortable"
kind_text Thrown = codes "Thrown"
kind_text Depth = codes "Depth"

abbrev pub place_words : Names → Option Place → List (List ℕ)
place_words names None = []
place_words names (Some place) = name_at names.methods place.method ∷ decimal place.pc ∷ []

abbrev pub event_words : Names → Event → List (List ℕ)
event_words names (Service who call answer) = (who_text names who ∷ call_words names call) ++ signed answer ∷ []
event_words names (DevRead who at width value) = who_text names who ∷ codes "read" ∷ decimal at ∷ decimal width ∷ decimal value ∷ []
event_words names (DevWrite who at width value) = who_text names who ∷ codes "write" ∷ decimal at ∷ decimal width ∷ decimal value ∷ []
event_words names (Fail who kind place) = (who_text names who ∷ codes "fail" ∷ kind_text kind ∷ []) ++ place_words names place
event_words names (Lost alarm) = codes "lost" ∷ name_at names.alarms alarm ∷ []
event_words names (Stuck who) = who_text names who ∷ codes "stuck" ∷ []

abbrev pub event_line : Names → Event → List ℕ
event_line names event = join_with_byte 32 (event_words names event)
