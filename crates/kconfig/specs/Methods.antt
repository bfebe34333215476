-- The lines of native methods, devices and portals. Each takes the words behind the first.
use Rattle.std.specs.Prelude.{ℕ, ◌^◌, ◌==◌, nat_lt, Bool, true, false, ◌&&◌, not, List, [], ◌∷◌, ◌++◌, length, codes, bit_or, Option, Some, None, Result, Ok, bytes_eq, if◌then◌else◌}
use Rattle.std.specs.List.{list_any, slice_split}
use Rattle.std.specs.Option.{option_and_then}
use Rattle.kes_text.specs.declared.refusal.Stop.{Stop}
use Rattle.kes_text.specs.declared.refusal.Kind.TheVariants as kind
use Rattle.kconfig.specs.declared.config.NameLine.{NameLine}
use Rattle.kconfig.specs.declared.config.NativeLine.{NativeLine}
use Rattle.kconfig.specs.declared.config.DeviceLine.{DeviceLine}
use Rattle.kconfig.specs.declared.config.PortalLine.{PortalLine}
use Rattle.kconfig.specs.declared.config.Config.{Config}
use Rattle.kconfig.specs.declared.config.Service.{Service}
use Rattle.kconfig.specs.declared.config.Service.TheVariants as service
use Rattle.kconfig.specs.declared.service_words.ServiceWord.{ServiceWord}
use Rattle.kconfig.specs.declared.service_words.ServiceWord.TheVariants as by
use Rattle.text_words.specs.Said.{◌>>=◌, refused, check, known}
use Rattle.text_words.specs.declared.number.Number.{Number}
use Rattle.text_words.specs.Numbers.{number_of, is_number, within, value}
use Rattle.kconfig.specs.Words.{is_method}
use Rattle.kconfig.specs.Config.{Before}
use Rattle.kconfig.specs.Names.{named, domain_named, task_named, alarm_named, object_named, is_bound}

-- `+` joins events
abbrev pub joined : List ℕ → List (List ℕ)
joined word = slice_split (λ byte. byte == 43) word

abbrev pub is_empty : List ℕ → Bool
is_empty [] = true
is_empty (byte ∷ bytes) = false

-- none is empty, and none stands among those before it
abbrev pub each_once : List (List ℕ) → List (List ℕ) → Bool
each_once earlier [] = true
each_once earlier (name ∷ names) =
    (not (is_empty name) && not (list_any (bytes_eq name) earlier)) && each_once (earlier ++ name ∷ []) names

-- the mask of events, with those of one before it: event k is bit k
abbrev pub mask_with : List NameLine → ℕ → List (List ℕ) → Option ℕ
mask_with events mask [] = Some mask
mask_with events mask (name ∷ names) = option_and_then (λ k. mask_with events (bit_or mask (2 ^ k)) names) (named events name)

-- one or more events joined by `+`, each once
abbrev pub is_event_list : List ℕ → Bool
is_event_list word = each_once [] (joined word)

abbrev pub mask_named : List NameLine → List ℕ → Option ℕ
mask_named lines word = mask_with lines 0 (joined word)

-- the service of this name
abbrev pub service_word : List ℕ → Option ServiceWord
service_word word =
    if bytes_eq word (codes "ActivateTask") then Some by.ActivateTask
    else if bytes_eq word (codes "TerminateTask") then Some by.TerminateTask
    else if bytes_eq word (codes "ChainTask") then Some by.ChainTask
    else if bytes_eq word (codes "Schedule") then Some by.Schedule
    else if bytes_eq word (codes "GetResource") then Some by.GetResource
    else if bytes_eq word (codes "ReleaseResource") then Some by.ReleaseResource
    else if bytes_eq word (codes "SetEvent") then Some by.SetEvent
    else if bytes_eq word (codes "ClearEvent") then Some by.ClearEvent
    else if bytes_eq word (codes "GetEvent") then Some by.GetEvent
    else if bytes_eq word (codes "WaitEvent") then Some by.WaitEvent
    else if bytes_eq word (codes "SetRelAlarm") then Some by.SetRelAlarm
    else if bytes_eq word (codes "SetAbsAlarm") then Some by.SetAbsAlarm
    else if bytes_eq word (codes "CancelAlarm") then Some by.CancelAlarm
    else if bytes_eq word (codes "GetAlarm") then Some by.GetAlarm
    else None

-- the service takes no argument
abbrev pub is_bare : ServiceWord → Bool
is_bare by.TerminateTask = true
is_bare by.Schedule = true
is_bare _ = false

-- the service takes one argument, which has the form that it wants
abbrev pub takes : ServiceWord → List ℕ → Bool
takes by.TerminateTask argument = false
takes by.Schedule argument = false
takes by.SetEvent argument = false
takes by.ClearEvent argument = is_event_list argument
takes by.WaitEvent argument = is_event_list argument
takes _ argument = true

abbrev pub is_set_event : ServiceWord → Bool
is_set_event by.SetEvent = true
is_set_event _ = false

abbrev pub has_form : ServiceWord → List (List ℕ) → Bool
has_form word [] = is_bare word
has_form word (argument ∷ []) = takes word argument
has_form word (task ∷ events ∷ []) = is_set_event word && is_event_list events
has_form word _ = false

abbrev pub bare_service : ServiceWord → Option Service
bare_service by.TerminateTask = Some service.TerminateTask
bare_service by.Schedule = Some service.Schedule
bare_service _ = None

-- a service of a task, of a resource, of an alarm and of events; None where it is undeclared
abbrev pub task_service : ServiceWord → Option ℕ → Option Service
task_service by.ActivateTask (Some task) = Some (service.ActivateTask task)
task_service by.ChainTask (Some task) = Some (service.ChainTask task)
task_service by.GetEvent (Some task) = Some (service.GetEvent task)
task_service _ _ = None

abbrev pub resource_service : ServiceWord → Option ℕ → Option Service
resource_service by.GetResource (Some resource) = Some (service.GetResource resource)
resource_service by.ReleaseResource (Some resource) = Some (service.ReleaseResource resource)
resource_service _ _ = None

abbrev pub alarm_service : ServiceWord → Option ℕ → Option Service
alarm_service by.SetRelAlarm (Some alarm) = Some (service.SetRelAlarm alarm)
alarm_service by.SetAbsAlarm (Some alarm) = Some (service.SetAbsAlarm alarm)
alarm_service by.CancelAlarm (Some alarm) = Some (service.CancelAlarm alarm)
alarm_service by.GetAlarm (Some alarm) = Some (service.GetAlarm alarm)
alarm_service _ _ = None

abbrev pub event_service : ServiceWord → Option ℕ → Option Service
event_service by.ClearEvent (Some mask) = Some (service.ClearEvent mask)
event_service by.WaitEvent (Some mask) = Some (service.WaitEvent mask)
event_service _ _ = None

-- the service with one argument; None where it names something undeclared
abbrev pub service_with : Config → ServiceWord → List ℕ → Option Service
service_with c by.ActivateTask name = task_service by.ActivateTask (task_named c name)
service_with c by.ChainTask name = task_service by.ChainTask (task_named c name)
service_with c by.GetEvent name = task_service by.GetEvent (task_named c name)
service_with c by.GetResource name = resource_service by.GetResource (named c.resources name)
service_with c by.ReleaseResource name = resource_service by.ReleaseResource (named c.resources name)
service_with c by.ClearEvent names = event_service by.ClearEvent (mask_named c.events names)
service_with c by.WaitEvent names = event_service by.WaitEvent (mask_named c.events names)
service_with c word name = alarm_service word (alarm_named c name)

-- SetEvent T E+E
abbrev pub set_event : Option ℕ → Option ℕ → Option Service
set_event (Some task) (Some mask) = Some (service.SetEvent task mask)
set_event _ _ = None

-- what the method calls; None where a name is undeclared
abbrev pub service_named : Config → ServiceWord → List (List ℕ) → Option Service
service_named c word [] = bare_service word
service_named c word (argument ∷ []) = service_with c word argument
service_named c word (task ∷ events ∷ []) = set_event (task_named c task) (mask_named c.events events)
service_named c word _ = None

unfoldable pub native_said : Before → ℕ → List ℕ → List ℕ → List (List ℕ) → Result NativeLine Stop
native_said before n method name arguments = do
  word ← known (service_word name) kind.Syntax n
  _ ← check (is_method method) kind.Syntax n
  _ ← check (has_form word arguments) kind.Syntax n
  _ ← check (not (is_bound before.config method)) kind.Twice n
  called ← known (service_named before.config word arguments) kind.Unknown n
  Ok (record { line = n; method = method; service = called })

-- native METHOD SERVICE ARGS
abbrev pub native_line : Before → ℕ → List (List ℕ) → Result NativeLine Stop
native_line before n (method ∷ name ∷ arguments) = native_said before n method name arguments
native_line before n _ = refused kind.Syntax n

unfoldable pub device_said : Before → ℕ → List ℕ → List ℕ → Result DeviceLine Stop
device_said before n method object = do
  _ ← check (is_method method) kind.Syntax n
  _ ← check (not (is_bound before.config method)) kind.Twice n
  o ← known (object_named before.config object) kind.Unknown n
  Ok (record { line = n; method = method; object = o })

-- device METHOD O
abbrev pub device_line : Before → ℕ → List (List ℕ) → Result DeviceLine Stop
device_line before n (method ∷ object ∷ []) = device_said before n method object
device_line before n _ = refused kind.Syntax n

unfoldable pub portal_said : Before → ℕ → List ℕ → List ℕ → List ℕ → Number → Result PortalLine Stop
portal_said before n method domain target limit = do
  _ ← check (is_method method) kind.Syntax n
  _ ← check (is_method target) kind.Syntax n
  _ ← check (is_number limit) kind.Syntax n
  _ ← check (within 1 256 limit) kind.Range n
  _ ← check (nat_lt (length before.config.portals) 256) kind.Room n
  _ ← check (not (is_bound before.config method)) kind.Twice n
  d ← known (domain_named before.config domain) kind.Unknown n
  Ok (record { line = n; method = method; domain = d; target = target; limit = value limit })

abbrev pub are_portal_words : List ℕ → List ℕ → List ℕ → Bool
are_portal_words domain_word target_word limit_word =
    (bytes_eq domain_word (codes "domain") && bytes_eq target_word (codes "target")) && bytes_eq limit_word (codes "limit")

-- portal METHOD domain D target METHOD limit N
abbrev pub portal_line : Before → ℕ → List (List ℕ) → Result PortalLine Stop
portal_line before n (method ∷ domain_word ∷ domain ∷ target_word ∷ target ∷ limit_word ∷ limit ∷ []) = do
  _ ← check (are_portal_words domain_word target_word limit_word) kind.Syntax n
  portal_said before n method domain target (number_of limit)
portal_line before n _ = refused kind.Syntax n
