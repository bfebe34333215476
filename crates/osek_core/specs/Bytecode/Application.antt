-- What a run is given: the classes, and what the configuration says of domains, tasks and natives.
use Rattle.std.specs.Prelude.{ℕ, Bool, ◌&&◌, List, ◌++◌, map, flat_map, find, Option, bytes_eq, codes, is_some, unwrap_or, position}
use Rattle.std.specs.Option.{option_map, option_and_then}
use Rattle.osek_core.specs.declared.call.Call.{Call}
use Rattle.osek_core.specs.declared.tables.Tables.{Tables}
use Rattle.osek_core.specs.Bytecode.World.{World, ClassFile, Method, Member, Code, is_static, class_named}
use Rattle.osek_core.specs.Bytecode.Shown.{shown, shown_method, same_member, descriptor_text}

-- a service that a native method is bound to: a call with all its numbers, or an alarm's, which takes its two numbers
-- from the operands
pub data Service : Type 0 where
  Whole : (call : Call) → Service
  SetRel : (alarm : ℕ) → Service
  SetAbs : (alarm : ℕ) → Service

-- a native by its method's shown bytes
pub record Native : Type 0 where
  pub method : List ℕ
  pub service : Service

-- a task's domain, and its entry as the configuration writes it: `Class/Name.method`
pub record TaskPlace : Type 0 where
  pub domain : ℕ
  pub entry : List ℕ

pub record Config : Type 0 where
  pub tables : Tables
  -- the heap of each domain, in bytes
  pub heaps : List ℕ
  -- of each task
  pub tasks : List TaskPlace
  pub natives : List Native
  -- how many device bytes there are
  pub devices : ℕ

-- a method that is run in a domain
pub record Reached : Type 0 where
  pub domain : ℕ
  pub method : Member

-- the initialisers are in the order in which they run; the number of a method in an event is its place in methods
pub record Application : Type 0 where
  pub world : World
  pub config : Config
  pub initialisers : List Reached
  pub methods : List Member

abbrev pub member_of : ClassFile → Method → Member
member_of class method = record { class = class.name; name = method.name; descriptor = method.descriptor }

-- all methods, in the order of the files
abbrev pub members : World → List Member
members world = flat_map (λ class. map (member_of class) class.methods) world

abbrev pub method_of : World → Member → Option Method
method_of world m =
    option_and_then (λ class. find (λ method. same_member (member_of class method) m) class.methods) (class_named world m.class)

abbrev pub code_of : World → Member → Option Code
code_of world m = option_and_then (λ method. method.code) (method_of world m)

-- a task's entry is a static `()V` method with code
abbrev pub is_entry : World → List ℕ → Member → Bool
is_entry world entry m =
    bytes_eq (shown m.class ++ codes "." ++ shown m.name) entry
    && bytes_eq (descriptor_text m.descriptor) (codes "()V")
    && is_some (code_of world m) && is_static (unwrap_or (option_map (λ method. method.flags) (method_of world m)) 0)

abbrev pub entry_of : World → TaskPlace → Option Reached
entry_of world place =
    option_map (λ m. record { domain = place.domain; method = m }) (find (is_entry world place.entry) (members world))

-- the service that a method is bound to
abbrev pub service_of : Config → Member → Option Service
service_of config m =
    option_map (λ native. native.service) (find (λ native. bytes_eq native.method (shown_method m)) config.natives)

abbrev pub number_of : Application → Member → ℕ
number_of app m = unwrap_or (position (same_member m) app.methods) 0
