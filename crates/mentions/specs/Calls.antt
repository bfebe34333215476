-- What calls mention in a domain, or the first rule of the profile that fails: of a native method without a line, of interfaces with
-- code, of a portal to the own domain, and of receivers that run no method with code.
use Rattle.std.specs.Prelude.{ℕ, Bool, false, List, [], ◌∷◌, ◌++◌, map, Option, Some, None, Result, Ok, Err, bytes_eq, codes, slice_get, not, nat_lt, ◌==◌, ◌&&◌, ◌||◌, if◌then◌else◌}
use Rattle.std.specs.List.{list_any}
use Rattle.std.specs.Option.{option_and_then}
use Rattle.kes_text.specs.declared.refusal.Kind.{Kind}
use Rattle.kes_text.specs.declared.refusal.Kind.TheVariants as kind
use Rattle.classfile.specs.ClassFile.{MethodInfo, MemberInfo}
use Rattle.jworld.specs.declared.ids.MethodId.{MethodId}
use Rattle.jworld.specs.Classes.{World, class_named, super_of, is_interface, is_set}
use Rattle.jworld.specs.Upwards.{is_subclass}
use Rattle.jworld.specs.Members.{methods_of}
use Rattle.jworld.specs.Methods.{selected_method}
use Rattle.linking.specs.Methods.{method_key}
use Rattle.reaching.specs.declared.pair.Pair.{Pair}
use Rattle.mentions.specs.declared.binding.Binding.{Binding}
use Rattle.mentions.specs.declared.binding.Binding.TheVariants.{Portal}
use Rattle.mentions.specs.declared.called.Called.{Called}
use Rattle.mentions.specs.Bindings.{binding_of}
use Rattle.mentions.specs.Initialisers.{in_domain, initialisers}
use Rattle.mentions.specs.Setting.{Setting}
use Rattle.mentions.specs.Targets.{Targets, has_code, targets_of}

-- whether a pair's method stands in an interface
abbrev pub in_interface : World → Pair → Bool
in_interface files pair = is_interface files pair.method.class.n

-- initialisers and targets, none of which stands in an interface
abbrev pub outside_interfaces : World → List Pair → List Pair → Result Called Kind
outside_interfaces files first targets =
    if list_any (in_interface files) first || list_any (in_interface files) targets then Err kind.InterfaceCode else Ok (record { initialisers = first; targets = targets })

-- ACC_NATIVE (4.6)
abbrev pub is_native_in : Option MethodInfo → Bool
is_native_in None = false
is_native_in (Some method) = is_set method.flags 0x0100

abbrev pub is_native : World → MethodId → Bool
is_native files id = is_native_in (slice_get (methods_of files id.class.n) id.n)

-- ---- static calls

-- a method without a line is to have code
abbrev pub method_called : World → ℕ → MethodId → Result Called Kind
method_called files domain id =
    if has_code files id then outside_interfaces files (initialisers files domain id.class.n) (in_domain domain id ∷ [])
    else if list_any (in_interface files) (initialisers files domain id.class.n) then Err kind.InterfaceCode else Err kind.NoTarget

-- a portal runs its target in the server's domain
abbrev pub unless_own : ℕ → ℕ → Result Called Kind → Result Called Kind
unless_own domain server (Err rule) = Err rule
unless_own domain server (Ok called) = if domain == server then Err kind.OwnPortal else Ok called

abbrev pub portal_called : World → ℕ → MethodId → ℕ → MethodId → Result Called Kind
portal_called files domain id server target =
    unless_own domain server
    (outside_interfaces files (initialisers files domain id.class.n ++ initialisers files server target.class.n) (in_domain server target ∷ []))

abbrev pub static_by : World → ℕ → MethodId → Option Binding → Result Called Kind
static_by files domain id (Some (Portal server target)) = portal_called files domain id server target
static_by files domain id (Some other) = outside_interfaces files (initialisers files domain id.class.n) []
static_by files domain id None = if is_native files id then Err kind.Unbound else method_called files domain id

abbrev pub static_called : Setting → ℕ → MethodId → Result Called Kind
static_called s domain id = static_by s.files domain id (binding_of s.bound id)

-- ---- special calls

-- a method of a proper superclass is selected from the direct superclass on
abbrev pub is_of_super : World → ℕ → MemberInfo → ℕ → Bool
is_of_super files own named class = not (bytes_eq named.name (codes "<init>")) && (not (class == own) && is_subclass files own class)

abbrev pub special_target : World → ℕ → MemberInfo → Option ℕ → MethodId → Option MethodId
special_target files own named None id = Some id
special_target files own named (Some class) id =
    if is_of_super files own named class then option_and_then (selected_method files (method_key named)) (super_of files own) else Some id

-- the constructor of a built-in class has no target
abbrev pub special_to : World → ℕ → Option MethodId → Result Called Kind
special_to files domain None = Err kind.NoTarget
special_to files domain (Some id) =
    if nat_lt id.class.n 4 then Ok (record { initialisers = []; targets = [] })
    else if has_code files id then outside_interfaces files [] (in_domain domain id ∷ []) else Err kind.NoTarget

abbrev pub special_called : World → ℕ → ℕ → MemberInfo → MethodId → Result Called Kind
special_called files domain own named id =
    if is_native files id then Err kind.Unbound else special_to files domain (special_target files own named (class_named files named.class) id)

-- ---- calls of a receiver's method

abbrev pub virtual_to : World → ℕ → Option Targets → Result Called Kind
virtual_to files domain None = Err kind.NoTarget
virtual_to files domain (Some targets) = outside_interfaces files [] (map (λ e. in_domain domain e.1) targets)

abbrev pub virtual_by : World → ℕ → MemberInfo → Option ℕ → Result Called Kind
virtual_by files domain named None = Err kind.NoTarget
virtual_by files domain named (Some called) = virtual_to files domain (targets_of files (method_key named) called)

abbrev pub virtual_called : World → ℕ → MemberInfo → MethodId → Result Called Kind
virtual_called files domain named id = if is_native files id then Err kind.Unbound else virtual_by files domain named (class_named files named.class)
