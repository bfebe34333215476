-- What a native method is bound to by a line of the configuration.
use Rattle.std.specs.Prelude.{ℕ, Bool, List, [], ◌∷◌, ◌++◌, map, zip, fold, Option, Some, None, is_some, ◌==◌, ◌&&◌, if◌then◌else◌}
use Rattle.jworld.specs.declared.ids.MethodId.{MethodId}
use Rattle.kconfig.specs.declared.config.NativeLine.{NativeLine}
use Rattle.kconfig.specs.declared.config.DeviceLine.{DeviceLine}
use Rattle.kconfig.specs.declared.config.PortalLine.{PortalLine}
use Rattle.kbind.specs.declared.bound.Bound.{Bound}
use Rattle.mentions.specs.declared.binding.Binding.{Binding}
use Rattle.mentions.specs.declared.binding.Binding.TheVariants.{Service, Device, Portal}

abbrev pub is_method : MethodId → MethodId → Bool
is_method one other = one.class.n == other.class.n && one.n == other.n

-- a method with what it is bound to
abbrev pub Entry : Type 0
Entry = MethodId × Binding

-- a line beside the method that it names is an entry
abbrev pub native : NativeLine × MethodId → Entry
native line = (line.1, Service line.0.service)

abbrev pub device : DeviceLine × MethodId → Entry
device line = (line.1, Device line.0.object)

-- a portal's method is bound to a target in the domain of its line
abbrev pub portal : PortalLine × (MethodId × MethodId) → Entry
portal line = (line.1.0, Portal line.0.domain line.1.1)

abbrev pub entries_of : Bound → List Entry
entries_of bound =
    map native (zip bound.config.natives bound.natives) ++ map device (zip bound.config.device_methods bound.device_methods)
    ++ map portal (zip bound.config.portals bound.portals)

-- what the first entry of a method binds it to
abbrev pub bound_as : MethodId → List Entry → Option Binding
bound_as id [] = None
bound_as id (entry ∷ entries) = if is_method id entry.0 then Some entry.1 else bound_as id entries

-- an entry of a method that has none yet
abbrev pub add : List Entry → Entry → List Entry
add entries entry = if is_some (bound_as entry.0 entries) then entries else entries ++ entry ∷ []

abbrev pub add_all : List Entry → List Entry → List Entry
add_all entries more = fold add entries more

unfoldable pub binding_of : Bound → MethodId → Option Binding
binding_of bound id = bound_as id (entries_of bound)

-- an entry by the numbers of its method
abbrev pub entry_of : (ℕ × ℕ) × Binding → Entry
entry_of e = (record { class = record { n = e.0.0 }; n = e.0.1 }, e.1)
