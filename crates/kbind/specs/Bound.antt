-- What the lines of a configuration name in a world, or the first line whose rule fails.
use Rattle.std.specs.Prelude.{◌≡◌, ℕ, ◌+◌, Bool, nat_le, List, [], ◌∷◌, ◌++◌, map, flat_map, filter_map, Option, Some, None, Result, Ok, Err, is_some, slice_get, true, if◌then◌else◌}
use Rattle.kes_text.specs.declared.refusal.Kind.{Kind}
use Rattle.kes_text.specs.declared.refusal.Kind.TheVariants as kind
use Rattle.kes_text.specs.declared.refusal.Refusal.{Refusal}
use Rattle.kes_text.specs.declared.refusal.Stop.{Stop}
use Rattle.kes_text.specs.declared.refusal.Stop.TheVariants.{Refused}
use Rattle.jworld.specs.declared.ids.MethodId.{MethodId}
use Rattle.jworld.specs.Classes.{World}
use Rattle.kconfig.specs.declared.config.Config.{Config}
use Rattle.kconfig.specs.declared.config.TaskLine.{TaskLine}
use Rattle.kconfig.specs.declared.config.NativeLine.{NativeLine}
use Rattle.kconfig.specs.declared.config.CellLine.{CellLine}
use Rattle.kconfig.specs.declared.config.ObjectLine.{ObjectLine}
use Rattle.kconfig.specs.declared.config.DeviceLine.{DeviceLine}
use Rattle.kconfig.specs.declared.config.PortalLine.{PortalLine}
use Rattle.kbind.specs.declared.bound.Bound.{Bound}
use Rattle.kbind.specs.Methods.{Declared, declared_methods}
use Rattle.kbind.specs.Entries.{entry_named}
use Rattle.kbind.specs.Natives.{native_named}
use Rattle.kbind.specs.Shown.{class_shown}
use Rattle.kbind.specs.Cells.{cell_parts, cell_named, cell_holds, is_mapped_class}
use Rattle.kbind.specs.Objects.{object_class, object_holds, device_named}
use Rattle.kbind.specs.Portals.{portal_named}

-- ---- the lines whose rule fails, form by form

-- a fault at a line, unless its rule holds
abbrev pub unless : Bool → Kind → ℕ → List Refusal
unless holds kind line = if holds then [] else record { file = 0; kind = kind; at = line } ∷ []

abbrev pub entry_of : World → TaskLine → Option MethodId
entry_of files line = entry_named files line.entry

abbrev pub entry_faults : World → List TaskLine → List Refusal
entry_faults files lines = flat_map (λ line. unless (is_some (entry_of files line)) kind.NoEntry line.line) lines

abbrev pub native_faults : List Declared → List NativeLine → List Refusal
native_faults methods lines = flat_map (λ line. unless (is_some (native_named methods line)) kind.BadNative line.line) lines

-- the cell lines from the n-th on
abbrev pub cell_faults : World → List CellLine → ℕ → List CellLine → List Refusal
cell_faults files cells n [] = []
cell_faults files cells n (line ∷ lines) = unless (cell_holds files cells n line) kind.BadMapped line.line ++ cell_faults files cells (n + 1) lines

-- the object lines from the n-th on
abbrev pub object_faults : ℕ → List CellLine → List ObjectLine → ℕ → List ObjectLine → List Refusal
object_faults size cells objects n [] = []
object_faults size cells objects n (line ∷ lines) =
    unless (object_holds size cells objects n line) kind.BadMapped line.line ++ object_faults size cells objects (n + 1) lines

abbrev pub device_faults : List Declared → List ObjectLine → List DeviceLine → List Refusal
device_faults methods objects lines = flat_map (λ line. unless (is_some (device_named methods objects line)) kind.BadMapped line.line) lines

abbrev pub portal_faults : List Declared → List PortalLine → List Refusal
portal_faults methods lines = flat_map (λ line. unless (is_some (portal_named methods line)) kind.BadPortal line.line) lines

-- of the lines that name classes, and of those that name methods of these
unfoldable pub class_faults : World → Config → List Refusal
class_faults files c = (entry_faults files c.tasks ++ cell_faults files c.cells 0 c.cells) ++ object_faults c.devices.size c.cells c.objects 0 c.objects

unfoldable pub method_faults : List Declared → Config → List Refusal
method_faults methods c = (native_faults methods c.natives ++ device_faults methods c.objects c.device_methods) ++ portal_faults methods c.portals

abbrev pub faults : World → Config → List Refusal
faults files c = class_faults files c ++ method_faults (declared_methods files) c

-- ---- the first of them by its line; of several at one line the first in this order

abbrev pub earlier : Refusal → Option Refusal → Refusal
earlier fault None = fault
earlier fault (Some other) = if nat_le fault.at other.at then fault else other

abbrev pub earliest : List Refusal → Option Refusal
earliest [] = None
earliest (fault ∷ faults) = Some (earlier fault (earliest faults))

-- ---- what the lines name

-- the member of each line that names one
unfoldable pub members : World → Config → Bound
members files c = record {
  config = c;
  entries = filter_map (entry_of files) c.tasks;
  natives = filter_map (native_named (declared_methods files)) c.natives;
  cells = filter_map (cell_named files) c.cells;
  objects = filter_map (object_class files) c.objects;
  device_methods = filter_map (device_named (declared_methods files) c.objects) c.device_methods;
  portals = filter_map (portal_named (declared_methods files)) c.portals;
}

abbrev pub unless_fault : Bound → Option Refusal → Result Bound Stop
unless_fault bound None = Ok bound
unless_fault bound (Some fault) = Err (Refused fault)

-- a configuration bound to a world, or its first fault
abbrev pub bound_of : World → Config → Result Bound Stop
bound_of files c = unless_fault (members files c) (earliest (faults files c))

-- the class of a cell line may have cells, and has one for each instance field
abbrev pub is_of_mapped_class : World → List CellLine → CellLine → Bool
is_of_mapped_class files cells line = is_mapped_class files cells (cell_parts line.field).0 (class_shown files (cell_parts line.field).0)

-- Each line has its member, which keeps the rule of its form. What else the rules ask is said of the class of each cell line, and of
-- the place of each object line.
pub record IsBound (files : World) (bound : Bound) : Type 0 where
  pub entries : map (λ id. Some id) bound.entries ≡ map (entry_of files) bound.config.tasks
  pub natives : map (λ id. Some id) bound.natives ≡ map (native_named (declared_methods files)) bound.config.natives
  pub cells : map (λ id. Some id) bound.cells ≡ map (cell_named files) bound.config.cells
  pub objects : map (λ id. Some id) bound.objects ≡ map (object_class files) bound.config.objects
  pub device_methods : map (λ id. Some id) bound.device_methods ≡ map (device_named (declared_methods files) bound.config.objects) bound.config.device_methods
  pub portals : map (λ ids. Some ids) bound.portals ≡ map (portal_named (declared_methods files)) bound.config.portals
  pub mapped : (n : ℕ) (line : CellLine) → slice_get bound.config.cells n ≡ Some line → is_of_mapped_class files bound.config.cells line ≡ true
  pub placed : (n : ℕ) (line : ObjectLine) → slice_get bound.config.objects n ≡ Some line → object_holds bound.config.devices.size bound.config.cells bound.config.objects n line ≡ true
