-- The events, resources and counters (OIL 2.5, sections 3.2.5, 3.2.6 and 3.2.3).
use Rattle.std.specs.Prelude.{ℕ, ◌==◌, List, [], length, Bool, Ok, bytes_eq, codes, if◌then◌else◌}
use Rattle.std.specs.List.{list_any}
use Rattle.kes_text.specs.declared.refusal.Kind.TheVariants as kind
use Rattle.osek_core.specs.declared.tables.Name.{Name}
use Rattle.osek_core.specs.declared.tables.CounterRow.{CounterRow}
use Rattle.osek_core.specs.declared.tables.CounterRule.{CounterRule}
use Rattle.oil_out.specs.OilText.{mask}
use Rattle.oil_in.specs.declared.pieces.Number.{Number}
use Rattle.oil_in.specs.declared.pieces.Number.TheVariants.{Large, Value}
use Rattle.oil_in.specs.Pieces.{behind}
use Rattle.oil_in.specs.Forms.{header, number_line}
use Rattle.oil_in.specs.Scan.{Scan, Read, ◌>>=◌, refused, next, line, fixed, number_between, many}
use Rattle.std.specs.Prelude.{Result}
use Rattle.kes_text.specs.declared.refusal.Stop.{Stop}

-- an object's last line
unfoldable pub object_end : Scan → Result Scan Stop
object_end s = fixed (behind (codes "  };\n") s.text) s

-- behind an object's first line, unless the name stands already
abbrev pub fresh : Bool → List ℕ → Scan → Result Scan Stop
fresh stands rest s = if stands then refused kind.Twice s else Ok (next s rest)

abbrev pub is_named : List ℕ → Name → Bool
is_named text name = bytes_eq name.text text

-- a mask is that of the event's place
abbrev pub masked : ℕ → Number → Scan → Scan → Result Scan Stop
masked k Large s behind = refused kind.Range s
masked k (Value n) s behind = if n == mask k then Ok behind else refused kind.Syntax s

unfoldable pub mask_at : ℕ → Scan → Result Scan Stop
mask_at k s = do
  number ← line (number_line (codes "    MASK = ") s.text) s
  masked k number.0 s number.1

-- an event, with those before it, and its name and what is behind its first line
unfoldable pub event_at : List Name → List ℕ × List ℕ → Scan → Read Name
event_at events h s = do
  named ← fresh (list_any (is_named h.0) events) h.1 s
  mask ← mask_at (length events) named
  ended ← object_end mask
  Ok (record { text = h.0 }, ended)

abbrev pub events_at : Scan → Read (List Name)
events_at s = many (header (codes "  EVENT e_")) event_at 31 [] s

unfoldable pub property_at : Scan → Result Scan Stop
property_at s = fixed (behind (codes "    RESOURCEPROPERTY = STANDARD;\n") s.text) s

unfoldable pub resource_at : List Name → List ℕ × List ℕ → Scan → Read Name
resource_at resources h s = do
  named ← fresh (list_any (is_named h.0) resources) h.1 s
  property ← property_at named
  ended ← object_end property
  Ok (record { text = h.0 }, ended)

abbrev pub resources_at : Scan → Read (List Name)
resources_at s = many (header (codes "  RESOURCE r_")) resource_at 32 [] s

unfoldable pub max_at : Scan → Read ℕ
max_at s = number_between (codes "    MAXALLOWEDVALUE = ") 1 2147483647 s

unfoldable pub base_at : Scan → Read ℕ
base_at s = number_between (codes "    TICKSPERBASE = ") 1 65535 s

unfoldable pub min_at : ℕ → Scan → Read ℕ
min_at max s = number_between (codes "    MINCYCLE = ") 1 max s

unfoldable pub counter_rule_at : Scan → Read CounterRule
counter_rule_at s = do
  max ← max_at s
  base ← base_at max.1
  min ← min_at max.0 base.1
  Ok (record { max = max.0; base = base.0; min = min.0 }, min.1)

unfoldable pub counter_at : List CounterRow → List ℕ × List ℕ → Scan → Read CounterRow
counter_at counters h s = do
  named ← fresh (list_any (λ row. is_named h.0 row.name) counters) h.1 s
  rule ← counter_rule_at named
  ended ← object_end rule.1
  Ok (record { name = record { text = h.0 }; rule = rule.0 }, ended)

abbrev pub counters_at : Scan → Read (List CounterRow)
counters_at s = many (header (codes "  COUNTER c_")) counter_at 8 [] s
