-- Worked examples of texts and their tables.
use Rattle.std.specs.Prelude.{◌≡◌, ℕ, List, [], ◌∷◌, ◌++◌, Some, None, Ok, true, false, codes}
use Rattle.kes_text.specs.declared.refusal.Kind.TheVariants as kind
use Rattle.osek_core.specs.declared.tables.Action.TheVariants as action
use Rattle.osek_core.specs.declared.tables.Tables.{Tables}
use Rattle.oil_out.specs.OilText.{oil_text}
use Rattle.oil_in.specs.declared.pieces.Number.TheVariants.{Large, Value}
use Rattle.oil_in.specs.Pieces.{name_at, number_at}
use Rattle.oil_in.specs.Scan.{Scan, refused}
use Rattle.oil_in.specs.Objects.{mask_at}
use Rattle.oil_in.specs.Tasks.{places_at}
use Rattle.oil_in.specs.Reading.{oil_read}

-- an event, a resource, a counter, a task that uses and waits for them, and an alarm that sets the event for it
abbrev pub one_of_each : Tables
one_of_each = record {
  events = record { text = codes "go" } ∷ [];
  resources = record { text = codes "bus" } ∷ [];
  counters = record { name = record { text = codes "ms" }; rule = record { max = 1000; base = 1; min = 1 } } ∷ [];
  tasks = record {
    name = record { text = codes "main" };
    rule = record { priority = 1; activations = 1; preemptable = true; extended = true };
    auto = true;
    resources = 0 ∷ [];
    events = 0 ∷ [];
  } ∷ [];
  alarms = record {
    name = record { text = codes "beat" };
    counter = 0;
    action = action.Set 0 0;
    start = Some (record { first = 2; cycle = 2 });
  } ∷ [];
}

-- what is printed is read as what it was
abbrev pub ObjectsAreRead : Type 0
ObjectsAreRead = oil_read (oil_text one_of_each) ≡ Ok one_of_each

-- a number has no needless 0 in front, and ends before the first byte that is no digit
abbrev pub NumbersAreRead : Type 0
NumbersAreRead =
    (number_at (codes "40;") ≡ Some (Value 40, codes ";"))
    × (number_at (codes "0") ≡ Some (Value 0, []))
    × (number_at (codes "040;") ≡ None)
    × (number_at (codes ";") ≡ None)
    × (number_at (codes "18446744073709551615;") ≡ Some (Value 18446744073709551615, codes ";"))
    × (number_at (codes "18446744073709551616;") ≡ Some (Large, codes ";"))

-- a name begins with a letter, and has at most 32 bytes
abbrev pub NamesAreRead : Type 0
NamesAreRead =
    (name_at (codes "a_9 {") ≡ Some (codes "a_9", codes " {"))
    × (name_at (codes "9a {") ≡ None)
    × (name_at (codes "a2345678901234567890123456789012 ") ≡ Some (codes "a2345678901234567890123456789012", codes " "))
    × (name_at (codes "a23456789012345678901234567890123 ") ≡ None)

abbrev pub at_line : ℕ → List ℕ → Scan
at_line n text = record { text = text; line = n }

-- at one line the order is Syntax, Range, Unknown, and a text that ends too early is refused behind its last line
abbrev pub FirstFaults : Type 0
FirstFaults =
    (mask_at 1 (at_line 20 (codes "    MASK = 4;\n")) ≡ refused kind.Syntax (at_line 20 []))
    × (mask_at 1 (at_line 20 (codes "    MASK = 18446744073709551616;\n")) ≡ refused kind.Range (at_line 20 []))
    × (places_at (codes "    EVENT = e_") false [] (at_line 30 (codes "    EVENT = e_go;\n")) ≡ refused kind.Range (at_line 30 []))
    × (places_at (codes "    EVENT = e_") true [] (at_line 30 (codes "    EVENT = e_go;\n")) ≡ refused kind.Unknown (at_line 30 []))
    × (oil_read [] ≡ refused kind.Syntax (at_line 1 []))
    × (oil_read (codes "OIL_VERSION = \"2.5\";\n") ≡ refused kind.Syntax (at_line 2 []))
    × (oil_read (oil_text one_of_each ++ codes "\n") ≡ refused kind.Syntax (at_line 41 []))
