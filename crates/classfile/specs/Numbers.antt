-- Numbers in place of the texts of a constant pool, so that two long texts are compared as two numbers.
use Rattle.std.specs.Prelude.{◌≡◌, ℕ, ◌-◌, List, Option, Some, None, Bool, false, unwrap_or, slice_index_or, bytes_eq, ◌&&◌, ◌==◌, if◌then◌else◌}
use Rattle.std.specs.List.{list_any}
use Rattle.std.specs.Map.{lookup}
use mathlib.Core.Bool.{beq}
use Rattle.classfile.specs.declared.uses.Use.{Use}
use Rattle.classfile.specs.declared.uses.Use.TheVariants as uses
use Rattle.classfile.specs.declared.pool.Entry.{Entry}
use Rattle.classfile.specs.Pool.{text}

-- texts, each with its number
abbrev pub Known : Type 0
Known = List (List ℕ × ℕ)

abbrev pub number_in : Known → List ℕ → Option ℕ
number_in known t = lookup (bytes_eq t) known

-- a text has this number from now on, and the others have those that they had
abbrev pub HasNumber : List ℕ → ℕ → Known → Known → Type 0
HasNumber t number old new = (other : List ℕ) → number_in new other ≡ (if bytes_eq t other then Some number else number_in old other)

-- an entry without a text changes nothing, and one with a text has the number of that text: a fresh one, if it had none
abbrev pub IsNumbered : Option (List ℕ) → ℕ → ℕ → Known → Known → Type 0
IsNumbered None fresh number old new = (other : List ℕ) → number_in new other ≡ number_in old other
IsNumbered (Some t) fresh number old new = (number ≡ unwrap_or (number_in old t) fresh) × HasNumber t number old new

-- the number at entry i; the first entry is number 1
abbrev pub number_at : List ℕ → ℕ → ℕ
number_at numbers i = slice_index_or numbers (i - 1) 0

-- two entries have the same number exactly where they have the same text
abbrev pub IsNumbering : List Entry → List ℕ → Type 0
IsNumbering pool numbers =
    (i j : ℕ) (a b : List ℕ) → text pool i ≡ Some a → text pool j ≡ Some b → (number_at numbers i == number_at numbers j) ≡ bytes_eq a b

-- whether a field or method, and the numbers of its name and its descriptor
abbrev pub Numbered : Type 0
Numbered = Bool × ℕ × ℕ

abbrev pub is_same_number : Numbered → Numbered → Bool
is_same_number one other = (beq one.0 other.0 && (one.1 == other.1)) && (one.2 == other.2)

abbrev pub numbered_with : Bool → ℕ → ℕ → Option (List ℕ) → Option (List ℕ) → Option Numbered
numbered_with is_method name descriptor (Some a) (Some b) = Some (is_method, name, descriptor)
numbered_with is_method name descriptor _ _ = None

-- a member whose name and descriptor are texts
abbrev pub numbered : List Entry → List ℕ → Use → Option Numbered
numbered pool numbers (uses.Index at index names) = None
numbered pool numbers (uses.Member at is_method name descriptor) =
    numbered_with is_method (number_at numbers name) (number_at numbers descriptor) (text pool name) (text pool descriptor)

abbrev pub is_numbered : Numbered → Option Numbered → Bool
is_numbered one None = false
is_numbered one (Some other) = is_same_number other one

-- whether a member, if there is one, is among these
abbrev pub is_among : List Numbered → Option Numbered → Bool
is_among seen None = false
is_among seen (Some one) = list_any (is_same_number one) seen
