-- The lines of devices, domains, counters, events, resources, cells and objects. Each takes the words behind the first.
use Rattle.std.specs.Prelude.{ℕ, ◌%◌, ◌^◌, ◌==◌, ◌-◌, nat_lt, Bool, ◌&&◌, not, is_none, List, [], ◌∷◌, length, codes, Option, Some, None, Result, Ok, bytes_eq, if◌then◌else◌}
use Rattle.kes_text.specs.declared.refusal.Stop.{Stop}
use Rattle.kes_text.specs.declared.refusal.Kind.TheVariants as kind
use Rattle.kconfig.specs.declared.config.KesoLine.{KesoLine}
use Rattle.kconfig.specs.declared.config.DevicesLine.{DevicesLine}
use Rattle.kconfig.specs.declared.config.DomainLine.{DomainLine}
use Rattle.kconfig.specs.declared.config.CounterLine.{CounterLine}
use Rattle.kconfig.specs.declared.config.NameLine.{NameLine}
use Rattle.kconfig.specs.declared.config.CellLine.{CellLine}
use Rattle.kconfig.specs.declared.config.ObjectLine.{ObjectLine}
use Rattle.text_words.specs.Said.{◌>>=◌, refused, check, known}
use Rattle.text_words.specs.declared.number.Number.{Number}
use Rattle.text_words.specs.Numbers.{number_of, is_number, are_both_numbers, within, value}
use Rattle.text_words.specs.Words.{is_either}
use Rattle.kconfig.specs.Words.{is_name, is_shown_name, is_field}
use Rattle.kconfig.specs.Config.{Before}
use Rattle.kconfig.specs.Names.{named, domain_named, counter_named, object_named, has_cell}

abbrev pub keso_form : List ℕ → List ℕ → List ℕ → List ℕ → Bool
keso_form keso version order which =
    ((bytes_eq keso (codes "keso") && bytes_eq version (codes "1")) && bytes_eq order (codes "order"))
    && is_either (codes "little") (codes "big") which

-- keso 1 order little|big: all words of the first line
abbrev pub keso_line : ℕ → List (List ℕ) → Result KesoLine Stop
keso_line n (keso ∷ version ∷ order ∷ which ∷ []) = do
  _ ← check (keso_form keso version order which) kind.Syntax n
  Ok (record { line = n; big = bytes_eq which (codes "big") })
keso_line n _ = refused kind.Syntax n

-- a multiple of 8 from 0 to the greatest
abbrev pub is_multiple_within : ℕ → Number → Bool
is_multiple_within greatest number = within 0 greatest number && value number % 8 == 0

unfoldable pub devices_said : Before → ℕ → Number → Number → Result DevicesLine Stop
devices_said before n base size = do
  _ ← check (are_both_numbers base size) kind.Syntax n
  _ ← check (is_multiple_within (2 ^ 32 - 1) base) kind.Range n
  _ ← check (is_multiple_within 65536 size) kind.Range n
  _ ← check (before.config.devices.line == 0) kind.Room n
  Ok (record { line = n; base = value base; size = value size })

abbrev pub are_devices_words : List ℕ → List ℕ → Bool
are_devices_words base_word size_word = bytes_eq base_word (codes "base") && bytes_eq size_word (codes "size")

-- devices base N size N
abbrev pub devices_line : Before → ℕ → List (List ℕ) → Result DevicesLine Stop
devices_line before n (base_word ∷ base ∷ size_word ∷ size ∷ []) = do
  _ ← check (are_devices_words base_word size_word) kind.Syntax n
  devices_said before n (number_of base) (number_of size)
devices_line before n _ = refused kind.Syntax n

unfoldable pub domain_said : Before → ℕ → List ℕ → Number → Result DomainLine Stop
domain_said before n name heap = do
  _ ← check (is_name name) kind.Syntax n
  _ ← check (is_number heap) kind.Syntax n
  _ ← check (is_multiple_within 8388608 heap) kind.Range n
  _ ← check (nat_lt (length before.config.domains) 16) kind.Room n
  _ ← check (is_none (domain_named before.config name)) kind.Twice n
  Ok (record { line = n; name = name; heap = value heap })

-- domain D heap N
abbrev pub domain_line : Before → ℕ → List (List ℕ) → Result DomainLine Stop
domain_line before n (name ∷ heap_word ∷ heap ∷ []) = do
  _ ← check (bytes_eq heap_word (codes "heap")) kind.Syntax n
  domain_said before n name (number_of heap)
domain_line before n _ = refused kind.Syntax n

abbrev pub are_numbers : Number → Number → Number → Bool
are_numbers max base min = (is_number max && is_number base) && is_number min

abbrev pub counter_fits : Number → Number → Number → Bool
counter_fits max base min = (within 1 2147483647 max && within 1 65535 base) && within 1 (value max) min

unfoldable pub counter_said : Before → ℕ → List ℕ → Number → Number → Number → Result CounterLine Stop
counter_said before n name max base min = do
  _ ← check (is_name name) kind.Syntax n
  _ ← check (are_numbers max base min) kind.Syntax n
  _ ← check (counter_fits max base min) kind.Range n
  _ ← check (nat_lt (length before.config.counters) 8) kind.Room n
  _ ← check (is_none (counter_named before.config name)) kind.Twice n
  Ok (record { line = n; name = name; max = value max; base = value base; min = value min })

abbrev pub are_counter_words : List ℕ → List ℕ → List ℕ → Bool
are_counter_words max_word base_word min_word =
    (bytes_eq max_word (codes "max") && bytes_eq base_word (codes "base")) && bytes_eq min_word (codes "min")

-- counter C max N base N min N
abbrev pub counter_line : Before → ℕ → List (List ℕ) → Result CounterLine Stop
counter_line before n (name ∷ max_word ∷ max ∷ base_word ∷ base ∷ min_word ∷ min ∷ []) = do
  _ ← check (are_counter_words max_word base_word min_word) kind.Syntax n
  counter_said before n name (number_of max) (number_of base) (number_of min)
counter_line before n _ = refused kind.Syntax n

unfoldable pub name_said : List NameLine → ℕ → ℕ → List ℕ → Result NameLine Stop
name_said lines most n name = do
  _ ← check (is_name name) kind.Syntax n
  _ ← check (nat_lt (length lines) most) kind.Room n
  _ ← check (is_none (named lines name)) kind.Twice n
  Ok (record { line = n; name = name })

-- event E or resource R, where so many may stand
abbrev pub name_line : List NameLine → ℕ → ℕ → List (List ℕ) → Result NameLine Stop
name_line lines most n (name ∷ []) = name_said lines most n name
name_line lines most n _ = refused kind.Syntax n

-- 1, 2, 4 or 8
abbrev pub width_of : List ℕ → Option ℕ
width_of word =
    if bytes_eq word (codes "1") then Some 1
    else if bytes_eq word (codes "2") then Some 2
    else if bytes_eq word (codes "4") then Some 4
    else if bytes_eq word (codes "8") then Some 8
    else None

-- a multiple of the width up to 65,535
abbrev pub is_cell_place : ℕ → Number → Bool
is_cell_place width at = within 0 65535 at && value at % width == 0

unfoldable pub cell_said : Before → ℕ → List ℕ → Number → Option ℕ → Result CellLine Stop
cell_said before n field at width = do
  _ ← check (is_field field) kind.Syntax n
  _ ← check (is_number at) kind.Syntax n
  bytes ← known width kind.Syntax n
  _ ← check (is_cell_place bytes at) kind.Range n
  _ ← check (not (has_cell before.config field)) kind.Twice n
  Ok (record { line = n; field = field; at = value at; width = bytes })

abbrev pub are_cell_words : List ℕ → List ℕ → Bool
are_cell_words at_word width_word = bytes_eq at_word (codes "at") && bytes_eq width_word (codes "width")

-- cell CLASS.FIELD at N width 1|2|4|8
abbrev pub cell_line : Before → ℕ → List (List ℕ) → Result CellLine Stop
cell_line before n (field ∷ at_word ∷ at ∷ width_word ∷ width ∷ []) = do
  _ ← check (are_cell_words at_word width_word) kind.Syntax n
  cell_said before n field (number_of at) (width_of width)
cell_line before n _ = refused kind.Syntax n

unfoldable pub object_said : Before → ℕ → List ℕ → List ℕ → Number → Result ObjectLine Stop
object_said before n name class base = do
  _ ← check (is_name name) kind.Syntax n
  _ ← check (is_shown_name class) kind.Syntax n
  _ ← check (is_number base) kind.Syntax n
  _ ← check (is_multiple_within (2 ^ 64 - 1) base) kind.Range n
  _ ← check (nat_lt (length before.config.objects) 64) kind.Room n
  _ ← check (is_none (object_named before.config name)) kind.Twice n
  Ok (record { line = n; name = name; class = class; base = value base })

abbrev pub are_object_words : List ℕ → List ℕ → Bool
are_object_words class_word base_word = bytes_eq class_word (codes "class") && bytes_eq base_word (codes "base")

-- object O class CLASS base N
abbrev pub object_line : Before → ℕ → List (List ℕ) → Result ObjectLine Stop
object_line before n (name ∷ class_word ∷ class ∷ base_word ∷ base ∷ []) = do
  _ ← check (are_object_words class_word base_word) kind.Syntax n
  object_said before n name class (number_of base)
object_line before n _ = refused kind.Syntax n
