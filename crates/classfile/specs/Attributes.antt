-- Attributes that are skipped, and those of fields (JVMS SE 8, 4.7, 4.7.2).
use Rattle.std.specs.Prelude.{ℕ, ◌+◌, List, Option, Some, None, Bool, false, is_none, Result, Ok, codes, bytes_eq, ◌&&◌, ◌==◌, if◌then◌else◌}
use Rattle.kes_text.specs.declared.refusal.Stop.{Stop}
use Rattle.kes_text.specs.declared.refusal.Kind.TheVariants as kind
use Rattle.classfile.specs.declared.uses.Wanted.TheVariants as wanted
use Rattle.classfile.specs.declared.pool.Entry.{Entry}
use Rattle.classfile.specs.Pool.{text}
use Rattle.classfile.specs.Scan.{Scan, Read, ◌>>=◌, refused, bytes_at, number_at, index_at, repeat}

-- whether entry i is a Utf8 with this text
abbrev pub has_text : List ℕ → Option (List ℕ) → Bool
has_text expected None = false
has_text expected (Some found) = bytes_eq found expected

abbrev pub is_text : List Entry → ℕ → List ℕ → Bool
is_text pool i expected = has_text expected (text pool i)

-- behind an attribute's name, its length and so many bytes
abbrev pub skipped_at : Scan → Result Scan Stop
skipped_at s = do
  length ← number_at 4 s
  bytes ← bytes_at length.0 length.1
  Ok bytes.1

-- an attribute ends here whose length stands at a place, and whose contents begin at start
abbrev pub closed : ℕ → ℕ → ℕ → Scan → Result Scan Stop
closed at start length s = if s.place == start + length then Ok s else refused kind.AttrLength at

-- an attribute that is skipped
abbrev pub attribute_at : Scan → Result Scan Stop
attribute_at s = do
  name ← index_at wanted.Text s
  skipped_at name.1

abbrev pub attributes_at : Scan → Result Scan Stop
attributes_at s = do
  count ← number_at 2 s
  repeat count.0 attribute_at count.1

-- behind its name, a ConstantValue: the index of its constant (4.7.2)
abbrev pub constant_value_at : Scan → Read (Option ℕ)
constant_value_at s = do
  length ← number_at 4 s
  value ← index_at wanted.Constant length.1
  behind ← closed s.place length.1.place length.0 value.1
  Ok (Some value.0, behind)

-- an attribute of a field, where the index that the first ConstantValue gave is known, if there was one
abbrev pub field_attribute_at : List Entry → Option ℕ × Scan → Read (Option ℕ)
field_attribute_at pool x = do
  name ← index_at wanted.Text x.1
  if is_none x.0 && is_text pool name.0 (codes "ConstantValue")
      then constant_value_at name.1
      else (skipped_at name.1 >>= λ behind. Ok (x.0, behind))

-- the attributes of a field: the index of the first ConstantValue
abbrev pub field_attributes_at : List Entry → Scan → Read (Option ℕ)
field_attributes_at pool s = do
  count ← number_at 2 s
  repeat count.0 (field_attribute_at pool) (None, count.1)
