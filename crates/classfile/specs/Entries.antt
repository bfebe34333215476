-- Reading the constant pool (JVMS SE 8, 4.4).
use Rattle.std.specs.Prelude.{ℕ, ◌-◌, Result, List, [], ◌∷◌, ◌++◌, Ok, Bool, true, false, nat_le, ◌&&◌, ◌==◌, if◌then◌else◌}
use Rattle.std.specs.Int.{w32, w64, cast_signed}
use Rattle.kes_text.specs.declared.refusal.Stop.{Stop}
use Rattle.kes_text.specs.declared.refusal.Kind.TheVariants as kind
use Rattle.classfile.specs.declared.uses.Wanted.{Wanted}
use Rattle.classfile.specs.declared.uses.Wanted.TheVariants as wanted
use Rattle.classfile.specs.declared.pool.Entry.{Entry}
use Rattle.classfile.specs.declared.pool.Entry.TheVariants as entry
use Rattle.classfile.specs.Scan.{Scan, Read, ◌>>=◌, refused, bytes_at, number_at, index_at, repeat}

-- a length and so many bytes (4.4.7)
abbrev pub utf8_at : Scan → Read Entry
utf8_at s = do
  length ← number_at 2 s
  text ← bytes_at length.0 length.1
  Ok (entry.Utf8 text.0, text.1)

-- 4.4.4
abbrev pub integer_at : Scan → Read Entry
integer_at s = do
  number ← number_at 4 s
  Ok (entry.Integer (cast_signed w32 number.0), number.1)

-- 4.4.5
abbrev pub long_at : Scan → Read Entry
long_at s = do
  number ← number_at 8 s
  Ok (entry.Long (cast_signed w64 number.0), number.1)

-- an entry that is so many bytes, which say nothing here
abbrev pub opaque_at : Entry → ℕ → Scan → Read Entry
opaque_at kept n s = do
  bytes ← bytes_at n s
  Ok (kept, bytes.1)

-- 4.4.1
abbrev pub class_at : Scan → Read Entry
class_at s = do
  name ← index_at wanted.ClassText s
  Ok (entry.Class name.0, name.1)

-- an entry that is one index
abbrev pub one_index_at : Entry → Wanted → Scan → Read Entry
one_index_at kept names s = do
  index ← index_at names s
  Ok (kept, index.1)

-- a class and a NameAndType (4.4.2)
abbrev pub reference_at : (ℕ → ℕ → Entry) → Wanted → Scan → Read Entry
reference_at kept names s = do
  class ← index_at wanted.Class s
  named ← index_at names class.1
  Ok (kept class.0 named.0, named.1)

-- 4.4.6
abbrev pub name_and_type_at : Scan → Read Entry
name_and_type_at s = do
  name ← index_at wanted.Text s
  descriptor ← index_at wanted.AnyText name.1
  Ok (entry.NameAndType name.0 descriptor.0, descriptor.1)

-- what a method handle refers to, by its kind; from version 52 on kinds 6 and 7 may name an interface's method (4.4.8)
abbrev pub referred : ℕ → ℕ → Wanted
referred version kind =
    if nat_le 1 kind && nat_le kind 4 then wanted.Fieldref
    else if (kind == 5) then wanted.Methodref
    else if (kind == 6) then (if nat_le 52 version then wanted.AnyMethodref else wanted.Methodref)
    else if (kind == 7) then (if nat_le 52 version then wanted.AnyMethodref else wanted.Methodref)
    else if (kind == 8) then wanted.Methodref
    else if (kind == 9) then wanted.InterfaceMethodref
    else wanted.Nothing

abbrev pub method_handle_at : ℕ → Scan → Read Entry
method_handle_at version s = do
  kind ← number_at 1 s
  one_index_at entry.MethodHandle (referred version kind.0) kind.1

-- a place among the bootstrap methods, and a NameAndType (4.4.10)
abbrev pub invoke_dynamic_at : Scan → Read Entry
invoke_dynamic_at s = do
  bootstrap ← number_at 2 s
  one_index_at entry.InvokeDynamic wanted.MethodType bootstrap.1

-- what stands behind the tag at a place, by the tag (table 4.4-A)
abbrev pub body_at : ℕ → ℕ → ℕ → Scan → Read Entry
body_at version at tag s =
    if tag == 1 then utf8_at s
    else if tag == 3 then integer_at s
    else if tag == 4 then opaque_at entry.Float 4 s
    else if tag == 5 then long_at s
    else if tag == 6 then opaque_at entry.Double 8 s
    else if tag == 7 then class_at s
    else if tag == 8 then one_index_at entry.String wanted.Text s
    else if tag == 9 then reference_at entry.Fieldref wanted.FieldType s
    else if tag == 10 then reference_at entry.Methodref wanted.MethodType s
    else if tag == 11 then reference_at entry.InterfaceMethodref wanted.MethodType s
    else if tag == 12 then name_and_type_at s
    else if tag == 15 then method_handle_at version s
    else if tag == 16 then one_index_at entry.MethodType wanted.MethodText s
    else if tag == 18 then invoke_dynamic_at s
    else refused kind.PoolTag at

unfoldable pub entry_at : ℕ → Scan → Read Entry
entry_at version s = do
  tag ← number_at 1 s
  body_at version s.place tag.0 tag.1

-- a Long or a Double takes two places (4.4.5)
abbrev pub is_wide : Entry → Bool
is_wide (entry.Long value) = true
is_wide entry.Double = true
is_wide _ = false

-- the next place of the pool: behind a wide entry, or an entry; and whether it is a wide one
abbrev pub place_at : ℕ → Bool → Scan → Result (Entry × Bool × Scan) Stop
place_at version wide s =
    if wide then Ok (entry.Behind, false, s)
    else (entry_at version s >>= λ found. Ok (found.0, is_wide found.0, found.1))

-- one place more; the state says whether the last entry was wide
abbrev pub next_place : ℕ → List Entry × Bool × Scan → Result (List Entry × Bool × Scan) Stop
next_place version x = do
  found ← place_at version x.1 x.2
  Ok (x.0 ++ found.0 ∷ [], found.1, found.2)

-- constant_pool_count is one more than the places are (4.1)
abbrev pub places_at : ℕ → Scan → Result (List Entry × Bool × Scan) Stop
places_at version s = do
  count ← number_at 2 s
  repeat (count.0 - 1) (next_place version) ([], false, count.1)

abbrev pub pool_at : ℕ → Scan → Read (List Entry)
pool_at version s = do
  found ← places_at version s
  Ok (found.0, found.2)
