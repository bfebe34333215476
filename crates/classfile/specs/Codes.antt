-- The Code of a method (JVMS SE 8, 4.7.3), with its first StackMapTable (4.7.4).
use Rattle.std.specs.Prelude.{ℕ, List, Option, Some, None, is_none, Result, Ok, codes, nat_le, ◌&&◌, ◌==◌, if◌then◌else◌}
use Rattle.kes_text.specs.declared.refusal.Stop.{Stop}
use Rattle.kes_text.specs.declared.refusal.Kind.TheVariants as kind
use Rattle.classfile.specs.declared.uses.Use.TheVariants as uses
use Rattle.classfile.specs.declared.uses.Wanted.TheVariants as wanted
use Rattle.classfile.specs.declared.pool.Entry.{Entry}
use Rattle.classfile.specs.ClassFile.{CodeInfo}
use Rattle.classfile.specs.Scan.{Scan, Read, ◌>>=◌, refused, bytes_at, number_at, noted, index_at, repeat}
use Rattle.classfile.specs.Attributes.{is_text, skipped_at, closed}

-- from 1 to 65535 bytes of code, and where the first stands
abbrev pub code_bytes_at : Scan → Read (ℕ × List ℕ)
code_bytes_at s = do
  length ← number_at 4 s
  if nat_le 1 length.0 && nat_le length.0 65535
      then (bytes_at length.0 length.1 >>= λ bytes. Ok ((length.1.place, bytes.0), bytes.1))
      else refused kind.CodeLength s.place

-- a handler: three places in the code, and the class that it catches, or 0 for all
abbrev pub handler_at : Scan → Result Scan Stop
handler_at s = do
  places ← bytes_at 6 s
  caught ← number_at 2 places.1
  Ok (if caught.0 == 0 then caught.1 else noted (uses.Index places.1.place caught.0 wanted.Class) caught.1)

-- the exception table: how many handlers it has
abbrev pub handlers_at : Scan → Read ℕ
handlers_at s = do
  count ← number_at 2 s
  behind ← repeat count.0 handler_at count.1
  Ok (count.0, behind)

-- behind its name, a StackMapTable: where it begins behind its length, and its bytes
abbrev pub maps_at : Scan → Read (Option (ℕ × List ℕ))
maps_at s = do
  length ← number_at 4 s
  bytes ← bytes_at length.0 length.1
  Ok (Some (length.1.place, bytes.0), bytes.1)

-- an attribute of a Code, where its first StackMapTable is known, if there was one
abbrev pub code_attribute_at : List Entry → Option (ℕ × List ℕ) × Scan → Read (Option (ℕ × List ℕ))
code_attribute_at pool x = do
  name ← index_at wanted.Text x.1
  if is_none x.0 && is_text pool name.0 (codes "StackMapTable")
      then maps_at name.1
      else (skipped_at name.1 >>= λ behind. Ok (x.0, behind))

abbrev pub code_attributes_at : List Entry → Scan → Read (Option (ℕ × List ℕ))
code_attributes_at pool s = do
  count ← number_at 2 s
  repeat count.0 (code_attribute_at pool) (None, count.1)

-- what stands in a Code behind its length
unfoldable pub code_at : List Entry → Scan → Read CodeInfo
code_at pool s = do
  max_stack ← number_at 2 s
  max_locals ← number_at 2 max_stack.1
  code ← code_bytes_at max_locals.1
  handlers ← handlers_at code.1
  maps ← code_attributes_at pool handlers.1
  Ok (record { at = code.0.0; max_stack = max_stack.0; max_locals = max_locals.0; bytes = code.0.1; handlers = handlers.0; handlers_at = code.1.place; maps = maps.0 }, maps.1)

-- behind its name, a Code
abbrev pub code_attribute : List Entry → Scan → Read (Option CodeInfo)
code_attribute pool s = do
  length ← number_at 4 s
  code ← code_at pool length.1
  behind ← closed s.place length.1.place length.0 code.1
  Ok (Some code.0, behind)
