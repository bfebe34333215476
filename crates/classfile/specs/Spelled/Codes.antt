-- The bytes of a Code (JVMS SE 8, 4.7.3).
use Rattle.std.specs.Prelude.{◌≡◌, ◌⊎◌, ℕ, ◌≤◌, List, length, Option, codes, option_map}
use Rattle.classfile.specs.declared.uses.Wanted.TheVariants as wanted
use Rattle.classfile.specs.declared.pool.Entry.{Entry}
use Rattle.classfile.specs.ClassFile.{CodeInfo}
use Rattle.classfile.specs.Spelled.Pieces.{Piece, ◌▸◌, any, u2, u4, held, index, table}
use Rattle.classfile.specs.Spelled.Attributes.{Attribute, attribute, named, first_of}

-- a handler: start_pc, end_pc and handler_pc, and catch_type, which is 0 for all
abbrev pub handler : List Entry → ℕ → Piece
handler pool caught = any 6 ▸ (λ at bytes. u2 caught at bytes × (caught ≡ 0 ⊎ index pool wanted.Class caught at bytes))

-- exception_table_length, which stands at this place, and the exception table
abbrev pub handlers_piece : List Entry → ℕ → List ℕ → Piece
handlers_piece pool place handlers = λ at bytes. (at ≡ place) × table (handler pool) handlers at bytes

-- the first StackMapTable (4.7.4): where it begins behind its length, and its bytes
abbrev pub maps_of : Option Attribute → Option (ℕ × List ℕ)
maps_of found = option_map (λ (a : Attribute). (a.at, a.contents)) found

-- what stands in a Code behind its length
pub record IsCode (pool : List Entry) (code : CodeInfo) (at : ℕ) (bytes : List ℕ) : Type 0 where
  pub handlers : List ℕ
  pub attributes : List Attribute
  pub items :
      (u2 code.max_stack ▸ u2 code.max_locals ▸ (u4 (length code.bytes) ▸ held code.at code.bytes)
      ▸ handlers_piece pool code.handlers_at handlers ▸ table (attribute pool) attributes) at bytes
  pub some : 1 ≤ length code.bytes
  pub bounded : length code.bytes ≤ 65535
  pub count : code.handlers ≡ length handlers
  pub maps : code.maps ≡ maps_of (first_of (named pool (codes "StackMapTable") attributes))
