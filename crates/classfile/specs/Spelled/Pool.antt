-- The bytes of a constant pool (JVMS SE 8, 4.4).
use Rattle.std.specs.Prelude.{◌≡◌, ℕ, ◌-◌, ℤ, List, [], ◌∷◌, length, Bool, true, false, ⊤}
use Rattle.std.specs.Int.{w32, w64, cast_signed}
use Rattle.classfile.specs.declared.uses.Wanted.{Wanted}
use Rattle.classfile.specs.declared.uses.Wanted.TheVariants as wanted
use Rattle.classfile.specs.declared.pool.Entry.{Entry}
use Rattle.classfile.specs.declared.pool.Entry.TheVariants as entry
use Rattle.classfile.specs.Entries.{referred, is_wide}
use Rattle.classfile.specs.Spelled.Pieces.{Piece, ◌▸◌, nothing, any, u1, u2, u4, u8, index, each}

-- a number that is the value's two's complement
abbrev pub int : ℤ → Piece
int v = λ at bytes. (k : ℕ) × u4 k at bytes × (cast_signed w32 k ≡ v)

abbrev pub long : ℤ → Piece
long v = λ at bytes. (k : ℕ) × u8 k at bytes × (cast_signed w64 k ≡ v)

-- an index that the entry doesn't tell
abbrev pub some_index : List Entry → Wanted → Piece
some_index pool names = λ at bytes. (i : ℕ) × index pool names i at bytes

-- reference_kind and reference_index (4.4.8)
abbrev pub handle : ℕ → List Entry → Piece
handle version pool = λ at bytes. (kind : ℕ) × (u1 kind ▸ some_index pool (referred version kind)) at bytes

-- an entry: its tag, and what the tag wants. The second place of a Long or a Double has no bytes.
abbrev pub entry_piece : ℕ → List Entry → Entry → Piece
entry_piece version pool (entry.Utf8 t) = u1 1 ▸ u2 (length t) ▸ (λ at bytes. bytes ≡ t)
entry_piece version pool (entry.Integer v) = u1 3 ▸ int v
entry_piece version pool entry.Float = u1 4 ▸ any 4
entry_piece version pool (entry.Long v) = u1 5 ▸ long v
entry_piece version pool entry.Double = u1 6 ▸ any 8
entry_piece version pool entry.Behind = nothing
entry_piece version pool (entry.Class name) = u1 7 ▸ index pool wanted.ClassText name
entry_piece version pool entry.String = u1 8 ▸ some_index pool wanted.Text
entry_piece version pool (entry.Fieldref class named) = u1 9 ▸ index pool wanted.Class class ▸ index pool wanted.FieldType named
entry_piece version pool (entry.Methodref class named) = u1 10 ▸ index pool wanted.Class class ▸ index pool wanted.MethodType named
entry_piece version pool (entry.InterfaceMethodref class named) = u1 11 ▸ index pool wanted.Class class ▸ index pool wanted.MethodType named
entry_piece version pool (entry.NameAndType name descriptor) = u1 12 ▸ index pool wanted.Text name ▸ index pool wanted.AnyText descriptor
entry_piece version pool entry.MethodHandle = u1 15 ▸ handle version pool
entry_piece version pool entry.MethodType = u1 16 ▸ some_index pool wanted.MethodText
entry_piece version pool entry.InvokeDynamic = u1 18 ▸ any 2 ▸ some_index pool wanted.MethodType

abbrev pub is_behind : Entry → Bool
is_behind entry.Behind = true
is_behind _ = false

-- a second place stands behind a Long or a Double, unless the pool ends there, and nowhere else (4.4.5); the flag says
-- whether the entry before was one
abbrev pub ArePlaced : Bool → List Entry → Type 0
ArePlaced wide [] = ⊤
ArePlaced wide (one ∷ others) = (is_behind one ≡ wide) × ArePlaced (is_wide one) others

-- constant_pool_count, which is one more than the places are, or 0 where there are none (4.1), and these entries, whose
-- indices name entries of a pool
abbrev pub pool_piece : ℕ → List Entry → List Entry → Piece
pool_piece version pool entries =
    λ at bytes. (count : ℕ) × (count - 1 ≡ length entries) × ArePlaced false entries × (u2 count ▸ each (entry_piece version pool) entries) at bytes
