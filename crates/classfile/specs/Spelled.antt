-- What bytes spell a class file (JVMS SE 8, 4.1 to 4.7): a relation, which says what stands behind what and knows no
-- reading.
pub mod Pieces
pub mod Pool
pub mod Attributes
pub mod Codes
pub mod Members
use Rattle.std.specs.Prelude.{◌≡◌, ◌⊎◌, ℕ, ◌≤◌, List, codes}
use Rattle.std.specs.List.{IsDistinct}
use Rattle.classfile.specs.declared.uses.Wanted.TheVariants as wanted
use Rattle.classfile.specs.declared.pool.Entry.{Entry}
use Rattle.classfile.specs.ClassFile.{ClassInfo}
use Rattle.classfile.specs.Reading.{class_named}
use Rattle.classfile.specs.Spelled.Pieces.{Piece, ◌▸◌, any, u2, u4, index, table}
use Rattle.classfile.specs.Spelled.Pool.{pool_piece}
use Rattle.classfile.specs.Spelled.Attributes.{Attribute, attribute}
use Rattle.classfile.specs.Spelled.Members.{IsField, IsMethod, is_same_field, is_same_method}

-- magic, minor_version and major_version
abbrev pub version_piece : ℕ → Piece
version_piece version = u4 0xCAFEBABE ▸ any 2 ▸ u2 version

-- super_class, at this place: an index, or 0 in java/lang/Object
abbrev pub super_piece : List Entry → List ℕ → ℕ → ℕ → Piece
super_piece pool name place i = λ at bytes. (place ≡ at) × u2 i at bytes × ((i ≡ 0) × (name ≡ codes "java/lang/Object") ⊎ index pool wanted.Class i at bytes)

abbrev pub interface_piece : List Entry → List ℕ → Piece
interface_piece pool name = λ at bytes. (i : ℕ) × index pool wanted.Class i at bytes × (name ≡ class_named pool i)

-- access_flags and what stands behind them
abbrev pub body_piece : ClassInfo → ℕ → ℕ → List Attribute → Piece
body_piece class this super attributes =
    u2 class.flags ▸ index class.pool wanted.Class this ▸ super_piece class.pool class.name class.super_at super ▸ table (interface_piece class.pool) class.interfaces
    ▸ table (IsField class.pool) class.fields ▸ table (IsMethod class.pool) class.methods ▸ table (attribute class.pool) attributes

-- the bytes are this class file
pub record IsSpelled (class : ClassInfo) (bytes : List ℕ) : Type 0 where
  pub this : ℕ
  pub super : ℕ
  pub attributes : List Attribute
  pub items : (version_piece class.version ▸ pool_piece class.version class.pool class.pool ▸ body_piece class this super attributes) 0 bytes
  pub first : 50 ≤ class.version
  pub last : class.version ≤ 52
  pub called : class.name ≡ class_named class.pool this
  pub above : class.super_name ≡ class_named class.pool super
  -- no two fields, and no two methods, have one name and one descriptor
  pub fields : IsDistinct is_same_field class.fields
  pub methods : IsDistinct is_same_method class.methods
