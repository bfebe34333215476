-- A constant pool whose indices name what they are to name (JVMS SE 8, 4.4), so that an entry of a kind has all of its
-- parts.
use Rattle.std.specs.Prelude.{◌≡◌, ℕ, List, Bool, is_some}
use Rattle.classfile.specs.declared.pool.Entry.{Entry}
use Rattle.classfile.specs.Pool.{◌>>=◌, entry_of, class_index, class_name, indices_at, member}

-- whether entry i is a Class
abbrev pub is_class : List Entry → ℕ → Bool
is_class pool i = is_some (entry_of pool i >>= class_index)

-- whether entry i is a Fieldref, a Methodref or an InterfaceMethodref
abbrev pub is_member : List Entry → ℕ → Bool
is_member pool i = is_some (indices_at pool i)

-- each Class has its name, and each member its class, its name and its descriptor
pub record IsSound (pool : List Entry) : Type 0 where
  pub classes : (i : ℕ) → is_some (class_name pool i) ≡ is_class pool i
  pub members : (i : ℕ) → is_some (member pool i) ≡ is_member pool i
