-- The method that is checked, and what its instructions name (JVMS SE 8, 4.10.1.1).
use Rattle.std.specs.Prelude.{ℕ, Bool, true, List, [], ◌∷◌, Option, Some, None, is_some, slice_get, bytes_eq, codes, ◌==◌, if◌then◌else◌}
use Rattle.classfile.specs.ClassFile.{ClassInfo, MethodInfo, CodeInfo}
use Rattle.classfile.specs.Pool.{◌>>=◌}
use Rattle.jcode.specs.declared.op.Op.{Op}
use Rattle.jcode.specs.declared.op.Op.TheVariants.{New}
use Rattle.jcode.specs.declared.op.Ins.{Ins}
use Rattle.jworld.specs.declared.ids.MethodId.{MethodId}
use Rattle.jworld.specs.Classes.{World, file_of}
use Rattle.jworld.specs.Fields.{or_else}
use Rattle.stackmap.specs.declared.vtype.VType.{VType}
use Rattle.stackmap.specs.declared.vtype.VType.TheVariants.{Uninit}

-- the world; the number and the file of the class that declares the method; the method, its Code and its instructions
pub record Environment : Type 0 where
  pub files : World
  pub own : ℕ
  pub class : ClassInfo
  pub method : MethodInfo
  pub code : CodeInfo
  pub instructions : List Ins

abbrev pub environment_of : World → MethodId → List Ins → Option Environment
environment_of files id instructions = do
  class ← file_of files id.class.n
  method ← slice_get class.methods id.n
  code ← method.code
  Some (record { files = files; own = id.class.n; class = class; method = method; code = code; instructions = instructions })

-- whether the method is a constructor (2.9)
abbrev pub is_constructor : Environment → Bool
is_constructor e = bytes_eq e.method.name (codes "<init>")

-- the index of the class that an instruction makes objects of
abbrev pub made_index : Op → Option ℕ
made_index (New index) = Some index
made_index _ = None

-- the index of the class of the first new at a place
abbrev pub made_at : List Ins → ℕ → Option ℕ
made_at [] pc = None
made_at (ins ∷ code) pc = or_else (if ins.pc == pc then made_index ins.op else None) (made_at code pc)

-- what isn't initialised yet is made by a new
abbrev pub is_made : List Ins → VType → Bool
is_made code (Uninit pc) = is_some (made_at code pc)
is_made code _ = true
