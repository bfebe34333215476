-- A class file as its bytes say it (JVMS SE 8, 4.1), or its first fault.
use Rattle.std.specs.Prelude.{ℕ, List, [], Option, Some, None, Result, Ok, Err, length, nat_le, codes, bytes_eq, ◌&&◌, ◌==◌, if◌then◌else◌}
use Rattle.kes_text.specs.declared.refusal.Refusal.{Refusal}
use Rattle.kes_text.specs.declared.refusal.Stop.{Stop}
use Rattle.kes_text.specs.declared.refusal.Stop.TheVariants.{Refused}
use Rattle.kes_text.specs.declared.refusal.Kind.TheVariants as kind
use Rattle.classfile.specs.declared.uses.Use.TheVariants as uses
use Rattle.classfile.specs.declared.uses.Wanted.TheVariants as wanted
use Rattle.classfile.specs.declared.pool.Entry.{Entry}
use Rattle.classfile.specs.ClassFile.{ClassInfo}
use Rattle.classfile.specs.Pool.{class_name}
use Rattle.classfile.specs.Scan.{Scan, Read, ◌>>=◌, refused, number_at, noted, anew, index_at, many}
use Rattle.classfile.specs.Entries.{pool_at}
use Rattle.classfile.specs.Attributes.{attributes_at}
use Rattle.classfile.specs.Members.{fields_at, methods_at}
use Rattle.classfile.specs.Faults.{or_else, first_fault}

-- magic, minor_version and major_version: the major version
abbrev pub version_at : Scan → Read ℕ
version_at s = do
  magic ← number_at 4 s
  if magic.0 == 0xCAFEBABE then (do
    minor ← number_at 2 magic.1
    major ← number_at 2 minor.1
    if nat_le 50 major.0 && nat_le major.0 52 then Ok major else refused kind.Version minor.1.place)
      else refused kind.Magic s.place

-- the name of a Class entry, and no bytes where there is none
abbrev pub class_name_or : Option (List ℕ) → List ℕ
class_name_or None = []
class_name_or (Some name) = name

abbrev pub class_named : List Entry → ℕ → List ℕ
class_named pool i = class_name_or (class_name pool i)

-- super_class, which is 0 in java/lang/Object alone
abbrev pub super_at : List ℕ → Scan → Read ℕ
super_at name s = do
  index ← number_at 2 s
  if index.0 == 0 && bytes_eq name (codes "java/lang/Object")
      then Ok index
      else Ok (index.0, noted (uses.Index s.place index.0 wanted.Class) index.1)

-- an interface's name
abbrev pub interface_at : List Entry → Scan → Read (List ℕ)
interface_at pool s = do
  index ← index_at wanted.Class s
  Ok (class_named pool index.0, index.1)

abbrev pub interfaces_at : List Entry → Scan → Read (List (List ℕ))
interfaces_at pool s = do
  count ← number_at 2 s
  many count.0 (interface_at pool) count.1

-- nothing stands behind
abbrev pub ended : Scan → Result Scan Stop
ended s = if s.place == length s.input then Ok s else refused kind.Trailing s.place

-- what stands behind the pool
unfoldable pub body_at : ℕ → List Entry → Scan → Read ClassInfo
body_at version pool s = do
  flags ← number_at 2 s
  this ← index_at wanted.Class flags.1
  super ← super_at (class_named pool this.0) this.1
  interfaces ← interfaces_at pool super.1
  fields ← fields_at pool interfaces.1
  methods ← methods_at pool fields.1
  attributes ← attributes_at methods.1
  behind ← ended attributes
  Ok (record { version = version; flags = flags.0; name = class_named pool this.0; super_name = class_named pool super.0; super_at = this.1.place; interfaces = interfaces.0; fields = fields.0; methods = methods.0; pool = pool }, behind)

-- the first pass, the structure: the class, and the scans behind its constant pool and at its end
unfoldable pub structure_at : Scan → Result (ClassInfo × Scan × Scan) Stop
structure_at s = do
  version ← version_at s
  pool ← pool_at version.0 version.1
  class ← body_at version.0 pool.0 (anew pool.1)
  Ok (class.0, pool.1, class.1)

abbrev pub unless : {A : Type 0} → Option Refusal → A → Result A Stop
unless None value = Ok value
unless (Some fault) value = Err (Refused fault)

-- the second pass: what index fields name, and members that repeat; those of the constant pool stand first
abbrev pub class_file : List ℕ → Result ClassInfo Stop
class_file bytes = do
  read ← structure_at (record { input = bytes; place = 0; uses = [] })
  unless (or_else (first_fault read.0.pool [] read.1.uses) (first_fault read.0.pool [] read.2.uses)) read.0
