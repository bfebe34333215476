-- A small class file, the checking of its methods, and states.
use Rattle.std.specs.Prelude.{ℕ, List, [], ◌∷◌, codes, Some, None}
use Rattle.classfile.specs.ClassFile.{ClassInfo, CodeInfo}
use Rattle.classfile.specs.declared.pool.Entry.{Entry}
use Rattle.classfile.specs.declared.pool.Entry.TheVariants as entry
use Rattle.jcode.specs.declared.op.Ins.{Ins}
use Rattle.jcode.specs.declared.op.Op.TheVariants as op
use Rattle.stackmap.specs.declared.vtype.VType.{VType}
use Rattle.stackmap.specs.declared.vtype.VType.TheVariants.{Object}
use Rattle.type_states.specs.declared.state.TypeState.{TypeState}
use Rattle.typing_rules.specs.Environment.{Environment}

-- entry 2 is the class A; 6 is a method of it that takes an A; 10 is its constructor, and 13 that of Object
abbrev pub pool : List Entry
pool =
    entry.Utf8 (codes "A") ∷ entry.Class 1 ∷ entry.Utf8 (codes "take") ∷ entry.Utf8 (codes "(LA;)V") ∷ entry.NameAndType 3 4 ∷ entry.Methodref 2 5 ∷ entry.Utf8 (codes "<init>")
    ∷ entry.Utf8 (codes "()V") ∷ entry.NameAndType 7 8 ∷ entry.Methodref 2 9 ∷ entry.Utf8 (codes "java/lang/Object") ∷ entry.Class 11 ∷ entry.Methodref 12 9 ∷ []

abbrev pub file : ClassInfo
file =
    record { version = 52; flags = 0x0021; name = codes "A"; super_name = codes "java/lang/Object"; super_at = 150; interfaces = []; fields = []; methods = []; pool = pool }

abbrev pub code : CodeInfo
code = record { at = 200; max_stack = 4; max_locals = 4; bytes = []; handlers = 0; handlers_at = 210; maps = None }

-- a method of A of this name, which takes and answers nothing, and begins with a new of A
abbrev pub method_of : List ℕ → Environment
method_of name = record {
  files = file ∷ [];
  own = 4;
  class = file;
  method = record { at = 180; flags = 0x0001; name = name; descriptor = codes "()V"; code = Some code };
  code = code;
  instructions = record { pc = 0; op = op.New 2 } ∷ [];
}

abbrev pub run : Environment
run = method_of (codes "run")

abbrev pub constructor : Environment
constructor = method_of (codes "<init>")

abbrev pub state : List VType → List VType → TypeState
state slots operands = record { slots = slots; operands = operands }

abbrev pub an_a : VType
an_a = Object (codes "A")
