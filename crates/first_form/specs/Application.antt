-- The application that a configuration and a class of the first form describe, as the bytecode run takes it.
use Rattle.std.specs.Prelude.{false, [], ◌∷◌, Some, None, codes, map}
use Rattle.std.specs.Int.{w32, cast_signed}
use Rattle.osek_core.specs.declared.call.Call.TheVariants.{ActivateTask}
use Rattle.osek_core.specs.declared.tables.Tables.{Tables}
use Rattle.osek_core.specs.Bytecode.World.{World, ClassFile, Method, Member, Descriptor, Located, Instruction, Shape}
use Rattle.osek_core.specs.Bytecode.Application.{Application, Whole}
use Rattle.first_form.specs.declared.config.FirstConfig.{FirstConfig}
use Rattle.first_form.specs.declared.first_class.FirstClass.{FirstClass}
use Rattle.first_form.specs.declared.first_class.Op.{Op}
use Rattle.first_form.specs.declared.first_class.Placed.{Placed}
use Rattle.first_form.specs.declared.first_class.Op.TheVariants as op

-- ()I and ()V
abbrev pub answers_int : Descriptor
answers_int = record { parameters = []; answer = Some (record { shape = Shape.Int; name = [] }) }

abbrev pub answers_nothing : Descriptor
answers_nothing = record { parameters = []; answer = None }

abbrev pub native_member : FirstClass → Member
native_member class = record { class = class.name; name = class.native; descriptor = answers_int }

abbrev pub entry_member : FirstClass → Member
entry_member class = record { class = class.name; name = class.entry; descriptor = answers_nothing }

-- JVMS 6.5
abbrev pub instruction_of : FirstClass → Op → Instruction
instruction_of class (op.Const bits) = Instruction.Const4 (cast_signed w32 bits)
instruction_of class (op.Load slot) = Instruction.LoadI slot
instruction_of class (op.Store slot) = Instruction.StoreI slot
instruction_of class op.Add = Instruction.Add false
instruction_of class op.Sub = Instruction.Sub false
instruction_of class op.Mul = Instruction.Mul false
instruction_of class op.Invoke = Instruction.InvokeStatic (native_member class)
instruction_of class op.Pop = Instruction.Pop
instruction_of class op.Return = Instruction.Return

abbrev pub located : FirstClass → Placed → Located
located class p = record { pc = p.pc; instruction = instruction_of class p.op }

-- ACC_STATIC and ACC_NATIVE, and ACC_STATIC
abbrev pub native_method : FirstClass → Method
native_method class = record { name = class.native; descriptor = answers_int; flags = 0x0108; code = None }

abbrev pub entry_method : FirstClass → Method
entry_method class = record {
  name = class.entry;
  descriptor = answers_nothing;
  flags = 0x0008;
  code = Some (record { max_stack = class.max_stack; max_locals = class.max_locals; instructions = map (located class) class.code });
}

abbrev pub class_file : FirstClass → ClassFile
class_file class = record {
  name = class.name;
  super = Some (codes "java/lang/Object");
  interfaces = [];
  flags = 0;
  fields = [];
  methods = native_method class ∷ entry_method class ∷ [];
}

abbrev pub world_of : FirstClass → World
world_of class = class_file class ∷ []

-- the tables have the one task
unfoldable pub tables_of : FirstConfig → Tables
tables_of config = record {
  events = [];
  resources = [];
  counters = [];
  tasks = record {
    name = record { text = config.task };
    rule = record { priority = config.priority; activations = config.activations; preemptable = config.full; extended = false };
    auto = config.auto;
    resources = [];
    events = [];
  } ∷ [];
  alarms = [];
}

-- one domain, the native bound to ActivateTask of the one task, no device bytes, no initialiser, and the entry as the one
-- reached method
abbrev pub application_of : FirstConfig → FirstClass → Application
application_of config class = record {
  world = world_of class;
  config = record {
    tables = tables_of config;
    heaps = config.heap ∷ [];
    tasks = record { domain = 0; entry = config.entry } ∷ [];
    natives = record { method = config.method; service = Whole (ActivateTask 0) } ∷ [];
    devices = 0;
  };
  initialisers = [];
  methods = entry_member class ∷ [];
}
