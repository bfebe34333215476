-- Worked examples of configurations bound to a small world, computed by the checker.
use Rattle.std.specs.Prelude.{◌≡◌, ℕ, List, [], ◌∷◌, codes, Some, None, Result, Ok, Err, true, false}
use Rattle.kes_text.specs.declared.refusal.Kind.{Kind}
use Rattle.kes_text.specs.declared.refusal.Kind.TheVariants as kind
use Rattle.kes_text.specs.declared.refusal.Stop.{Stop}
use Rattle.kes_text.specs.declared.refusal.Stop.TheVariants.{Refused}
use Rattle.classfile.specs.ClassFile.{ClassInfo, MethodInfo, FieldInfo}
use Rattle.jworld.specs.Classes.{World}
use Rattle.jworld.specs.Members.{field_id, method_id}
use Rattle.kconfig.specs.declared.config.Config.{Config}
use Rattle.kconfig.specs.declared.config.PortalLine.{PortalLine}
use Rattle.kconfig.specs.declared.config.Service.TheVariants.{TerminateTask}
use Rattle.kconfig.specs.Config.{first_config}
use Rattle.kbind.specs.declared.bound.Bound.{Bound}
use Rattle.kbind.specs.Bound.{bound_of}

-- ---- the world: the classes Blink, Log and Port are 4, 5 and 6

abbrev pub with_code : ℕ → List ℕ → List ℕ → MethodInfo
with_code flags name descriptor = record {
  at = 90;
  flags = flags;
  name = name;
  descriptor = descriptor;
  code = Some (record { at = 120; max_stack = 1; max_locals = 1; bytes = []; handlers = 0; handlers_at = 140; maps = None });
}

abbrev pub without_code : ℕ → List ℕ → List ℕ → MethodInfo
without_code flags name descriptor = record { at = 90; flags = flags; name = name; descriptor = descriptor; code = None }

abbrev pub class_file : List ℕ → List FieldInfo → List MethodInfo → ClassInfo
class_file name fields methods = record {
  version = 52;
  flags = 0x0020;
  name = name;
  super_name = codes "java/lang/Object";
  super_at = 20;
  interfaces = [];
  fields = fields;
  methods = methods;
  pool = [];
}

-- static void run() with code; static native int again(), log(int[]) and wide(long[]); and native int mine(), which isn't static
abbrev pub blink : ClassInfo
blink = class_file (codes "Blink") []
    (with_code 0x0008 (codes "run") (codes "()V") ∷ without_code 0x0108 (codes "again") (codes "()I") ∷ without_code 0x0108 (codes "log") (codes "([I)I")
    ∷ without_code 0x0108 (codes "wide") (codes "([J)I") ∷ without_code 0x0100 (codes "mine") (codes "()I") ∷ [])

-- static int put(int[]) with code
abbrev pub log : ClassInfo
log = class_file (codes "Log") [] (with_code 0x0008 (codes "put") (codes "([I)I") ∷ [])

-- an int out, and a static int seen
abbrev pub port : ClassInfo
port = class_file (codes "Port")
    (record { at = 60; flags = 0; name = codes "out"; descriptor = codes "I"; constant = None } ∷ record { at = 68; flags = 0x0008; name = codes "seen"; descriptor = codes "I"; constant = None } ∷ []) []

abbrev pub blinker : World
blinker = blink ∷ log ∷ port ∷ []

-- ---- configurations

abbrev pub empty : Config
empty = first_config (record { line = 1; big = false })

abbrev pub with_entry : List ℕ → Config → Config
with_entry entry c = record c { tasks = record { line = 2; name = codes "t"; domain = 0; prio = 1; acts = 1; auto = true; full = true; entry = entry } ∷ [] }

abbrev pub with_native : List ℕ → Config → Config
with_native method c = record c { natives = record { line = 3; method = method; service = TerminateTask } ∷ [] }

-- a cell of four bytes for Port.out, and an object of Port at a base among sixteen device bytes
abbrev pub with_object : ℕ → Config → Config
with_object base c = record c {
  devices = record { line = 4; base = 0x40000000; size = 16 };
  cells = record { line = 5; field = codes "Port.out"; at = 4; width = 4 } ∷ [];
  objects = record { line = 6; name = codes "led"; class = codes "Port"; base = base } ∷ [];
}

abbrev pub portal : List ℕ → List ℕ → PortalLine
portal method target = record { line = 7; method = method; domain = 0; target = target; limit = 1 }

abbrev pub with_portal : List ℕ → List ℕ → Config → Config
with_portal method target c = record c { portals = portal method target ∷ [] }

abbrev pub refused : Kind → ℕ → Result Bound Stop
refused kind line = Err (Refused (record { file = 0; kind = kind; at = line }))

-- ---- what they are bound to

-- the names of a task's entry, of a native method, of a cell's field and of an object's class
abbrev pub EachIsNamed : Type 0
EachIsNamed =
    let config = with_object 8 (with_native (codes "Blink.again()I") (with_entry (codes "Blink.run") empty)) in
    bound_of blinker config
    ≡ Ok (record {
      config = config;
      entries = method_id 4 0 ∷ [];
      natives = method_id 4 1 ∷ [];
      cells = field_id 6 0 ∷ [];
      objects = record { n = 6 } ∷ [];
      device_methods = [];
      portals = [];
    })

-- no method of that name; a native one; and no class of that name
abbrev pub EntriesHaveCode : Type 0
EntriesHaveCode =
    (bound_of blinker (with_entry (codes "Blink.walk") empty) ≡ refused kind.NoEntry 2) × (bound_of blinker (with_entry (codes "Blink.again") empty) ≡ refused kind.NoEntry 2)
    × (bound_of blinker (with_entry (codes "Blank.run") empty) ≡ refused kind.NoEntry 2)

-- one that isn't static; one that isn't native; and one of another descriptor
abbrev pub NativesAreStatic : Type 0
NativesAreStatic =
    (bound_of blinker (with_native (codes "Blink.mine()I") empty) ≡ refused kind.BadNative 3) × (bound_of blinker (with_native (codes "Blink.run()V") empty) ≡ refused kind.BadNative 3)
    × (bound_of blinker (with_native (codes "Blink.log([I)I") empty) ≡ refused kind.BadNative 3)

-- the cell ends with the last device byte, and behind it
abbrev pub ObjectsEndWithinTheDevices : Type 0
ObjectsEndWithinTheDevices =
    ((bound_of blinker (with_object 8 empty) ≡ Ok (record {
      config = with_object 8 empty;
      entries = [];
      natives = [];
      cells = field_id 6 0 ∷ [];
      objects = record { n = 6 } ∷ [];
      device_methods = [];
      portals = [];
    })) × (bound_of blinker (with_object 16 empty) ≡ refused kind.BadMapped 6))

-- the target takes what the method takes; and not
abbrev pub PortalsKeepTheDescriptor : Type 0
PortalsKeepTheDescriptor =
    (bound_of blinker (with_portal (codes "Blink.log([I)I") (codes "Log.put([I)I") empty) ≡ Ok (record {
      config = with_portal (codes "Blink.log([I)I") (codes "Log.put([I)I") empty;
      entries = [];
      natives = [];
      cells = [];
      objects = [];
      device_methods = [];
      portals = (method_id 4 2, method_id 5 0) ∷ [];
    })) × (bound_of blinker (with_portal (codes "Blink.wide([J)I") (codes "Log.put([I)I") empty) ≡ refused kind.BadPortal 7)

-- of two lines the first is shown
abbrev pub FirstLineIsShown : Type 0
FirstLineIsShown = bound_of blinker (with_object 16 (with_native (codes "Blink.mine()I") empty)) ≡ refused kind.BadNative 3
