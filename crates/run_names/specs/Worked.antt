-- The names of a small configuration and of a small world.
use Rattle.std.specs.Prelude.{◌≡◌, true, false, [], ◌∷◌, codes, None}
use Rattle.kconfig.specs.declared.config.Config.{Config}
use Rattle.kconfig.specs.Config.{first_config}
use Rattle.classfile.specs.ClassFile.{ClassInfo, MethodInfo}
use Rattle.jworld.specs.Members.{method_id}
use Rattle.run_names.specs.Objects.{names_of}
use Rattle.run_names.specs.Methods.{method_name}

abbrev pub small : Config
small = record (first_config (record { line = 1; big = false })) {
  devices = record { line = 2; base = 0; size = 16 };
  tasks = record { line = 3; name = codes "t"; domain = 0; prio = 1; acts = 1; auto = true; full = true; entry = codes "A.run" } ∷ [];
  events = record { line = 4; name = codes "go" } ∷ record { line = 5; name = codes "halt" } ∷ [];
}

abbrev pub SmallNames : Type 0
SmallNames =
    names_of small
    ≡ record { tasks = codes "t" ∷ []; resources = []; events = codes "go" ∷ codes "halt" ∷ []; counters = []; alarms = []; methods = []; devices = 16 }

abbrev pub run : MethodInfo
run = record { at = 0; flags = 0x0008; name = codes "run"; descriptor = codes "(I)V"; code = None }

abbrev pub small_class : ClassInfo
small_class = record {
  version = 52;
  flags = 0;
  name = codes "p/A";
  super_name = codes "java/lang/Object";
  super_at = 0;
  interfaces = [];
  fields = [];
  methods = run ∷ [];
  pool = [];
}

-- the class of the first file has number 4; a built-in class has no file
abbrev pub SmallMethods : Type 0
SmallMethods =
    (method_name (small_class ∷ []) (method_id 4 0) ≡ codes "p/A.run(I)V")
    × (method_name (small_class ∷ []) (method_id 4 1) ≡ []) × (method_name (small_class ∷ []) (method_id 0 0) ≡ [])
