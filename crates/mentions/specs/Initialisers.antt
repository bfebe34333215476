-- The initialisers of a class and of its superclasses (JVMS SE 8, 2.9 and 5.5).
use Rattle.std.specs.Prelude.{ℕ, Bool, List, [], ◌∷◌, map, reverse, filter_map, Option, is_some, bytes_eq, codes, ◌&&◌}
use Rattle.classfile.specs.ClassFile.{MethodInfo}
use Rattle.jworld.specs.declared.ids.MethodId.{MethodId}
use Rattle.jworld.specs.Classes.{World}
use Rattle.jworld.specs.Members.{is_static, declared_method}
use Rattle.jworld.specs.Upwards.{upwards}
use Rattle.reaching.specs.declared.pair.Pair.{Pair}

-- a static method <clinit>()V with code; any other of its name is none
abbrev pub is_initialiser : MethodInfo → Bool
is_initialiser method =
    (bytes_eq method.name (codes "<clinit>") && bytes_eq method.descriptor (codes "()V")) && (is_static method && is_some method.code)

abbrev pub initialiser_of : World → ℕ → Option MethodId
initialiser_of files class = declared_method files is_initialiser class

abbrev pub in_domain : ℕ → MethodId → Pair
in_domain domain method = record { domain = domain; method = method }

-- the superclass's comes first
abbrev pub initialisers : World → ℕ → ℕ → List Pair
initialisers files domain class = map (in_domain domain) (reverse (filter_map (initialiser_of files) (upwards files class)))
