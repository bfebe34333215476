-- The classes of a world, by number (JVMS SE 8, 5.3): four that every world has, and behind them those of the files, in their order.
use Rattle.std.specs.Prelude.{ℕ, zero, suc, ◌+◌, ◌-◌, Bool, List, [], ◌∷◌, ◌++◌, map, length, position, filter_map, slice_get, Option, Some, None, option_and_then, bytes_eq, codes, bit_and, not, ◌==◌, nat_lt, if◌then◌else◌}
use Rattle.classfile.specs.ClassFile.{ClassInfo}

-- the class files
abbrev pub World : Type 0
World = List ClassInfo

-- the classes that every world has, each but the first below the one before it
abbrev pub built_in : List (List ℕ)
built_in = codes "java/lang/Object" ∷ codes "java/lang/Throwable" ∷ codes "java/lang/Exception" ∷ codes "java/lang/RuntimeException" ∷ []

-- the name of each class
abbrev pub names : World → List (List ℕ)
names files = built_in ++ map (λ file. file.name) files

abbrev pub count : World → ℕ
count files = 4 + length files

abbrev pub class_named : World → List ℕ → Option ℕ
class_named files name = position (bytes_eq name) (names files)

-- the file of a class; a built-in class has none
abbrev pub file_of : World → ℕ → Option ClassInfo
file_of files n = if nat_lt n 4 then None else slice_get files (n - 4)

abbrev pub built_in_super : ℕ → Option ℕ
built_in_super zero = None
built_in_super (suc n) = Some n

-- the direct superclass (4.1), which Object alone lacks
abbrev pub super_of : World → ℕ → Option ℕ
super_of files n = if nat_lt n 4 then built_in_super n else option_and_then (λ file. class_named files file.super_name) (slice_get files (n - 4))

abbrev pub interfaces_in : World → Option ClassInfo → List ℕ
interfaces_in files None = []
interfaces_in files (Some file) = filter_map (class_named files) file.interfaces

-- the direct superinterfaces (4.1), in the file's order
abbrev pub interfaces_of : World → ℕ → List ℕ
interfaces_of files n = interfaces_in files (file_of files n)

abbrev pub flags_in : Option ClassInfo → ℕ
flags_in None = 0
flags_in (Some file) = file.flags

abbrev pub is_set : ℕ → ℕ → Bool
is_set flags flag = not (bit_and flags flag == 0)

-- ACC_INTERFACE (4.1)
abbrev pub is_interface : World → ℕ → Bool
is_interface files n = is_set (flags_in (file_of files n)) 0x0200
