-- The two methods of a class of the first form (JVMS 4.6).
use Rattle.std.specs.Prelude.{ℕ, List, [], ◌∷◌, Option, Some, None, Bool, ◌&&◌, ◌||◌, not, bit_and, codes, ◌==◌, if◌then◌else◌}
use Rattle.std.specs.Str.{bytes_eq}
use Rattle.classfile.specs.ClassFile.{MethodInfo}

abbrev pub is_set : ℕ → ℕ → Bool
is_set flags flag = not (bit_and flags flag == 0)

-- ACC_STATIC, and neither ACC_SYNCHRONIZED nor ACC_ABSTRACT (JVMS 4.6, table 4.6-A)
abbrev pub is_plain_static : ℕ → Bool
is_plain_static flags = is_set flags 0x0008 && not (is_set flags 0x0020) && not (is_set flags 0x0400)

-- the names of initialisers, which no other method has (JVMS 2.9)
abbrev pub is_special_name : List ℕ → Bool
is_special_name name = bytes_eq name (codes "<init>") || bytes_eq name (codes "<clinit>")

abbrev pub is_plain : MethodInfo → Bool
is_plain m = is_plain_static m.flags && not (is_special_name m.name)

-- a static native method ()I; 0x0100 is ACC_NATIVE
abbrev pub is_native : MethodInfo → Bool
is_native m = is_plain m && is_set m.flags 0x0100 && bytes_eq m.descriptor (codes "()I")

-- a static method ()V with code
abbrev pub is_entry : MethodInfo → Bool
is_entry m = is_plain m && not (is_set m.flags 0x0100) && bytes_eq m.descriptor (codes "()V")

-- the native method and the entry, which stand in either order
abbrev pub native_and_entry : List MethodInfo → Option (MethodInfo × MethodInfo)
native_and_entry (first ∷ second ∷ []) =
    if is_native first && is_entry second then Some (first, second)
    else if is_native second && is_entry first then Some (second, first)
    else None
native_and_entry _ = None
