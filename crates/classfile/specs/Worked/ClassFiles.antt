-- Worked examples of class files and of what they say.
use Rattle.std.specs.Prelude.{◌≡◌, ℕ, pos, List, [], ◌∷◌, ◌++◌, codes, Some, None, Ok}
use Rattle.classfile.specs.declared.pool.Entry.{Entry}
use Rattle.classfile.specs.declared.pool.Entry.TheVariants as entry
use Rattle.classfile.specs.ClassFile.{FieldInfo, MethodInfo}
use Rattle.classfile.specs.Reading.{class_file}
use Rattle.classfile.specs.Worked.Files.{two, utf8, file, body, nothing, attribute, code}

abbrev pub base : List Entry
base = entry.Utf8 (codes "A") ∷ entry.Class 1 ∷ entry.Utf8 (codes "B") ∷ entry.Class 3 ∷ []

-- these bytes, whose super_class stands at this place, say these members and further entries
abbrev pub Says : List ℕ → ℕ → List FieldInfo → List MethodInfo → List Entry → Type 0
Says bytes super_at fields methods entries =
    class_file bytes ≡ Ok (record { version = 52; flags = 0x20; name = codes "A"; super_name = codes "B"; super_at = super_at; interfaces = []; fields = fields; methods = methods; pool = base ++ entries })

-- the smallest
abbrev pub SmallestIsRead : Type 0
SmallestIsRead = Says (file 52 5 [] nothing) 28 [] [] []

-- entries x, I, J, ConstantValue, an Integer 7 and an Integer 9
abbrev pub constants : List ℕ
constants = utf8 (codes "x") ++ utf8 (codes "I") ++ utf8 (codes "J") ++ utf8 (codes "ConstantValue") ++ 3 ∷ two 0 ++ two 7 ++ 3 ∷ two 0 ++ two 9

abbrev pub constant_entries : List Entry
constant_entries = entry.Utf8 (codes "x") ∷ entry.Utf8 (codes "I") ∷ entry.Utf8 (codes "J") ∷ entry.Utf8 (codes "ConstantValue") ∷ entry.Integer (pos 7) ∷ entry.Integer (pos 9) ∷ []

-- a field with two ConstantValues, 7 and 9
abbrev pub field_with : ℕ → ℕ → List ℕ
field_with flags descriptor = file 52 11 constants (body (two 1 ++ two flags ++ two 5 ++ two descriptor ++ two 2 ++ attribute 8 2 (two 9) ++ attribute 8 2 (two 10)) (two 0) (two 0))

-- of a static field of int the first counts; it counts neither of a field that isn't static nor of one of long
abbrev pub FirstConstantCounts : Type 0
FirstConstantCounts =
    Says (field_with 8 6) 66 (record { at = 72; flags = 8; name = codes "x"; descriptor = codes "I"; constant = Some (pos 7) } ∷ []) [] constant_entries
    × Says (field_with 0 6) 66 (record { at = 72; flags = 0; name = codes "x"; descriptor = codes "I"; constant = None } ∷ []) [] constant_entries
    × Says (field_with 8 7) 66 (record { at = 72; flags = 8; name = codes "x"; descriptor = codes "J"; constant = None } ∷ []) [] constant_entries

-- entries m, ()V, Code and StackMapTable
abbrev pub code_names : List ℕ
code_names = utf8 (codes "m") ++ utf8 (codes "()V") ++ utf8 (codes "Code") ++ utf8 (codes "StackMapTable")

abbrev pub code_entries : List Entry
code_entries = entry.Utf8 (codes "m") ∷ entry.Utf8 (codes "()V") ∷ entry.Utf8 (codes "Code") ∷ entry.Utf8 (codes "StackMapTable") ∷ []

-- a method of these flags with attributes and their count; its flags stand at byte 69
abbrev pub method_with : ℕ → List ℕ → List ℕ
method_with flags attributes = file 52 9 code_names (body (two 0) (two 1 ++ two flags ++ two 5 ++ two 6 ++ attributes) (two 0))

-- a method behind whose code two StackMapTables stand: the first is told
abbrev pub FirstMapsCount : Type 0
FirstMapsCount =
    Says (method_with 1 (two 1 ++ attribute 7 28 (code (two 2 ++ attribute 8 1 (5 ∷ []) ++ attribute 8 2 (6 ∷ 7 ∷ [])))))
    61 [] (record {
      at = 69;
      flags = 1;
      name = codes "m";
      descriptor = codes "()V";
      code = Some (record { at = 91; max_stack = 0; max_locals = 1; bytes = 177 ∷ []; handlers = 0; handlers_at = 92; maps = Some (102, 5 ∷ []) });
    } ∷ [])
    code_entries

-- a native method has no code
abbrev pub NativeHasNoCode : Type 0
NativeHasNoCode = Says (file 52 9 code_names (body (two 0) (two 1 ++ 1 ∷ 8 ∷ two 5 ++ two 6 ++ two 0) (two 0))) 61 [] (record { at = 69; flags = 0x108; name = codes "m"; descriptor = codes "()V"; code = None } ∷ []) code_entries
