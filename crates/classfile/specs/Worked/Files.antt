-- Small class files for worked examples. Each has the texts A and B at 1 and 3 of its constant pool, and the classes
-- of these names at 2 and 4. Further entries begin with number 5, at the byte 24.
use Rattle.std.specs.Prelude.{◌≡◌, ℕ, List, [], ◌∷◌, ◌++◌, length, codes, is_ok, true}
use Rattle.kes_text.specs.declared.refusal.Kind.{Kind}
use Rattle.classfile.specs.Scan.{refused}
use Rattle.classfile.specs.Reading.{class_file}

-- a number below 256 in two bytes
abbrev pub two : ℕ → List ℕ
two n = 0 ∷ n ∷ []

abbrev pub utf8 : List ℕ → List ℕ
utf8 t = 1 ∷ two (length t) ++ t

-- magic and version, constant_pool_count, the entries, and what stands behind them
abbrev pub file : ℕ → ℕ → List ℕ → List ℕ → List ℕ
file version count entries rest =
    202 ∷ 254 ∷ 186 ∷ 190 ∷ two 0 ++ two version ++ two count ++ utf8 (codes "A") ++ 7 ∷ two 1 ++ utf8 (codes "B") ++ 7 ∷ two 3 ++ entries ++ rest

-- the class A, whose superclass is B: no interfaces, and these fields, methods and attributes with their counts
abbrev pub body : List ℕ → List ℕ → List ℕ → List ℕ
body fields methods attributes = two 0x20 ++ two 2 ++ two 4 ++ two 0 ++ fields ++ methods ++ attributes

abbrev pub nothing : List ℕ
nothing = body (two 0) (two 0) (two 0)

-- an attribute with this name and length
abbrev pub attribute : ℕ → ℕ → List ℕ → List ℕ
attribute name size contents = two name ++ two 0 ++ two size ++ contents

-- a Code of one return instruction; these attributes stand behind it, with their count
abbrev pub code : List ℕ → List ℕ
code attributes = two 0 ++ two 1 ++ two 0 ++ two 1 ++ 177 ∷ two 0 ++ attributes

abbrev pub IsAccepted : List ℕ → Type 0
IsAccepted bytes = is_ok (class_file bytes) ≡ true

abbrev pub HasFault : List ℕ → Kind → ℕ → Type 0
HasFault bytes kind at = class_file bytes ≡ refused kind at
