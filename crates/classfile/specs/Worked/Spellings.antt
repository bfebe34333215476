-- Worked examples of bytes that spell a class file, and of bytes that spell none.
use Rattle.std.specs.Prelude.{ℕ, pos, List, [], ◌∷◌, ◌++◌, codes}
use Rattle.classfile.specs.declared.pool.Entry.{Entry}
use Rattle.classfile.specs.declared.pool.Entry.TheVariants as entry
use Rattle.classfile.specs.ClassFile.{ClassInfo}
use Rattle.classfile.specs.Spelled.{IsSpelled}
use Rattle.classfile.specs.Worked.Files.{two, file, body, nothing}
use Rattle.classfile.specs.Worked.ClassFiles.{base, constants, method_with}
use Rattle.classfile.specs.Worked.PoolEntries.{zeros}

-- the class A without members, whose super_class stands at this place
abbrev pub plain : ℕ → List Entry → ClassInfo
plain super_at entries = record { version = 52; flags = 0x20; name = codes "A"; super_name = codes "B"; super_at = super_at; interfaces = []; fields = []; methods = []; pool = base ++ entries }

abbrev pub SmallestIsSpelled : Type 0
SmallestIsSpelled = IsSpelled (plain 28 []) (file 52 5 [] nothing)

-- a Long in the last place of the pool, whose second place is missing
abbrev pub LastIsWide : Type 0
LastIsWide = IsSpelled (plain 37 (entry.Long (pos 0) ∷ [])) (file 52 6 (5 ∷ zeros) nothing)

abbrev pub SpellNone : List ℕ → Type 0
SpellNone bytes = (class : ClassInfo) → IsSpelled class bytes → ⊥

-- a byte behind the end, a superclass that is no class, a method without a Code, and a field that stands twice
abbrev pub FaultsSpellNone : Type 0
FaultsSpellNone =
    SpellNone (file 52 5 [] (nothing ++ 1 ∷ [])) × SpellNone (file 52 5 [] (two 0x20 ++ two 2 ++ two 3 ++ two 0 ++ two 0 ++ two 0 ++ two 0)) × SpellNone (method_with 1 (two 0))
    × SpellNone (file 52 11 constants (body (two 2 ++ two 0 ++ two 5 ++ two 6 ++ two 0 ++ two 8 ++ two 5 ++ two 6 ++ two 0) (two 0) (two 0)))
