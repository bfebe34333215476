-- Worked examples of what the entries of a constant pool may name.
use Rattle.std.specs.Prelude.{ℕ, List, ◌∷◌, ◌++◌, codes}
use Rattle.kes_text.specs.declared.refusal.Kind.TheVariants as kind
use Rattle.classfile.specs.Worked.Files.{two, utf8, file, nothing, IsAccepted, HasFault}

-- behind the classes, entries 5 to 12: the texts x, I and ()V, the NameAndTypes x I and x ()V, and a Fieldref, a
-- Methodref and an InterfaceMethodref of them; entry 13 stands at byte 63
abbrev pub referring : ℕ → List ℕ → List ℕ
referring version entry =
    file version 14 (utf8 (codes "x") ++ utf8 (codes "I") ++ utf8 (codes "()V") ++ 12 ∷ two 5 ++ two 6 ++ 12 ∷ two 5 ++ two 7 ++ 9 ∷ two 2 ++ two 8 ++ 10 ∷ two 2 ++ two 9 ++ 11 ∷ two 4 ++ two 9 ++ entry) nothing

-- a method handle of a kind that refers to an entry
abbrev pub handle : ℕ → ℕ → ℕ → List ℕ
handle version of_kind refers = referring version (15 ∷ of_kind ∷ two refers)

-- kinds 1 to 4 refer to a Fieldref, 5 and 8 to a Methodref, 9 to an InterfaceMethodref
abbrev pub HandlesRefer : Type 0
HandlesRefer =
    IsAccepted (handle 52 1 10) × IsAccepted (handle 52 2 10) × IsAccepted (handle 52 3 10) × IsAccepted (handle 52 4 10) × IsAccepted (handle 52 5 11) × IsAccepted (handle 52 8 11) × IsAccepted (handle 52 9 12)
    × HasFault (handle 52 1 11) kind.PoolIndex 65 × HasFault (handle 52 4 12) kind.PoolIndex 65 × HasFault (handle 52 5 10) kind.PoolIndex 65 × HasFault (handle 52 5 12) kind.PoolIndex 65
    × HasFault (handle 52 8 12) kind.PoolIndex 65 × HasFault (handle 52 9 11) kind.PoolIndex 65

-- from version 52 on kinds 6 and 7 may refer to either; there is no kind 0 and no kind 10
abbrev pub HandlesByVersion : Type 0
HandlesByVersion =
    IsAccepted (handle 52 6 11) × IsAccepted (handle 52 6 12) × IsAccepted (handle 52 7 12) × IsAccepted (handle 51 6 11) × IsAccepted (handle 51 7 11)
    × HasFault (handle 51 6 12) kind.PoolIndex 65 × HasFault (handle 50 7 12) kind.PoolIndex 65 × HasFault (handle 52 0 10) kind.PoolIndex 65 × HasFault (handle 52 10 10) kind.PoolIndex 65

-- a MethodType and an InvokeDynamic want a method descriptor
abbrev pub MethodTypesAreMethods : Type 0
MethodTypesAreMethods =
    IsAccepted (referring 52 (16 ∷ two 7)) × HasFault (referring 52 (16 ∷ two 6)) kind.BadDescriptor 64 × HasFault (referring 52 (16 ∷ two 9)) kind.PoolIndex 64
    × IsAccepted (referring 52 (18 ∷ two 0 ++ two 9)) × HasFault (referring 52 (18 ∷ two 0 ++ two 8)) kind.BadDescriptor 66 × HasFault (referring 52 (18 ∷ two 0 ++ two 7)) kind.PoolIndex 66

-- a Fieldref whose descriptor is a method's, and the other way round; a NameAndType of neither, and a String of no text
abbrev pub DescriptorsAreOfTheirKind : Type 0
DescriptorsAreOfTheirKind =
    HasFault (referring 52 (9 ∷ two 2 ++ two 9)) kind.BadDescriptor 66 × HasFault (referring 52 (10 ∷ two 2 ++ two 8)) kind.BadDescriptor 66 × HasFault (referring 52 (11 ∷ two 2 ++ two 8)) kind.BadDescriptor 66
    × HasFault (referring 52 (9 ∷ two 1 ++ two 8)) kind.PoolIndex 64 × HasFault (referring 52 (12 ∷ two 5 ++ two 5)) kind.BadDescriptor 66 × HasFault (referring 52 (12 ∷ two 8 ++ two 6)) kind.PoolIndex 64
    × IsAccepted (referring 52 (8 ∷ two 5)) × HasFault (referring 52 (8 ∷ two 8)) kind.PoolIndex 64

-- a class's name that begins with [ is an array descriptor, and other names have no form
abbrev pub ArraysAreDescriptors : Type 0
ArraysAreDescriptors =
    IsAccepted (file 52 7 (utf8 (codes "[I") ++ 7 ∷ two 5) nothing) × IsAccepted (file 52 7 (utf8 (codes "a//b;") ++ 7 ∷ two 5) nothing) × HasFault (file 52 7 (utf8 (codes "[V") ++ 7 ∷ two 5) nothing) kind.BadDescriptor 30

abbrev pub zeros : List ℕ
zeros = two 0 ++ two 0 ++ two 0 ++ two 0

-- a Long and a Double take two places, of which nothing may name the second; the second may be missing
abbrev pub WideTakeTwo : Type 0
WideTakeTwo =
    IsAccepted (file 52 8 (6 ∷ zeros ++ utf8 (codes "x")) nothing) × IsAccepted (file 52 9 (5 ∷ zeros ++ utf8 (codes "x") ++ 8 ∷ two 7) nothing)
    × HasFault (file 52 9 (5 ∷ zeros ++ utf8 (codes "x") ++ 8 ∷ two 6) nothing) kind.PoolIndex 38 × IsAccepted (file 52 6 (5 ∷ zeros) nothing)

-- 2, 13, 14, 17 and 19 are no tags
abbrev pub TagsAreKnown : Type 0
TagsAreKnown =
    HasFault (file 52 6 (2 ∷ zeros) nothing) kind.PoolTag 24 × HasFault (file 52 6 (13 ∷ zeros) nothing) kind.PoolTag 24 × HasFault (file 52 6 (14 ∷ zeros) nothing) kind.PoolTag 24
    × HasFault (file 52 6 (17 ∷ zeros) nothing) kind.PoolTag 24 × HasFault (file 52 6 (19 ∷ zeros) nothing) kind.PoolTag 24
