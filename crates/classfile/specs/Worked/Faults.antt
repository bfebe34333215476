-- Worked examples of first faults and their places.
use Rattle.std.specs.Prelude.{[], ◌∷◌, ◌++◌}
use Rattle.kes_text.specs.declared.refusal.Kind.TheVariants as kind
use Rattle.classfile.specs.Worked.Files.{two, file, body, nothing, attribute, code, IsAccepted, HasFault}
use Rattle.classfile.specs.Worked.ClassFiles.{method_with, constants}

-- versions 50 to 52, whatever the minor version is
abbrev pub VersionsAreBounded : Type 0
VersionsAreBounded = IsAccepted (file 50 5 [] nothing) × IsAccepted (file 51 5 [] nothing) × HasFault (file 49 5 [] nothing) kind.Version 6 × HasFault (file 53 5 [] nothing) kind.Version 6

-- a method has one Code, and a native or an abstract one has none; a second Code is a fault before its contents are
-- looked at
abbrev pub CodesAreCounted : Type 0
CodesAreCounted =
    IsAccepted (method_with 1 (two 1 ++ attribute 7 13 (code (two 0)))) × HasFault (method_with 1 (two 0)) kind.CodeCount 69
    × HasFault (method_with 1 (two 2 ++ attribute 7 13 (code (two 0)) ++ attribute 7 13 (code (two 0)))) kind.CodeCount 69
    × HasFault (method_with 1 (two 2 ++ attribute 7 13 (code (two 0)) ++ two 7)) kind.CodeCount 69

-- a Code that ends before its length says so, and one that ends behind it; another attribute ends where its length says
abbrev pub LengthsAreKept : Type 0
LengthsAreKept =
    HasFault (method_with 1 (two 1 ++ attribute 7 14 (code (two 0)))) kind.AttrLength 79 × HasFault (method_with 1 (two 1 ++ attribute 7 12 (code (two 0)))) kind.AttrLength 79
    × IsAccepted (file 52 5 [] (body (two 0) (two 0) (two 1 ++ attribute 1 3 (9 ∷ 9 ∷ 9 ∷ [])))) × HasFault (file 52 5 [] (body (two 0) (two 0) (two 1 ++ attribute 1 3 (9 ∷ 9 ∷ [])))) kind.Truncated 46

-- a field that stands twice
abbrev pub MembersDiffer : Type 0
MembersDiffer =
    HasFault (file 52 11 constants (body (two 2 ++ two 0 ++ two 5 ++ two 6 ++ two 0 ++ two 8 ++ two 5 ++ two 6 ++ two 0) (two 0) (two 0))) kind.TwoMembers 80
    × IsAccepted (file 52 11 constants (body (two 2 ++ two 0 ++ two 5 ++ two 6 ++ two 0 ++ two 8 ++ two 5 ++ two 7 ++ two 0) (two 0) (two 0)))

-- a fault of structure comes before a wrong index that stands before it
abbrev pub StructureComesFirst : Type 0
StructureComesFirst = HasFault (file 52 6 (7 ∷ two 9) nothing) kind.PoolIndex 25 × HasFault (file 52 6 (7 ∷ two 9) (nothing ++ 1 ∷ [])) kind.Trailing 41
