-- Worked examples of the forms of a frame (JVMS SE 8, 4.7.4).
use Rattle.std.specs.Prelude.{◌≡◌, List, [], ◌∷◌, codes}
use Rattle.stackmap.specs.declared.vtype.VType.TheVariants.{Top, Integer, Float, Double, Long, Null, UninitThis, Object, Uninit}
use Rattle.stackmap.specs.Worked.Tables.{Says, declared}

abbrev pub NoFrames : Type 0
NoFrames = Says (0 ∷ 0 ∷ []) []

-- same_frame keeps the locals; a frame stands one place more behind the one before it, the first does not
abbrev pub SameFrames : Type 0
SameFrames =
    Says (0 ∷ 3 ∷ 0 ∷ 5 ∷ 63 ∷ [])
    (declared 102 0 (Integer ∷ Long ∷ []) [] ∷ declared 103 6 (Integer ∷ Long ∷ []) [] ∷ declared 104 70 (Integer ∷ Long ∷ []) [] ∷ [])

-- same_locals_1_stack_item_frame
abbrev pub OneStackItem : Type 0
OneStackItem =
    Says (0 ∷ 2 ∷ 64 ∷ 2 ∷ 127 ∷ 7 ∷ 0 ∷ 2 ∷ [])
    (declared 102 0 (Integer ∷ Long ∷ []) (Float ∷ []) ∷ declared 104 64 (Integer ∷ Long ∷ []) (Object (codes "C") ∷ []) ∷ [])

-- same_locals_1_stack_item_frame_extended
abbrev pub OneStackItemExtended : Type 0
OneStackItemExtended = Says (0 ∷ 1 ∷ 247 ∷ 1 ∷ 2 ∷ 3 ∷ []) (declared 102 258 (Integer ∷ Long ∷ []) (Double ∷ []) ∷ [])

-- same_frame_extended
abbrev pub SameExtended : Type 0
SameExtended = Says (0 ∷ 1 ∷ 251 ∷ 1 ∷ 2 ∷ []) (declared 102 258 (Integer ∷ Long ∷ []) [] ∷ [])

-- full_frame tells all locals and operands
abbrev pub FullFrames : Type 0
FullFrames =
    Says (0 ∷ 1 ∷ 255 ∷ 0 ∷ 4 ∷ 0 ∷ 2 ∷ 7 ∷ 0 ∷ 2 ∷ 4 ∷ 0 ∷ 3 ∷ 3 ∷ 8 ∷ 0 ∷ 7 ∷ 5 ∷ [])
    (declared 102 4 (Object (codes "C") ∷ Long ∷ []) (Double ∷ Uninit 7 ∷ Null ∷ []) ∷ [])

-- chop_frame takes one, two or three of the last locals away: a long is one of them
abbrev pub ChopTakesLastLocals : Type 0
ChopTakesLastLocals =
    Says (0 ∷ 1 ∷ 250 ∷ 0 ∷ 9 ∷ []) (declared 102 9 (Integer ∷ []) [] ∷ [])
    × Says (0 ∷ 1 ∷ 249 ∷ 0 ∷ 9 ∷ []) (declared 102 9 [] [] ∷ [])
    × Says (0 ∷ 2 ∷ 252 ∷ 0 ∷ 0 ∷ 3 ∷ 248 ∷ 1 ∷ 0 ∷ []) (declared 102 0 (Integer ∷ Long ∷ Double ∷ []) [] ∷ declared 106 257 [] [] ∷ [])

-- append_frame puts one, two or three behind: a long or a double is one of them
abbrev pub AppendPutsLocalsBehind : Type 0
AppendPutsLocalsBehind =
    Says (0 ∷ 1 ∷ 252 ∷ 0 ∷ 9 ∷ 4 ∷ []) (declared 102 9 (Integer ∷ Long ∷ Long ∷ []) [] ∷ [])
    × Says (0 ∷ 1 ∷ 253 ∷ 0 ∷ 9 ∷ 3 ∷ 0 ∷ []) (declared 102 9 (Integer ∷ Long ∷ Double ∷ Top ∷ []) [] ∷ [])
    × Says (0 ∷ 1 ∷ 254 ∷ 0 ∷ 9 ∷ 4 ∷ 7 ∷ 0 ∷ 2 ∷ 1 ∷ []) (declared 102 9 (Integer ∷ Long ∷ Long ∷ Object (codes "C") ∷ Integer ∷ []) [] ∷ [])

-- each frame goes on from the locals of the one before it, and keeps none of its operands
abbrev pub FramesGoOn : Type 0
FramesGoOn =
    Says (0 ∷ 3 ∷ 253 ∷ 0 ∷ 0 ∷ 3 ∷ 4 ∷ 65 ∷ 1 ∷ 249 ∷ 0 ∷ 0 ∷ [])
    (declared 102 0 (Integer ∷ Long ∷ Double ∷ Long ∷ []) [] ∷ declared 107 2 (Integer ∷ Long ∷ Double ∷ Long ∷ []) (Integer ∷ []) ∷ declared 109 3 (Integer ∷ Long ∷ []) [] ∷ [])
