-- Worked examples of instructions: an operation has several spellings.
use Rattle.std.specs.Prelude.{◌≡◌, ℕ, pos, negsuc, true, List, [], ◌∷◌, Ok}
use Rattle.jnames.specs.declared.shape.Shape.TheVariants as shape
use Rattle.jcode.specs.declared.op.Op.{Op}
use Rattle.jcode.specs.declared.op.Op.TheVariants.{Nop, Const4, Const8, LoadI, Inc, IfNull, Goto, Return, GetStatic, InvokeStatic, InvokeInterface, New, NewArray, ArrayLoad, Add}
use Rattle.jcode.specs.Decoded.{decoded}
use Rattle.jcode.specs.Worked.Pool.{worked_pool}

-- the code is this one operation
abbrev pub Spells : List ℕ → Op → Type 0
Spells code op = decoded worked_pool 100 code ≡ Ok (record { pc = 0; op = op } ∷ [])

-- iconst_m1, bipush, sipush, ldc and ldc_w
abbrev pub IntsAreSpelled : Type 0
IntsAreSpelled =
    Spells (2 ∷ []) (Const4 (negsuc 0)) × Spells (16 ∷ 255 ∷ []) (Const4 (negsuc 0)) × Spells (17 ∷ 255 ∷ 255 ∷ []) (Const4 (negsuc 0))
    × Spells (18 ∷ 5 ∷ []) (Const4 (pos 7)) × Spells (19 ∷ 0 ∷ 5 ∷ []) (Const4 (pos 7)) × Spells (20 ∷ 0 ∷ 6 ∷ []) (Const8 (negsuc 0))

-- iload_3, iload and its wide form; iinc and its wide form
abbrev pub LocalsAreSpelled : Type 0
LocalsAreSpelled =
    Spells (29 ∷ []) (LoadI 3) × Spells (21 ∷ 3 ∷ []) (LoadI 3) × Spells (196 ∷ 21 ∷ 0 ∷ 3 ∷ []) (LoadI 3) × Spells (196 ∷ 21 ∷ 255 ∷ 255 ∷ []) (LoadI 65535)
    × Spells (132 ∷ 1 ∷ 255 ∷ []) (Inc 1 (negsuc 0)) × Spells (196 ∷ 132 ∷ 1 ∷ 0 ∷ 128 ∷ 0 ∷ []) (Inc 256 (negsuc 32767))

-- entries of the pool, arrays and numbers; of invokeinterface the last two bytes aren't looked at
abbrev pub EntriesAreSpelled : Type 0
EntriesAreSpelled =
    Spells (178 ∷ 0 ∷ 1 ∷ []) (GetStatic 1) × Spells (184 ∷ 0 ∷ 2 ∷ []) (InvokeStatic 2) × Spells (185 ∷ 0 ∷ 3 ∷ 7 ∷ 8 ∷ []) (InvokeInterface 3) × Spells (187 ∷ 0 ∷ 4 ∷ []) (New 4)
    × Spells (188 ∷ 4 ∷ []) (NewArray shape.Bool) × Spells (50 ∷ []) (ArrayLoad shape.Class) × Spells (51 ∷ []) (ArrayLoad shape.Byte) × Spells (97 ∷ []) (Add true)

-- goto_w forwards, goto to itself and ifnull backwards
abbrev pub JumpsAreSpelled : Type 0
JumpsAreSpelled =
    (decoded worked_pool 100 (200 ∷ 0 ∷ 0 ∷ 0 ∷ 5 ∷ 177 ∷ []) ≡ Ok (record { pc = 0; op = Goto 5 } ∷ record { pc = 5; op = Return } ∷ []))
    × Spells (167 ∷ 0 ∷ 0 ∷ []) (Goto 0)
    × (decoded worked_pool 100 (0 ∷ 198 ∷ 255 ∷ 255 ∷ []) ≡ Ok (record { pc = 0; op = Nop } ∷ record { pc = 1; op = IfNull true 0 } ∷ []))
