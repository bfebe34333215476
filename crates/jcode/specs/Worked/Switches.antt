-- Worked examples of switches: their padding, their tables and what is wrong with them.
use Rattle.std.specs.Prelude.{◌≡◌, ℕ, pos, negsuc, List, [], ◌∷◌, ◌++◌, Ok}
use Rattle.kes_text.specs.declared.refusal.Kind.TheVariants as kind
use Rattle.jcode.specs.declared.op.Op.TheVariants.{Nop, Switch, Return}
use Rattle.jcode.specs.declared.op.Ins.{Ins}
use Rattle.jcode.specs.Decoded.{decoded}
use Rattle.jcode.specs.Worked.Faults.{HasFault}
use Rattle.jcode.specs.Worked.Pool.{worked_pool}

-- low is -1 and high 0; their targets and the other one are so far behind the opcode
abbrev pub table : ℕ → List ℕ
table far = 0 ∷ 0 ∷ 0 ∷ far ∷ 255 ∷ 255 ∷ 255 ∷ 255 ∷ 0 ∷ 0 ∷ 0 ∷ 0 ∷ 0 ∷ 0 ∷ 0 ∷ far ∷ 0 ∷ 0 ∷ 0 ∷ 0 ∷ []

-- the keys -1 and 2
abbrev pub pairs : ℕ → List ℕ
pairs far = 0 ∷ 0 ∷ 0 ∷ far ∷ 0 ∷ 0 ∷ 0 ∷ 2 ∷ 255 ∷ 255 ∷ 255 ∷ 255 ∷ 0 ∷ 0 ∷ 0 ∷ far ∷ 0 ∷ 0 ∷ 0 ∷ 2 ∷ 0 ∷ 0 ∷ 0 ∷ 0 ∷ []

abbrev pub nop_at : ℕ → Ins
nop_at pc = record { pc = pc; op = Nop }

abbrev pub return_at : ℕ → Ins
return_at pc = record { pc = pc; op = Return }

-- a table that begins at 4 or 8, behind each number of bytes of padding, which are 9
abbrev pub TablesArePadded : Type 0
TablesArePadded =
    (decoded worked_pool 100 (170 ∷ 9 ∷ 9 ∷ 9 ∷ table 24 ++ 177 ∷ []) ≡ Ok (record { pc = 0; op = Switch ((negsuc 0, 24) ∷ (pos 0, 0) ∷ []) 24 } ∷ return_at 24 ∷ []))
    × (decoded worked_pool 100 (0 ∷ 170 ∷ 9 ∷ 9 ∷ table 23 ++ 177 ∷ []) ≡ Ok (nop_at 0 ∷ record { pc = 1; op = Switch ((negsuc 0, 24) ∷ (pos 0, 1) ∷ []) 24 } ∷ return_at 24 ∷ []))
    × (decoded worked_pool 100 (0 ∷ 0 ∷ 170 ∷ 9 ∷ table 22 ++ 177 ∷ []) ≡ Ok (nop_at 0 ∷ nop_at 1 ∷ record { pc = 2; op = Switch ((negsuc 0, 24) ∷ (pos 0, 2) ∷ []) 24 } ∷ return_at 24 ∷ []))
    × (decoded worked_pool 100 (0 ∷ 0 ∷ 0 ∷ 170 ∷ table 21 ++ 177 ∷ []) ≡ Ok (nop_at 0 ∷ nop_at 1 ∷ nop_at 2 ∷ record { pc = 3; op = Switch ((negsuc 0, 24) ∷ (pos 0, 3) ∷ []) 24 } ∷ return_at 24 ∷ []))

abbrev pub PairsArePadded : Type 0
PairsArePadded =
    (decoded worked_pool 100 (171 ∷ 9 ∷ 9 ∷ 9 ∷ pairs 28 ++ 177 ∷ []) ≡ Ok (record { pc = 0; op = Switch ((negsuc 0, 28) ∷ (pos 2, 0) ∷ []) 28 } ∷ return_at 28 ∷ []))
    × (decoded worked_pool 100 (0 ∷ 0 ∷ 0 ∷ 171 ∷ pairs 25 ++ 177 ∷ []) ≡ Ok (nop_at 0 ∷ nop_at 1 ∷ nop_at 2 ∷ record { pc = 3; op = Switch ((negsuc 0, 28) ∷ (pos 2, 3) ∷ []) 28 } ∷ return_at 28 ∷ []))

abbrev pub zeros : List ℕ
zeros = 0 ∷ 0 ∷ 0 ∷ 0 ∷ []

abbrev pub one : List ℕ
one = 0 ∷ 0 ∷ 0 ∷ 1 ∷ []

abbrev pub minus_one : List ℕ
minus_one = 255 ∷ 255 ∷ 255 ∷ 255 ∷ []

-- low 1 above high 0; -1 pairs; a key that stands twice; a table without its last target, whose keys would fall; and
-- targets that are no instruction's beginning
abbrev pub SwitchesAreWrong : Type 0
SwitchesAreWrong =
    HasFault (170 ∷ 0 ∷ 0 ∷ 0 ∷ zeros ++ one ++ zeros) kind.SwitchTable 0
    × HasFault (171 ∷ 0 ∷ 0 ∷ 0 ∷ zeros ++ minus_one) kind.SwitchTable 0
    × HasFault (171 ∷ 0 ∷ 0 ∷ 0 ∷ zeros ++ (0 ∷ 0 ∷ 0 ∷ 2 ∷ []) ++ one ++ zeros ++ one ++ zeros) kind.SwitchTable 0
    × HasFault (171 ∷ 0 ∷ 0 ∷ 0 ∷ zeros ++ (0 ∷ 0 ∷ 0 ∷ 2 ∷ []) ++ one ++ zeros ++ zeros ++ (0 ∷ 0 ∷ 0 ∷ [])) kind.Operand 0
    × HasFault (170 ∷ 0 ∷ 0 ∷ 0 ∷ one ++ zeros ++ zeros ++ zeros) kind.Jump 0
    × HasFault (170 ∷ 0 ∷ 0 ∷ 0 ∷ zeros ++ zeros ++ zeros ++ one) kind.Jump 0
