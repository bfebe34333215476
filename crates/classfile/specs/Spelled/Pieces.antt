-- What may stand at a place of a file: items, one behind the other, as the tables of JVMS SE 8, 4 show them.
use Rattle.std.specs.Prelude.{◌≡◌, ℕ, ◌+◌, List, [], ◌∷◌, ◌++◌, length, IsNone}
use Rattle.byteorder.specs.Endian.{big_number}
use Rattle.classfile.specs.declared.uses.Wanted.{Wanted}
use Rattle.classfile.specs.declared.pool.Entry.{Entry}
use Rattle.classfile.specs.Faults.{index_fault}

-- the bytes that may stand at a place
abbrev pub Piece : Type 1
Piece = ℕ → List ℕ → Type 0

-- one piece, and another behind it
pub record Then (P Q : Piece) (at : ℕ) (bytes : List ℕ) : Type 0 where
  pub front : List ℕ
  pub back : List ℕ
  pub whole : bytes ≡ front ++ back
  pub first : P at front
  pub second : Q (at + length front) back

infixr 5 ◌▸◌
abbrev pub ◌▸◌ : Piece → Piece → Piece
P ▸ Q = Then P Q

abbrev pub nothing : Piece
nothing = λ at bytes. bytes ≡ []

-- so many bytes, which say nothing here
abbrev pub any : ℕ → Piece
any n = λ at bytes. length bytes ≡ n

-- a number of so many bytes, the highest first
abbrev pub number : ℕ → ℕ → Piece
number n k = λ at bytes. (length bytes ≡ n) × (big_number n bytes ≡ k)

abbrev pub u1 : ℕ → Piece
u1 = number 1

abbrev pub u2 : ℕ → Piece
u2 = number 2

abbrev pub u4 : ℕ → Piece
u4 = number 4

abbrev pub u8 : ℕ → Piece
u8 = number 8

-- these bytes, at this place
abbrev pub held : ℕ → List ℕ → Piece
held place expected = λ at bytes. (at ≡ place) × (bytes ≡ expected)

-- an index into the constant pool, which names what it is to name
abbrev pub index : List Entry → Wanted → ℕ → Piece
index pool names i = λ at bytes. u2 i at bytes × IsNone (index_fault pool names i)

-- each of these, one behind the other
abbrev pub each : {A : Type 0} → (A → Piece) → List A → Piece
each one [] = nothing
each one (x ∷ xs) = one x ▸ each one xs

-- their count, and each of them
abbrev pub table : {A : Type 0} → (A → Piece) → List A → Piece
table one xs = u2 (length xs) ▸ each one xs
