-- Reading a class file from the front: a piece answers its value and the scan behind it, or the first fault.
use Rattle.std.specs.Prelude.{◌≡◌, ℕ, zero, suc, ◌+◌, List, [], ◌∷◌, ◌++◌, length, take, drop, Result, Ok, Err, nat_lt, if◌then◌else◌}
use Rattle.byteorder.specs.Endian.{big_number}
use Rattle.kes_text.specs.declared.refusal.Stop.{Stop}
use Rattle.kes_text.specs.declared.refusal.Stop.TheVariants.{Refused, NoMemory}
use Rattle.kes_text.specs.declared.refusal.Kind.{Kind}
use Rattle.kes_text.specs.declared.refusal.Kind.TheVariants as kind
use Rattle.classfile.specs.declared.uses.Use.{Use}
use Rattle.classfile.specs.declared.uses.Use.TheVariants as uses
use Rattle.classfile.specs.declared.uses.Wanted.{Wanted}

-- the whole file, how many of its bytes have been passed over, and the index fields and members among them
pub record Scan : Type 0 where
  pub input : List ℕ
  pub place : ℕ
  pub uses : List Use

-- a value and the scan behind it, or why there is none
abbrev pub Read : Type 0 → Type 0
Read A = Result (A × Scan) Stop

infixl 10 ◌>>=◌
abbrev pub ◌>>=◌ : {A B : Type 0} → Result A Stop → (A → Result B Stop) → Result B Stop
(Ok x) >>= f = f x
(Err e) >>= f = Err e

-- what a call answers is what the definition says, or that there is no memory
abbrev pub OrNoMemory : {A : Type 0} → Result A Stop → Result A Stop → Type 0
OrNoMemory (Ok x) defined = Ok x ≡ defined
OrNoMemory (Err (Refused r)) defined = Err (Refused r) ≡ defined
OrNoMemory (Err NoMemory) defined = Unit {0}

-- the file is refused at a byte
abbrev pub refused : {A : Type 0} → Kind → ℕ → Result A Stop
refused kind at = Err (Refused (record { file = 0; kind = kind; at = at }))

-- so many bytes; where fewer are left, the file is truncated
abbrev pub bytes_at : ℕ → Scan → Read (List ℕ)
bytes_at n s =
    if nat_lt (length (drop s.place s.input)) n
    then refused kind.Truncated (length s.input)
    else Ok (take n (drop s.place s.input), record s { place = s.place + n })

-- a number of so many bytes, the highest first (4)
abbrev pub number_at : ℕ → Scan → Read ℕ
number_at n s = do
  bytes ← bytes_at n s
  Ok (big_number n bytes.0, bytes.1)

-- one more of the index fields and members
abbrev pub noted : Use → Scan → Scan
noted one s = record s { uses = s.uses ++ one ∷ [] }

-- the same place, with nothing passed over
abbrev pub anew : Scan → Scan
anew s = record s { uses = [] }

-- an index field: a number of two bytes, and what it is to name
abbrev pub index_at : Wanted → Scan → Read ℕ
index_at wanted s = do
  index ← number_at 2 s
  Ok (index.0, noted (uses.Index s.place index.0 wanted) index.1)

-- n steps, each from what the one before answers
unfoldable pub repeat : {A : Type 0} → ℕ → (A → Result A Stop) → A → Result A Stop
repeat zero step a = Ok a
repeat (suc n) step a = step a >>= repeat n step

-- one more element
abbrev pub collect : {A : Type 0} → (Scan → Read A) → List A × Scan → Read (List A)
collect one x = do
  element ← one x.1
  Ok (x.0 ++ element.0 ∷ [], element.1)

-- n elements, one after the other
abbrev pub many : {A : Type 0} → ℕ → (Scan → Read A) → Scan → Read (List A)
many n one s = repeat n (collect one) ([], s)
