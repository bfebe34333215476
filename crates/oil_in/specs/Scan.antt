-- Reading a text line by line: a part of it answers its value and the scan behind it, or the first fault.
use Rattle.std.specs.Prelude.{◌≡◌, ℕ, zero, suc, ◌+◌, ◌-◌, ◌^◌, min, List, [], ◌∷◌, ◌++◌, Option, Some, None, Result, Ok, Err, nat_le, ◌&&◌, if◌then◌else◌}
use Rattle.kes_text.specs.declared.refusal.Kind.{Kind}
use Rattle.kes_text.specs.declared.refusal.Kind.TheVariants as kind
use Rattle.kes_text.specs.declared.refusal.Stop.{Stop}
use Rattle.kes_text.specs.declared.refusal.Stop.TheVariants.{Refused, NoMemory}
use Rattle.oil_in.specs.declared.pieces.Number.{Number}
use Rattle.oil_in.specs.declared.pieces.Number.TheVariants.{Large, Value}
use Rattle.oil_in.specs.Forms.{number_line}

-- the bytes that are left, and the number of the line that begins there, from 1
pub record Scan : Type 0 where
  pub text : List ℕ
  pub line : ℕ

-- a value and the scan behind it, or why there is none
abbrev pub Read : Type 0 → Type 0
Read A = Result (A × Scan) Stop

infixl 10 ◌>>=◌
abbrev pub ◌>>=◌ : {A B : Type 0} → Result A Stop → (A → Result B Stop) → Result B Stop
(Ok x) >>= f = f x
(Err e) >>= f = Err e

-- what a call answers, seen by view, is what the definition says, or that there is no memory
abbrev pub Stops : {Y : Type 0} → Stop → Result Y Stop → Type 0
Stops (Refused r) defined = defined ≡ Err (Refused r)
Stops NoMemory defined = Unit {0}

abbrev pub Answers : {X Y : Type 0} → (X → Y) → Result X Stop → Result Y Stop → Type 0
Answers view (Ok x) defined = defined ≡ Ok (view x)
Answers view (Err stop) defined = Stops stop defined

-- the text is refused at this line
abbrev pub refused : {A : Type 0} → Kind → Scan → Result A Stop
refused kind s = Err (Refused (record { file = 0; kind = kind; at = s.line }))

-- the scan at the next line; a number of 64 bits stands still at its end
abbrev pub next : Scan → List ℕ → Scan
next s rest = record { text = rest; line = min (s.line + 1) (2 ^ 64 - 1) }

-- a line of a form. Where it isn't there, what stands there is no form.
abbrev pub line : {X : Type 0} → Option (X × List ℕ) → Scan → Read X
line None s = refused kind.Syntax s
line (Some x) s = Ok (x.0, next s x.1)

-- a line with nothing to know of it
abbrev pub fixed : Option (List ℕ) → Scan → Result Scan Stop
fixed None s = refused kind.Syntax s
fixed (Some rest) s = Ok (next s rest)

-- the number, if it is within its bounds
abbrev pub within : ℕ → ℕ → Number → Option ℕ
within low high Large = None
within low high (Value n) = if nat_le low n && nat_le n high then Some n else None

abbrev pub ranged : Option ℕ → Scan → Scan → Read ℕ
ranged None s behind = refused kind.Range s
ranged (Some n) s behind = Ok (n, behind)

-- an attribute whose number has bounds
unfoldable pub number_between : List ℕ → ℕ → ℕ → Scan → Read ℕ
number_between front low high s = do
  number ← line (number_line front s.text) s
  ranged (within low high number.0) s number.1

-- where the line has the form
abbrev pub where_formed : {A H : Type 0} → Option H → (H → A) → A → A
where_formed None more done = done
where_formed (Some h) more done = more h

-- Objects of one kind, as long as lines of their first form follow, at most so many more than those before.
unfoldable pub many : {X : Type 0} → (List ℕ → Option (List ℕ × List ℕ)) → (List X → List ℕ × List ℕ → Scan → Read X) → ℕ → List X → Scan → Read (List X)
many form object zero xs s = where_formed (form s.text) (λ h. refused kind.Room s) (Ok (xs, s))
many form object (suc room) xs s = where_formed (form s.text) (λ h. object xs h s >>= λ x. many form object room (xs ++ x.0 ∷ []) x.1) (Ok (xs, s))
