-- What may stop: one part after the other, and what a call answers of it.
use Rattle.std.specs.Prelude.{◌≡◌, Result, Ok, Err}
use Rattle.kes_text.specs.declared.refusal.Stop.{Stop}
use Rattle.kes_text.specs.declared.refusal.Stop.TheVariants.{Refused, NoMemory}

infixl 10 ◌>>=◌
abbrev pub ◌>>=◌ : {A B : Type 0} → Result A Stop → (A → Result B Stop) → Result B Stop
(Ok x) >>= f = f x
(Err e) >>= f = Err e

-- what a call answers is what the definition says, or that there is no memory
abbrev pub OrNoMemory : {A : Type 0} → Result A Stop → Result A Stop → Type 0
OrNoMemory (Ok x) defined = Ok x ≡ defined
OrNoMemory (Err (Refused r)) defined = Err (Refused r) ≡ defined
OrNoMemory (Err NoMemory) defined = Unit {0}

-- the same of an answer that is seen by a view
abbrev pub Stops : {A : Type 0} → Stop → Result A Stop → Type 0
Stops (Refused r) defined = defined ≡ Err (Refused r)
Stops NoMemory defined = Unit {0}

abbrev pub Answers : {A B : Type 0} → (A → B) → Result A Stop → Result B Stop → Type 0
Answers view (Ok x) defined = defined ≡ Ok (view x)
Answers view (Err stop) defined = Stops stop defined
