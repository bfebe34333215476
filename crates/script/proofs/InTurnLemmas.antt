-- Steps in turn, as a loop over the elements takes them.
use Rattle.std.proofs.Common.{◌≡◌, List, [], ◌∷◌, Result, Ok, Err, refl, sym, ◌∙◌}
use Rattle.kes_text.specs.declared.refusal.Stop.{Stop}
use Rattle.kes_text.specs.declared.refusal.Stop.TheVariants.{Refused, NoMemory}
use Rattle.kes_text.specs.Answers.{OrNoMemory, Answers, ◌>>=◌}
use Rattle.script.specs.InTurn.{in_turn}

next : {S X : Type 0} (step : S → X → Result S Stop) (s : S) (x : X) (xs : List X)
    → in_turn step s (x ∷ xs) ≡ (step s x >>= λ t. in_turn step t xs)
unfolding in_turn
next step s x xs = refl

pub goes_on : {S X : Type 0} (step : S → X → Result S Stop) (s t : S) (x : X) (xs : List X) (total : Result S Stop)
    → Ok t ≡ step s x → in_turn step s (x ∷ xs) ≡ total → in_turn step t xs ≡ total
goes_on step s t x xs total h so_far =
    let one : in_turn step s (x ∷ xs) ≡ in_turn step t xs = rw (next step s x xs, ← h) refl in
    sym one ∙ so_far

refused : {S X : Type 0} (step : S → X → Result S Stop) (s : S) (x : X) (xs : List X) (e : Stop) (total : Result S Stop)
    → Err e ≡ step s x → in_turn step s (x ∷ xs) ≡ total → Err e ≡ total
refused step s x xs e total h so_far =
    let one : in_turn step s (x ∷ xs) ≡ Err e = rw (next step s x xs, ← h) refl in
    sym one ∙ so_far

-- a step that stops ends them all
pub ends : {S X : Type 0} (step : S → X → Result S Stop) (s : S) (x : X) (xs : List X) (e : Stop) (total : Result S Stop)
    → OrNoMemory (Err e) (step s x) → in_turn step s (x ∷ xs) ≡ total → OrNoMemory (Err e) total
ends step s x xs (Refused r) total h so_far = refused step s x xs (Refused r) total h so_far
ends step s x xs NoMemory total h so_far = tt

pub done : {S X : Type 0} (step : S → X → Result S Stop) (s : S) (total : Result S Stop) → in_turn step s [] ≡ total → Ok s ≡ total
unfolding in_turn
done step s total h = h

-- what stops stops also what is made of it
pub answered : {S A B : Type 0} (view : S → B) (seen : A → B) (r : Result S Stop) (e : Stop) → OrNoMemory (Err e) r
    → Answers seen (Err e) (r >>= λ s. Ok (view s))
answered view seen r (Refused d) h = rw (← h) refl
answered view seen r NoMemory h = tt
