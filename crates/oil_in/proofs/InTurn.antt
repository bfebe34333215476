-- The elements of a list: one at each place, and each behind those before it.
use Rattle.std.proofs.Common.{◌≡◌, ℕ, zero, suc, ◌<◌, ◌++◌, ◌∷◌, [], List, length, All, Some, refl, subst, arith, length-append}
use Rattle.std.proofs.Math.Seq.{get_or-append_seam}
use Rattle.std.specs.Prelude.{slice_get}
use Rattle.std.proofs.lemmas.Option.{slice_get_within, get_or_from_slice_get}

-- an element stands at each place
pub at_place : {X : Type 0} (xs : List X) (k : ℕ) → k < length xs → (x : X) × (slice_get xs k ≡ Some x)
at_place [] k lt = absurd (omega arith)
at_place (x ∷ xs) zero lt = (x, refl)
at_place (x ∷ xs) (suc k) lt = at_place xs k (omega arith)

pub holds_at : {X : Type 0} (P : X → Type 0) (xs : List X) (k : ℕ) (x : X) → All P xs → slice_get xs k ≡ Some x → P x
holds_at P xs k x each at = subst P (get_or_from_slice_get xs k x x at) (each k x (slice_get_within xs k x at))

-- each element fits behind those before it
abbrev pub InTurn : {X : Type 0} → (List X → X → Type 0) → List X → Type 0
InTurn {X} Fits all = (before : List X) (x : X) (after : List X) → all ≡ before ++ x ∷ after → Fits before x

-- the element there is the one that a list is split at, and it comes behind those before it
pub at_split : {X : Type 0} (P : X → Type 0) (all before : List X) (x : X) (after : List X) → All P all → all ≡ before ++ x ∷ after → P x
at_split {X} P all before x after each e =
    let within : length before < length (before ++ x ∷ after) = omega (arith, length-append before (x ∷ after)) in
    let Each : List X → Type 0 = λ ys. All P ys in
    subst P (get_or-append_seam before x after x) (subst Each e each (length before) x within)
