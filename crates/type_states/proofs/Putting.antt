-- A slot that is written where the slots end before it, and where they don't.
use Rattle.std.proofs.Common.{◌≡◌, ℕ, zero, suc, ◌≤◌, ◌<◌, List, [], ◌∷◌, ◌++◌, length, refl, ap, arith, slice_set}
use Rattle.stackmap.specs.declared.vtype.VType.{VType}
use Rattle.stackmap.specs.declared.vtype.VType.TheVariants.{Top}
use Rattle.type_states.specs.Slots.{put}

pub put-longer : (slots : List VType) (at : ℕ) (t : VType) → length slots ≤ at → put (slots ++ Top ∷ []) at t ≡ put slots at t
put-longer [] zero t le = refl
put-longer [] (suc at) t le = refl
put-longer (s ∷ slots) zero t le = absurd (omega arith)
put-longer (s ∷ slots) (suc at) t le = let le' : length slots ≤ at = omega arith in ap (λ more. s ∷ more) (put-longer slots at t le')

pub put-within : (slots : List VType) (at : ℕ) (t : VType) → at < length slots → slice_set slots at t ≡ put slots at t
put-within [] at t lt = absurd (omega arith)
put-within (s ∷ slots) zero t lt = refl
put-within (s ∷ slots) (suc at) t lt = let lt' : at < length slots = omega arith in ap (λ more. s ∷ more) (put-within slots at t lt')
