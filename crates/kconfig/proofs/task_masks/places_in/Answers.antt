use Rattle.std.proofs.Common.{◌^◌, ◌/◌, ◌++◌, ◌∷◌, [], ℕ, List, ap, ◌∙◌, eqb, bit_and, if◌then◌else◌}
use Rattle.std.proofs.lemmas.Nat.Bits.{shr_and_one}
use Rattle.kconfig.specs.Tables.{places_where}
use Rattle.kconfig.specs.Masks.{is_set}
use Rattle.kconfig.proofs.Filling.{places_more}
use Rattle.kconfig.proofs.task_masks.places_in.Goals as goal

pub loop-place-preserved : goal.loop-place-preserved
loop-place-preserved c =
    let place = c.loop-place.place in
    let test : ℕ → List ℕ = λ bit. places_where (is_set c.args.mask) place ++ (if eqb bit 1 then place ∷ [] else []) in
    let so_far : List ℕ → List ℕ = λ places. places ++ (if eqb (bit_and (c.args.mask / 2 ^ place) 1) 1 then place ∷ [] else []) in
    rw (places_more (is_set c.args.mask) place) (c.in_ok-push_if.ensures ∙ ap so_far c.loop-place.invariant ∙ ap test (shr_and_one c.args.mask place))
