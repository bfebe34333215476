-- The mask of events, one event after the other.
use Rattle.std.proofs.Common.{◌≡◌, ℕ, suc, ◌+◌, ◌*◌, ◌%◌, ◌^◌, ◌<◌, List, ◌∷◌, map, length, drop, get_or, bit_or, Bor, Option, Some, None, refl, sym, ap, ◌∙◌, arith}
use Rattle.std.proofs.Math.Seq.{drop-cons}
use Rattle.std.proofs.lemmas.Grind.{one_shifted}
use Rattle.kconfig.specs.declared.config.NameLine.{NameLine}
use Rattle.kconfig.specs.Names.{named}
use Rattle.kconfig.specs.Methods.{mask_with}

cut : (names : List (Bor (List ℕ))) (i : ℕ) (d : Bor (List ℕ)) → i < length names
    → map (λ name. name.now) (drop i names) ≡ (get_or names i d).now ∷ map (λ name. name.now) (drop (i + 1) names)
cut names i d within =
    let e : suc i ≡ i + 1 = omega arith in
    let f : List (Bor (List ℕ)) → List (List ℕ) = λ ns. map (λ name. name.now) ns in
    let one : drop i names ≡ get_or names i d ∷ drop (i + 1) names = rw (← e) (drop-cons names i d within) in
    ap f one

pub mask_more : (events : List NameLine) (mask k : ℕ) (names : List (Bor (List ℕ))) (i : ℕ) (d : Bor (List ℕ)) (total : Option ℕ) → i < length names
    → Some k ≡ named events (get_or names i d).now → k < 32
    → mask_with events mask (map (λ name. name.now) (drop i names)) ≡ total
    → mask_with events (bit_or mask (1 * 2 ^ k % 4294967296)) (map (λ name. name.now) (drop (i + 1) names)) ≡ total
mask_more events mask k names i d total within is small so_far =
    let shift : 1 * 2 ^ k % 4294967296 ≡ 2 ^ k = (one_shifted k 4294967295 refl small).0 in
    let f : List (List ℕ) → Option ℕ = mask_with events mask in
    let here : mask_with events mask (map (λ name. name.now) (drop i names)) ≡ mask_with events mask ((get_or names i d).now ∷ map (λ name. name.now) (drop (i + 1) names)) = ap f (cut names i d within) in
    let one : mask_with events mask ((get_or names i d).now ∷ map (λ name. name.now) (drop (i + 1) names)) ≡ mask_with events (bit_or mask (2 ^ k)) (map (λ name. name.now) (drop (i + 1) names)) = rw (← is) refl in
    rw shift (sym one ∙ sym here ∙ so_far)

pub mask_ends : (events : List NameLine) (mask : ℕ) (names : List (Bor (List ℕ))) (i : ℕ) (d : Bor (List ℕ)) (total : Option ℕ) → i < length names
    → None ≡ named events (get_or names i d).now
    → mask_with events mask (map (λ name. name.now) (drop i names)) ≡ total → None ≡ total
mask_ends events mask names i d total within is so_far =
    let f : List (List ℕ) → Option ℕ = mask_with events mask in
    let here : mask_with events mask (map (λ name. name.now) (drop i names)) ≡ mask_with events mask ((get_or names i d).now ∷ map (λ name. name.now) (drop (i + 1) names)) = ap f (cut names i d within) in
    let one : mask_with events mask ((get_or names i d).now ∷ map (λ name. name.now) (drop (i + 1) names)) ≡ None = rw (← is) refl in
    sym one ∙ sym here ∙ so_far
