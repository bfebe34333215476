-- A name up to its last slash.
use Rattle.std.proofs.Common.{◌≡◌, ℕ, zero, suc, ◌<◌, ◌==◌, Bool, true, false, List, [], ◌∷◌, length, take, slice_index, ◌⊎◌, inr, ⊎_elim, refl, ap, arith, eq-eqb}
use Rattle.std.specs.List.{list_any}
use Rattle.std.proofs.lemmas.Bool.{cases_lt}
use Rattle.std.proofs.lemmas.List.{get_or_past}
use Rattle.std.proofs.lemmas.List.Folds.{list_any_at}
use Rattle.jworld.specs.Packages.{package_of}

abbrev is_slash : ℕ → Bool
is_slash c = c == 47

none_later : (xs : List ℕ) → ((k : ℕ) → k < length xs → is_slash (slice_index xs k) ≡ false) → list_any is_slash xs ≡ false
none_later [] none = refl
none_later (x ∷ xs) none =
    let here : is_slash x ≡ false = none 0 (omega arith) in
    let behind : list_any is_slash xs ≡ false = none_later xs (λ k within. none (suc k) (omega arith)) in
    rw (here, behind) refl

a_slash : (xs : List ℕ) (end : ℕ) → slice_index xs end ≡ 47 → list_any is_slash xs ≡ true
a_slash xs end at =
    ⊎_elim (λ within. list_any_at is_slash xs end 0 within (eq-eqb _ 47 at))
    (λ past. let none : slice_index xs end ≡ 0 = get_or_past xs end 0 past in absurd (omega arith))
    (cases_lt end (length xs))

pub package_of-take : (xs : List ℕ) (end : ℕ) → (end ≡ 0) ⊎ (slice_index xs end ≡ 47) → ((k : ℕ) → end < k → k < length xs → is_slash (slice_index xs k) ≡ false)
    → take end xs ≡ package_of xs
unfolding package_of
package_of-take [] zero slash last = refl
package_of-take [] (suc end) slash last = refl
package_of-take (x ∷ xs) zero slash last =
    let none : list_any is_slash xs ≡ false = none_later xs (λ k within. last (suc k) (omega arith) (omega arith)) in
    rw none refl
package_of-take (x ∷ xs) (suc end) slash last =
    let at : slice_index xs end ≡ 47 = ⊎_elim (λ e. absurd (omega arith)) (λ s. s) slash in
    let some : list_any is_slash xs ≡ true = a_slash xs end at in
    rw some (ap (λ (ys : List ℕ). x ∷ ys) (package_of-take xs end (inr at) (λ k after within. last (suc k) (omega arith) (omega arith))))
