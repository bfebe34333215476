-- What loops over lists of things to print keep.
use Rattle.std.proofs.Common.{◌≡◌, ℕ, zero, suc, ◌+◌, ◌-◌, ◌<◌, ◌≤◌, List, [], ◌∷◌, ◌++◌, flat_map, codes, append_assoc, add-one, ap, refl, arith}
use Rattle.std.proofs.lemmas.Grind.{flat_map-append}
use Rattle.std.proofs.lemmas.List.{append-nil}
use Rattle.std.specs.List.{join_by, range_with_len}
use Rattle.csubset.specs.Text.Names.{word_name}
use Rattle.csubset.specs.Text.Program.{parameters_text}

-- the first piece, and then each other one behind the separator
pub join_by-appended : {X : Type 0} (f : X → List ℕ) (separator : List ℕ) (x : X) (others all : List X) (old one new : List ℕ) → all ≡ x ∷ others → one ≡ old ++ f x → new ≡ one ++ flat_map (λ y. separator ++ f y) others → new ≡ old ++ join_by f separator all
join_by-appended f separator x others all old one new is first more = rw (more, first, is) (simp append_assoc)

range_with_len_more : (a n j : ℕ) → a + n ≡ j → range_with_len a (n + 1) ≡ range_with_len a n ++ j ∷ []
range_with_len_more a zero j at = ap (λ k. k ∷ []) (omega arith)
range_with_len_more a (suc n) j at =
    let next : (a + 1) + n ≡ j = omega arith in
    let one : n + 1 ≡ suc n = omega arith in
    rw add-one (ap (λ ks. a ∷ ks) (rw one at (range_with_len_more (a + 1) n j next)))

-- a loop over the numbers from a on, at its next number j
pub range_step : (f : ℕ → List ℕ) (a j : ℕ) (old before after : List ℕ) → a ≤ j → before ≡ old ++ flat_map f (range_with_len a (j - a)) → after ≡ before ++ f j → after ≡ old ++ flat_map f (range_with_len a (j + 1 - a))
range_step f a j old before after from so_far next =
    let count : j + 1 - a ≡ (j - a) + 1 = omega arith in
    let at : a + (j - a) ≡ j = omega arith in
    rw (next, so_far, count, range_with_len_more a (j - a) j at, flat_map-append f (range_with_len a (j - a)) (j ∷ []), append-nil (f j)) (simp append_assoc)

-- the parameters, of which there is one at least
pub parameters-appended : (n : ℕ) (old one new : List ℕ) → 0 < n → one ≡ old ++ (codes "W " ++ word_name 0) → new ≡ one ++ flat_map (λ k. codes ", " ++ (codes "W " ++ word_name k)) (range_with_len 1 (n - 1)) → new ≡ old ++ parameters_text n
parameters-appended zero old one new some first more = absurd (omega arith)
parameters-appended (suc n) old one new some first more =
    let count : suc n - 1 ≡ n = omega arith in
    join_by-appended (λ k. codes "W " ++ word_name k) (codes ", ") 0 (range_with_len 1 n) (range_with_len 0 (suc n)) old one new refl first (rw count at more)

-- the body of a program, part by part
pub body_parts : (old device tasks resources events alarms regions declarations definitions opening starts closing lines : List ℕ) →
    (((((((((old ++ device) ++ tasks) ++ resources) ++ events) ++ alarms) ++ regions) ++ declarations) ++ definitions) ++ (opening ++ starts ++ closing)) ++ lines
    ≡ old ++ (device ++ tasks ++ resources ++ events ++ alarms ++ regions ++ declarations ++ definitions ++ opening ++ starts ++ closing ++ lines)
body_parts old device tasks resources events alarms regions declarations definitions opening starts closing lines = simp append_assoc
