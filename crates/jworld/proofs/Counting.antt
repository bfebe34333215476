-- How many numbers below a bound pass a test.
use Rattle.std.proofs.Common.{◌≡◌, ℕ, zero, suc, ◌+◌, ◌<◌, ◌≤◌, Bool, true, false, cond, refl, ap, ⊎_elim, arith}
use Rattle.std.proofs.lemmas.Bool.{cases_lt}

abbrev one_if : Bool → ℕ
one_if b = cond b 1 0

abbrev pub number_below : (ℕ → Bool) → ℕ → ℕ
number_below p zero = 0
number_below p (suc n) = one_if (p n) + number_below p n

one_more : (a b : Bool) → (a ≡ true → b ≡ true) → one_if a ≤ one_if b
one_more true b h = rw (h refl) (omega arith)
one_more false b h = omega arith

at_most_one : (a : Bool) → one_if a ≤ 1
at_most_one true = omega arith
at_most_one false = omega arith

module _ (p q : ℕ → Bool) (weaker : (x : ℕ) → p x ≡ true → q x ≡ true) where
  no_more : (n : ℕ) → number_below p n ≤ number_below q n
  no_more zero = omega arith
  no_more (suc n) = omega (arith, no_more n, one_more (p n) (q n) (weaker n))

  -- where q holds of one more
  pub fewer_below : (n x : ℕ) → x < n → p x ≡ false → q x ≡ true → number_below p n < number_below q n
  fewer_below zero x h fails passes = absurd (omega arith)
  fewer_below (suc n) x h fails passes =
      ⊎_elim
      (λ below. omega (arith, fewer_below n x below fails passes, one_more (p n) (q n) (weaker n)))
      (λ here.
      let e : x ≡ n = omega arith in
      let no' : p n ≡ false = rw e at fails in
      let yes' : q n ≡ true = rw e at passes in
      let zero' : one_if (p n) ≡ 0 = ap one_if no' in
      let one : one_if (q n) ≡ 1 = ap one_if yes' in
      omega (arith, no_more n, zero', one))
      (cases_lt x n)

all_below : (p : ℕ → Bool) (n : ℕ) → number_below p n ≤ n
all_below p zero = omega arith
all_below p (suc n) = omega (arith, all_below p n, at_most_one (p n))

-- where one fails
pub not_all_below : (p : ℕ → Bool) (n x : ℕ) → x < n → p x ≡ false → number_below p n < n
not_all_below p zero x h fails = absurd (omega arith)
not_all_below p (suc n) x h fails =
    ⊎_elim
    (λ below. omega (arith, not_all_below p n x below fails, at_most_one (p n)))
    (λ here.
    let e : x ≡ n = omega arith in
    let no' : p n ≡ false = rw e at fails in
    let zero' : one_if (p n) ≡ 0 = ap one_if no' in
    omega (arith, all_below p n, zero'))
    (cases_lt x n)
