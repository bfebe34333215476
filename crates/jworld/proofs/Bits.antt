-- One bit of a word, and of a row of words.
use Rattle.std.proofs.Common.{◌≡◌, ℕ, zero, suc, ◌*◌, ◌/◌, ◌%◌, ◌^◌, ◌<◌, max, Bool, true, false, ◌||◌, ◌==◌, List, length, slice_index, slice_set, bit_or, refl, sym, ap, ◌∙◌, ⊎_elim, arith, eq-eqb, ne_eqb, get_or-set_other, get_or-set_same}
use Rattle.std.specs.Int.{bit_at}
use Rattle.std.proofs.lemmas.Bool.{cases_eq, cases_lt}
use Rattle.std.proofs.lemmas.Grind.{one_shifted}
use Rattle.std.proofs.lemmas.List.{get_or_past}
use Rattle.std.proofs.lemmas.Nat.Bits.{bit_at_or, bit_at-lt, bit_at-pow_same, bit_at-pow_other}
use Rattle.jworld.specs.Row.{has_bit}

greater_is_one : (x y : ℕ) → x < 2 → y < 2 → (max x y == 1) ≡ (x == 1 || y == 1)
greater_is_one zero zero p q = refl
greater_is_one zero (suc zero) p q = refl
greater_is_one (suc zero) zero p q = refl
greater_is_one (suc zero) (suc zero) p q = refl
greater_is_one (suc (suc x)) y p q = absurd (omega arith)
greater_is_one x (suc (suc y)) p q = absurd (omega arith)

pub joined : (a b i : ℕ) → (bit_at (bit_or a b) i == 1) ≡ (bit_at a i == 1 || bit_at b i == 1)
joined a b i = rw bit_at_or (greater_is_one (bit_at a i) (bit_at b i) (bit_at-lt a i) (bit_at-lt b i))

power : (k i : ℕ) → (bit_at (2 ^ k) i == 1) ≡ (i == k)
power k i =
    ⊎_elim (λ e. rw e (ap (λ b. b == 1) (bit_at-pow_same k) ∙ sym (eq-eqb k k refl)))
    (λ apart. ap (λ b. b == 1) (bit_at-pow_other k i apart) ∙ sym (ne_eqb i k apart))
    (cases_eq i k)

with_power : (word k i : ℕ) → (bit_at (bit_or word (2 ^ k)) i == 1) ≡ (bit_at word i == 1 || i == k)
with_power word k i = rw (joined, power) refl

or-false : (b : Bool) → (b || false) ≡ b
or-false true = refl
or-false false = refl

-- two numbers of one word
same_bit : (i j : ℕ) → i / 64 ≡ j / 64 → (i % 64 == j % 64) ≡ (i == j)
same_bit i j word =
    ⊎_elim (λ e. rw e (eq-eqb (j % 64) (j % 64) refl ∙ sym (eq-eqb j j refl)))
    (λ apart. let bit : i % 64 ≡ j % 64 → ⊥ = λ e. apart (omega (arith, word, e)) in ne_eqb (i % 64) (j % 64) bit ∙ sym (ne_eqb i j apart))
    (cases_eq i j)

-- one more number
pub has_bit-set : (words : List ℕ) (number j : ℕ) → number / 64 < length words
    → has_bit (slice_set words (number / 64) (bit_or (slice_index words (number / 64)) (1 * 2 ^ (number % 64) % 18446744073709551616))) j ≡ (has_bit words j || j == number)
has_bit-set words number j within =
    let word = slice_index words (number / 64) in
    let small : number % 64 < 64 = omega arith in
    let power_is : 1 * 2 ^ (number % 64) % 18446744073709551616 ≡ 2 ^ (number % 64) = (one_shifted (number % 64) 18446744073709551615 refl small).0 in
    let after = slice_set words (number / 64) (bit_or word (2 ^ (number % 64))) in
    let is : has_bit after j ≡ (has_bit words j || j == number) =
    ⊎_elim
    (λ same.
    let here : slice_index after (j / 64) ≡ bit_or word (2 ^ (number % 64)) = rw same (get_or-set_same words (number / 64) _ 0 within) in
    let bit : (j % 64 == number % 64) ≡ (j == number) = same_bit j number same in
    ap (λ w. bit_at w (j % 64) == 1) here ∙ with_power word (number % 64) (j % 64) ∙ rw (bit, same) refl)
    (λ apart.
    let here : slice_index after (j / 64) ≡ slice_index words (j / 64) = get_or-set_other words (number / 64) (j / 64) _ 0 apart in
    let other : (j == number) ≡ false = ne_eqb j number (λ e. apart (ap (λ n. n / 64) e)) in
    ap (λ w. bit_at w (j % 64) == 1) here ∙ rw other (sym (or-false _)))
    (cases_eq (j / 64) (number / 64)) in
    rw power_is is

-- the words of two rows together; there is no number past the words
pub has_bit-joined : (words mine more : List ℕ) → length words ≡ length more → length mine ≡ length more
    → ((k : ℕ) → k < length more → slice_index words k ≡ bit_or (slice_index mine k) (slice_index more k)) → (j : ℕ) → has_bit words j ≡ (has_bit mine j || has_bit more j)
has_bit-joined words mine more same len done j =
    let k = j / 64 in
    let is : slice_index words k ≡ bit_or (slice_index mine k) (slice_index more k) =
    ⊎_elim (done k)
    (λ over.
    let a : slice_index words k ≡ 0 = get_or_past words k 0 (omega arith) in
    let b : slice_index mine k ≡ 0 = get_or_past mine k 0 (omega arith) in
    let c : slice_index more k ≡ 0 = get_or_past more k 0 (omega arith) in
    rw (a, b, c) refl)
    (cases_lt k (length more)) in
    ap (λ w. bit_at w (j % 64) == 1) is ∙ joined (slice_index mine k) (slice_index more k) (j % 64)
