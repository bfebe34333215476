-- A number's decimal text is read as the number.
use Rattle.std.proofs.Common.{◌≡◌, ℕ, ◌+◌, ◌*◌, ◌-◌, ◌<◌, ◌≤◌, ◌^◌, false, List, [], ◌∷◌, length, All, Some, decimal, refl, ◌∙◌, arith, lt-ltb, le-leb}
use Rattle.std.specs.Char.{digit_value}
use Rattle.std.specs.Str.Parse.{AllDigits, digits_value_after}
use Rattle.std.proofs.lemmas.Bool.Decides.{nat_tests}
use Rattle.std.proofs.lemmas.Fmt.{decimal_is_IsNumeral, decimal_nonempty}
use Rattle.std.proofs.lemmas.List.Elements.{All-nil, All-cons}
use Rattle.std.proofs.lemmas.Str.Parse.{digit_from_value}
use Rattle.text_words.specs.declared.number.Number.TheVariants.{Value}
use Rattle.text_words.specs.Numbers.{digit, numeral, sized, is_marked, number_of}
use Rattle.script.specs.InForm.{IsWord}

-- the digit `0` and those above it up to `9`
digit_says : (c : ℕ) → 48 ≤ c → c ≤ 57 → digit 10 c ≡ Some (c - 48)
digit_says c low high =
    let small : c - 48 < 10 = omega arith in
    rw (le-leb 48 c low, le-leb c 57 high, lt-ltb (c - 48) 10 small) refl

same_value : (c : ℕ) → 48 ≤ c → c ≤ 57 → digit_value c ≡ c - 48
same_value c low high = grind (arith, nat_tests)

-- digits, going on from a number
numeral_says : (n : ℕ) (ds : List ℕ) → AllDigits 10 ds → numeral 10 n ds ≡ Some (digits_value_after 10 n ds)
numeral_says n [] all = refl
numeral_says n (c ∷ cs) all =
    let within = digit_from_value c all.0 in
    rw (digit_says c within.0 within.1, same_value c within.0 within.1) (numeral_says (n * 10 + (c - 48)) cs all.1)

digits_above : (ds : List ℕ) → AllDigits 10 ds → All (λ byte. 32 < byte) ds
digits_above [] all = All-nil (λ byte. 32 < byte)
digits_above (c ∷ cs) all =
    let within = digit_from_value c all.0 in
    All-cons (λ byte. 32 < byte) c cs (omega (arith, within.0)) (digits_above cs all.1)

pub decimal_is_word : (n : ℕ) → n < 2 ^ 64 → IsWord (decimal n)
decimal_is_word n small = record {
  some = decimal_nonempty n small;
  each = digits_above (decimal n) (decimal_is_IsNumeral n small).0.1;
}

-- digits are no `0x`
unmarked : (ds : List ℕ) → 0 < length ds → AllDigits 10 ds → number_of ds ≡ sized (numeral 10 0 ds)
unmarked [] some all = absurd (omega arith)
unmarked (c ∷ []) some all = refl
unmarked (c ∷ d ∷ ds) some all =
    let within = digit_from_value d all.1.0 in
    let none : is_marked c d ≡ false = grind (arith, nat_tests, within.1) in
    rw none refl

pub decimal_says : (n : ℕ) → n < 2 ^ 64 → number_of (decimal n) ≡ Value n
decimal_says n small =
    let numeral_is = decimal_is_IsNumeral n small in
    let read : numeral 10 0 (decimal n) ≡ Some n = rw (numeral_says 0 (decimal n) numeral_is.0.1, numeral_is.1) refl in
    unmarked (decimal n) numeral_is.0.0 numeral_is.0.1 ∙ rw (read, lt-ltb n (2 ^ 64) small) refl
