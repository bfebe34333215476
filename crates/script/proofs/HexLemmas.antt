-- The bytes of a poke, written as pairs of digits, are read as these bytes.
use Rattle.std.proofs.Common.{◌≡◌, ℕ, zero, suc, ◌+◌, ◌*◌, ◌/◌, ◌%◌, ◌<◌, ◌≤◌, ◌^◌, true, List, [], ◌∷◌, length, take, drop, get_or, All, Some, flat_map, map, refl, ap, sym, ◌∙◌, arith, le-leb, ⊎_elim, ◌-◌}
use Rattle.std.specs.List.{list_all, range_with_len}
use Rattle.std.proofs.lemmas.Bool.Decides.{nat_tests}
use Rattle.std.proofs.lemmas.Bool.{cases_lt}
use Rattle.std.proofs.lemmas.List.{length-take, length-drop, get_or-take, get_or-drop, get_or_past, ext_get_or}
use Rattle.std.proofs.lemmas.List.FromFn.{get_or-map-range_with_len}
use Rattle.std.proofs.lemmas.List.Elements.{All-nil, All-cons, All-head, All-tail, All-take}
use Rattle.osek_core.specs.declared.moves.PokeBytes.{PokeBytes}
use Rattle.text_words.specs.Numbers.{digit}
use Rattle.script.specs.Hex.{is_digit, is_hex, digit_at, byte_at, poke_bytes, hex_digit, hex_byte}
use Rattle.script.specs.InForm.{IsWord, IsPoked}

abbrev pub hex_text : PokeBytes → List ℕ
hex_text poked = flat_map hex_byte (take poked.len poked.bytes)

-- a digit below 16 says its number
digit_says : (n : ℕ) → n < 16 → digit 16 (hex_digit n) ≡ Some n
digit_says n small = grind (arith, nat_tests)

digit_above : (n : ℕ) → 32 < hex_digit n
digit_above n = grind (arith, nat_tests)

text_above : (bytes : List ℕ) → All (λ byte. 32 < byte) (flat_map hex_byte bytes)
text_above [] = All-nil (λ byte. 32 < byte)
text_above (b ∷ bytes) =
    All-cons (λ byte. 32 < byte) (hex_digit (b / 16)) (hex_digit (b % 16) ∷ flat_map hex_byte bytes) (digit_above (b / 16))
    (All-cons (λ byte. 32 < byte) (hex_digit (b % 16)) (flat_map hex_byte bytes) (digit_above (b % 16)) (text_above bytes))

text_digits : (bytes : List ℕ) → All (λ byte. byte < 2 ^ 8) bytes → list_all is_digit (flat_map hex_byte bytes) ≡ true
text_digits [] each = refl
text_digits (b ∷ bytes) each =
    let here : b < 2 ^ 8 = All-head (λ byte. byte < 2 ^ 8) b bytes each in
    let more = text_digits bytes (All-tail (λ byte. byte < 2 ^ 8) b bytes each) in
    rw (digit_says (b / 16) (omega arith), digit_says (b % 16) (omega arith), more) refl

text_length : (bytes : List ℕ) → length (flat_map hex_byte bytes) ≡ 2 * length bytes
text_length [] = refl
text_length (b ∷ bytes) = omega (arith, text_length bytes)

skip_two : (c d : ℕ) (text : List ℕ) (m n : ℕ) → m ≡ suc (suc n) → digit_at (c ∷ d ∷ text) m ≡ digit_at text n
skip_two c d text m n e = rw e refl

-- the byte of a pair, and 0 behind the last
byte_says : (bytes : List ℕ) (k : ℕ) → All (λ byte. byte < 2 ^ 8) bytes → byte_at (flat_map hex_byte bytes) k ≡ get_or bytes k 0
byte_says [] k each = refl
byte_says (b ∷ bytes) zero each =
    let here : b < 2 ^ 8 = All-head (λ byte. byte < 2 ^ 8) b bytes each in
    rw (digit_says (b / 16) (omega arith), digit_says (b % 16) (omega arith)) (omega arith)
byte_says (b ∷ bytes) (suc k) each =
    let more = byte_says bytes k (All-tail (λ byte. byte < 2 ^ 8) b bytes each) in
    let high = skip_two (hex_digit (b / 16)) (hex_digit (b % 16)) (flat_map hex_byte bytes) (2 * suc k) (2 * k) (omega arith) in
    let low = skip_two (hex_digit (b / 16)) (hex_digit (b % 16)) (flat_map hex_byte bytes) (2 * suc k + 1) (2 * k + 1) (omega arith) in
    rw (high, low) more

-- as many bytes as are poked
taken : (poked : PokeBytes) → IsPoked poked → length (take poked.len poked.bytes) ≡ poked.len
taken poked is = let most = is.at_most in let all = is.all in omega (arith, length-take poked.len poked.bytes)

pub hex_is_word : (poked : PokeBytes) → IsPoked poked → IsWord (hex_text poked)
hex_is_word poked is = record {
  some = omega (arith, text_length (take poked.len poked.bytes), taken poked is, is.at_least);
  each = text_above (take poked.len poked.bytes);
}

pub hex_has_form : (poked : PokeBytes) → IsPoked poked → is_hex (hex_text poked) ≡ true
hex_has_form poked is =
    let size : length (hex_text poked) ≡ 2 * poked.len = omega (arith, text_length (take poked.len poked.bytes), taken poked is) in
    let low : 1 ≤ 2 * poked.len = omega (arith, is.at_least) in
    let high : 2 * poked.len ≤ 16 = omega (arith, is.at_most) in
    let even : (2 * poked.len) % 2 ≡ 0 = omega arith in
    rw (size, le-leb 1 (2 * poked.len) low, le-leb (2 * poked.len) 16 high, even, text_digits (take poked.len poked.bytes) (All-take (λ byte. byte < 2 ^ 8) poked.len poked.bytes is.each)) refl

-- a byte behind those that are poked is 0
padded : (poked : PokeBytes) → IsPoked poked → (k : ℕ) → k < 8 → get_or (take poked.len poked.bytes) k 0 ≡ get_or poked.bytes k 0
padded poked is k within = ⊎_elim
    (λ before. get_or-take poked.len poked.bytes k 0 before)
    (λ behind.
    let e : poked.len + (k - poked.len) ≡ k = omega arith in
    let past : length (take poked.len poked.bytes) ≤ k = omega (arith, taken poked is) in
    let left : k - poked.len < length (drop poked.len poked.bytes) = omega (arith, length-drop poked.len poked.bytes, is.all) in
    let at : ℕ → ℕ = λ n. get_or poked.bytes n 0 in
    get_or_past (take poked.len poked.bytes) k 0 past ∙ sym (is.zeros (k - poked.len) 0 left) ∙ get_or-drop poked.len poked.bytes (k - poked.len) 0 ∙ ap at e)
    (cases_lt k poked.len)

pub hex_says : (poked : PokeBytes) → IsPoked poked → poke_bytes (hex_text poked) ≡ poked
hex_says poked is =
    let size : length (hex_text poked) / 2 ≡ poked.len = omega (arith, text_length (take poked.len poked.bytes), taken poked is) in
    let bytes : List ℕ = map (byte_at (hex_text poked)) (range_with_len 0 8) in
    let same : bytes ≡ poked.bytes = ext_get_or 0 bytes poked.bytes (sym is.all) (λ k within.
    get_or-map-range_with_len (byte_at (hex_text poked)) 0 8 k k 0 within (omega arith)
    ∙ byte_says (take poked.len poked.bytes) k (All-take (λ byte. byte < 2 ^ 8) poked.len poked.bytes is.each)
    ∙ padded poked is k within) in
    let with_len : ℕ → PokeBytes = λ n. record { len = n; bytes = bytes } in
    let with_bytes : List ℕ → PokeBytes = λ bs. record { len = poked.len; bytes = bs } in
    ap with_len size ∙ ap with_bytes same
