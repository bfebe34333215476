-- What is read where a form stands at the front of the bytes.
use Rattle.std.proofs.Common.{◌≡◌, ℕ, zero, suc, ◌<◌, ◌^◌, ◌++◌, [], ◌∷◌, List, Bool, true, codes, decimal, length, All, Option, Some, None, refl, ap, ◌∙◌, arith, le-leb, lt-ltb}
use Rattle.std.proofs.Math.Seq.{take-append_seam, drop-append_seam}
use Rattle.std.specs.List.{prefix_len}
use Rattle.std.specs.Str.Parse.{AllDigits}
use Rattle.std.proofs.lemmas.Fmt.{decimal_is_IsNumeral, digits_value-decimal}
use Rattle.std.proofs.lemmas.Slice.Eq.{bytes_eq-Decides}
use Rattle.std.proofs.lemmas.Str.Parse.{IsNumeralModel, numerals_by_fold, tells_digits, digit_from_value}
use Rattle.osek_core.specs.declared.tables.Name.{Name}
use Rattle.oil_out.specs.OilText.{header, object}
use Rattle.oil_in.specs.declared.pieces.Number.{Number}
use Rattle.oil_in.specs.declared.pieces.Number.TheVariants.{Value}
use Rattle.oil_in.specs.Pieces.{◌>>=◌, is_name_byte, is_digit, value, numeral, run, named, behind, name_at, number_at}
use Rattle.oil_in.specs.Forms.{name_in, number_in}
use Rattle.oil_in.specs.Says.{IsName}
use Rattle.oil_in.proofs.PieceLemmas.{behind-front}
use Rattle.oil_in.proofs.TextOfForms.{regroup}

all_pass : (passes : ℕ → Bool) (xs rest : List ℕ) → All (λ c. passes c ≡ true) xs → prefix_len passes rest ≡ 0 → prefix_len passes (xs ++ rest) ≡ length xs
all_pass passes [] rest all stops = stops
all_pass passes (c ∷ xs) rest all stops =
    let more : prefix_len passes (xs ++ rest) ≡ length xs = all_pass passes xs rest (λ k d lt. all (suc k) d (omega arith)) stops in
    let here : passes c ≡ true = all 0 c (omega arith) in
    rw here (omega (arith, more))

-- a run of bytes that pass, before one that doesn't
run-front : (passes : ℕ → Bool) (xs rest : List ℕ) → All (λ c. passes c ≡ true) xs → prefix_len passes rest ≡ 0 → run passes (xs ++ rest) ≡ (xs, rest)
run-front passes xs rest all stops =
    rw (all_pass passes xs rest all stops, take-append_seam xs rest, drop-append_seam xs rest) refl

name-front : (name : Name) (rest : List ℕ) → IsName name → prefix_len is_name_byte rest ≡ 0 → name_at (name.text ++ rest) ≡ Some (name.text, rest)
unfolding name_at
name-front name rest is stops =
    ap named (run-front is_name_byte name.text rest is.each stops) ∙ rw (is.begins, le-leb (length name.text) 32 is.short) refl

digits_pass : (ds : List ℕ) → AllDigits 10 ds → All (λ c. is_digit c ≡ true) ds
digits_pass [] all k d lt = absurd (omega arith)
digits_pass (c ∷ cs) all zero d lt =
    let within = digit_from_value c all.0 in
    rw (le-leb 48 c within.0, le-leb c 57 within.1) refl
digits_pass (c ∷ cs) all (suc k) d lt = digits_pass cs all.1 k d (omega arith)

digits_model : IsNumeralModel (AllDigits 10) (value 0)
digits_model = numerals_by_fold (AllDigits 10) tells_digits value (record { empty = λ n. refl; more = λ n c cs within. refl })

numeral-decimal : (n : ℕ) → n < 2 ^ 64 → numeral (decimal n) ≡ Some (Value n)
numeral-decimal n small =
    rw (digits_value-decimal digits_model n small, lt-ltb n (2 ^ 64) small, (bytes_eq-Decides (decimal n) (decimal n)).1 refl) refl

number-front : (n : ℕ) (rest : List ℕ) → n < 2 ^ 64 → prefix_len is_digit rest ≡ 0 → number_at (decimal n ++ rest) ≡ Some (Value n, rest)
unfolding number_at
number-front n rest small stops =
    let front : run is_digit (decimal n ++ rest) ≡ (decimal n, rest) = run-front is_digit (decimal n) rest (digits_pass (decimal n) (decimal_is_IsNumeral n small).0.1) stops in
    ap (λ (word : List ℕ × List ℕ). numeral word.0 >>= λ number. Some (number, word.1)) front ∙ ap (λ (number : Option Number). number >>= λ m. Some (m, rest)) (numeral-decimal n small)

pub name_in-front : (front back : List ℕ) (name : Name) (rest : List ℕ) → IsName name → prefix_len is_name_byte (back ++ rest) ≡ 0
    → name_in front back (front ++ (name.text ++ (back ++ rest))) ≡ Some (name.text, rest)
unfolding name_in
name_in-front front back name rest is stops =
    rw (behind-front front (name.text ++ (back ++ rest)), name-front name (back ++ rest) is stops, behind-front back rest) refl

pub number_in-front : (front back : List ℕ) (n : ℕ) (rest : List ℕ) → n < 2 ^ 64 → prefix_len is_digit (back ++ rest) ≡ 0
    → number_in front back (front ++ (decimal n ++ (back ++ rest))) ≡ Some (Value n, rest)
unfolding number_in
number_in-front front back n rest small stops =
    rw (behind-front front (decimal n ++ (back ++ rest)), number-front n (back ++ rest) small stops, behind-front back rest) refl

pub name_in-none : (front back bytes : List ℕ) → behind front bytes ≡ None → name_in front back bytes ≡ None
unfolding name_in
name_in-none front back bytes e = rw e refl

-- an object's first line, and what is behind it
pub object-front : (kind prefix : List ℕ) (name : Name) (attributes text rest : List ℕ) → IsName name → text ≡ object kind (prefix ++ name.text) attributes ++ rest
    → name_in (codes "  " ++ kind ++ codes " " ++ prefix) (codes " {\n") text ≡ Some (name.text, attributes ++ (codes "  };\n" ++ rest))
unfolding header
object-front kind prefix name attributes text rest is e =
    ap (name_in (codes "  " ++ kind ++ codes " " ++ prefix) (codes " {\n")) (e ∙ regroup (codes "  ") kind (codes " ") prefix name.text (codes " {\n") attributes (codes "  };\n") rest)
    ∙ name_in-front (codes "  " ++ kind ++ codes " " ++ prefix) (codes " {\n") name (attributes ++ (codes "  };\n" ++ rest)) is refl
