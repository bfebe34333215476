-- What stands where a line was said without a fault.
use Rattle.std.proofs.Common.{◌≡◌, ◌≤◌, ℕ, Bool, true, false, ◌&&◌, ◌||◌, true≢false, List, Option, Some, None, Result, Ok, Err, is_none, nat_le, refl, sym, arith, bytes_eq}
use Rattle.std.proofs.lemmas.Slice.Eq.{bytes_eq-Decides}
use Rattle.std.proofs.lemmas.Bool.Decides.{nat_tests}
use Rattle.kes_text.specs.declared.refusal.Stop.{Stop}
use Rattle.kes_text.specs.declared.refusal.Kind.{Kind}
use Rattle.text_words.specs.Said.{◌>>=◌, check, known}
use Rattle.text_words.specs.declared.number.Number.{Number}
use Rattle.text_words.specs.declared.number.Number.TheVariants.{Malformed, Large, Value}
use Rattle.text_words.specs.Numbers.{within, value}
use Rattle.kconfig.proofs.Stepping.{not_both}

pub both_true : (a b : Bool) → a && b ≡ true → (a ≡ true) × (b ≡ true)
both_true true b e = (refl, e)
both_true false b e = absurd (true≢false (sym e))

pub either_true : (P : Type 0) (a b : Bool) → a || b ≡ true → (a ≡ true → P) → (b ≡ true → P) → P
either_true P true b e first second = first refl
either_true P false b e first second = second e

pub same_bytes : (xs ys : List ℕ) → bytes_eq xs ys ≡ true → xs ≡ ys
same_bytes xs ys e = (bytes_eq-Decides xs ys).0 e

pub none_there : {A : Type 0} (o : Option A) → is_none o ≡ true → o ≡ None
none_there None e = refl
none_there (Some x) e = absurd (true≢false (sym e))

pub bind_ok : {A B : Type 0} (said : Result A Stop) (f : A → Result B Stop) (y : B) → (said >>= f) ≡ Ok y → (x : A) × ((said ≡ Ok x) × (f x ≡ Ok y))
bind_ok (Ok x) f y e = (x, (refl, e))
bind_ok (Err s) f y e = absurd (not_both y s (sym e))

-- the test holds, and what is said behind it
pub checked : {B : Type 0} (test : Bool) (kind : Kind) (n : ℕ) (rest : Result B Stop) (y : B) → (check test kind n >>= (λ _. rest)) ≡ Ok y → (test ≡ true) × (rest ≡ Ok y)
checked true kind n rest y e = (refl, e)
checked false kind n rest y e = absurd (not_both y _ (sym e))

pub known_ok : {A B : Type 0} (o : Option A) (kind : Kind) (n : ℕ) (f : A → Result B Stop) (y : B) → (known o kind n >>= f) ≡ Ok y → (x : A) × ((o ≡ Some x) × (f x ≡ Ok y))
known_ok (Some x) kind n f y e = (x, (refl, e))
known_ok None kind n f y e = absurd (not_both y _ (sym e))

pub within_is : (low high : ℕ) (x : Number) → within low high x ≡ true → (low ≤ value x) × (value x ≤ high)
within_is low high Malformed e = absurd (true≢false (sym e))
within_is low high Large e = absurd (true≢false (sym e))
within_is low high (Value n) e =
    let both = both_true (nat_le low n) (nat_le n high) e in
    let least : low ≤ n = grind (arith, nat_tests, both.0) in
    let most : n ≤ high = grind (arith, nat_tests, both.1) in
    (least, most)
