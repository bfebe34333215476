-- What stands where a part of a definition has answered.
use Rattle.std.proofs.Common.{◌≡◌, ℕ, Bool, true, false, true≢false, Option, Some, None, Result, Ok, Err, refl, sym, ap, cond}
use Rattle.std.specs.Prelude.{◌&&◌}
use Rattle.kes_text.specs.declared.refusal.Stop.{Stop}
use Rattle.kes_text.specs.declared.refusal.Kind.{Kind}
use Rattle.text_words.specs.Said.{◌>>=◌, check, known}

pub err-ok : {A E : Type 0} (e : E) (x : A) → ◌≡◌ {A = Result A E} (Err e) (Ok x) → ⊥
err-ok e x h = cc

pub same_Ok : {A E : Type 0} (x y : A) → ◌≡◌ {A = Result A E} (Ok x) (Ok y) → x ≡ y
same_Ok x y h = cc

pub bind_ok : {A B : Type 0} (r : Result A Stop) (f : A → Result B Stop) (y : B) → (r >>= f) ≡ Ok y → (x : A) × (r ≡ Ok x) × (f x ≡ Ok y)
bind_ok (Ok x) f y h = (x, refl, h)
bind_ok (Err e) f y h = absurd (err-ok e y h)

pub check_ok : (test : Bool) (k : Kind) (n : ℕ) (u : Unit {0}) → check test k n ≡ Ok u → test ≡ true
check_ok true k n u h = refl
check_ok false k n u h = absurd (err-ok _ u h)

pub known_ok : {A : Type 0} (o : Option A) (k : Kind) (n : ℕ) (x : A) → known o k n ≡ Ok x → o ≡ Some x
known_ok (Some y) k n x h = ap (λ z. Some z) (same_Ok y x h)
known_ok None k n x h = absurd (err-ok _ x h)

pub both_true : (a b : Bool) → a && b ≡ true → (a ≡ true) × (b ≡ true)
both_true true b e = (refl, e)
both_true false b e = absurd (true≢false (sym e))

-- whichever of two
pub by_if : {A P : Type 0} (test : Bool) (one other : Result A Stop) (y : A) → cond test one other ≡ Ok y → (one ≡ Ok y → P) → (other ≡ Ok y → P) → P
by_if true one other y h first second = first h
by_if false one other y h first second = second h
