-- What stands where a piece of a definition has answered.
use Rattle.std.proofs.Common.{◌≡◌, ℕ, List, Bool, true, false, cond, Option, Some, None, Result, Ok, Err, refl, sym, true≢false}
use Rattle.std.specs.Prelude.{◌&&◌}
use Rattle.std.proofs.lemmas.Option.{none-some}
use Rattle.kes_text.specs.declared.refusal.Stop.{Stop}
use Rattle.oil_in.specs.Pieces as pieces
use Rattle.oil_in.specs.Scan.{Scan, ◌>>=◌, next, line, fixed, ranged}

pub bind_some : {A B : Type 0} (o : Option A) (f : A → Option B) (y : B) → pieces.◌>>=◌ o f ≡ Some y → (x : A) × (o ≡ Some x) × (f x ≡ Some y)
bind_some (Some x) f y h = (x, refl, h)
bind_some None f y h = absurd (none-some y h)

pub err-ok : {A E : Type 0} (e : E) (x : A) → ◌≡◌ {A = Result A E} (Err e) (Ok x) → ⊥
err-ok e x h = cc

pub same_Ok : {A E : Type 0} (x y : A) → ◌≡◌ {A = Result A E} (Ok x) (Ok y) → x ≡ y
same_Ok x y h = cc

pub bind_ok : {A B : Type 0} (r : Result A Stop) (f : A → Result B Stop) (y : B) → (r >>= f) ≡ Ok y → (x : A) × (r ≡ Ok x) × (f x ≡ Ok y)
bind_ok (Ok x) f y h = (x, refl, h)
bind_ok (Err e) f y h = absurd (err-ok e y h)

pub if_ok : {A : Type 0} (b : Bool) (e : Stop) (r : Result A Stop) (y : A) → cond b r (Err e) ≡ Ok y → (b ≡ true) × (r ≡ Ok y)
if_ok true e r y h = (refl, h)
if_ok false e r y h = absurd (err-ok e y h)

pub if_not_ok : {A : Type 0} (b : Bool) (e : Stop) (r : Result A Stop) (y : A) → cond b (Err e) r ≡ Ok y → (b ≡ false) × (r ≡ Ok y)
if_not_ok false e r y h = (refl, h)
if_not_ok true e r y h = absurd (err-ok e y h)

pub line_ok : {X : Type 0} (o : Option (X × List ℕ)) (s : Scan) (y : X × Scan) → line o s ≡ Ok y → (x : X × List ℕ) × (o ≡ Some x) × ((x.0, next s x.1) ≡ y)
line_ok (Some x) s y h = (x, refl, same_Ok (x.0, next s x.1) y h)
line_ok None s y h = absurd (err-ok _ y h)

pub fixed_ok : (o : Option (List ℕ)) (s behind : Scan) → fixed o s ≡ Ok behind → (rest : List ℕ) × (o ≡ Some rest) × (next s rest ≡ behind)
fixed_ok (Some rest) s behind h = (rest, refl, same_Ok (next s rest) behind h)
fixed_ok None s behind h = absurd (err-ok _ behind h)

pub ranged_ok : (o : Option ℕ) (s behind : Scan) (y : ℕ × Scan) → ranged o s behind ≡ Ok y → (n : ℕ) × (o ≡ Some n) × ((n, behind) ≡ y)
ranged_ok (Some n) s behind y h = (n, refl, same_Ok (n, behind) y h)
ranged_ok None s behind y h = absurd (err-ok _ y h)

pub both_true : (a b : Bool) → a && b ≡ true → (a ≡ true) × (b ≡ true)
both_true true b e = (refl, e)
both_true false b e = absurd (true≢false (sym e))
