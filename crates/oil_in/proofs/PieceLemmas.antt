-- Fixed text, names and numbers at the front of bytes.
use Rattle.std.proofs.Common.{◌≡◌, ◌≢◌, ℕ, List, [], ◌∷◌, ◌++◌, Option, Some, None, Bool, true, false, cond, Bor, MatchOption, flat_map, refl, sym, ap, ◌∙◌, append_assoc, eq-eqb}
use Rattle.std.proofs.lemmas.Bool.{eqb-true}
use Rattle.std.proofs.lemmas.Option.{none-some, same_Some}
use Rattle.std.proofs.lemmas.List.Sums.{prefix_len-le-length}
use Rattle.std.specs.Prelude.{◌==◌}
use Rattle.oil_in.specs.Pieces.{Finds, behind}

pub ruleset fits = prefix_len-le-length

pub if_some : {A : Type 0} (b : Bool) (x : Option A) (y : A) → cond b x None ≡ Some y → (b ≡ true) × (x ≡ Some y)
if_some true x y h = (refl, h)
if_some false x y h = absurd (none-some y h)

pub not_some : {A : Type 0} (o : Option A) → ((x : A) → o ≢ Some x) → o ≡ None
not_some (Some x) h = absurd (h x refl)
not_some None h = refl

-- a text is behind itself
pub behind-front : (text rest : List ℕ) → behind text (text ++ rest) ≡ Some rest
unfolding behind
behind-front [] rest = refl
behind-front (c ∷ text) rest = ap (λ t. cond t (behind text (text ++ rest)) None) (eq-eqb c c refl) ∙ behind-front text rest

pub behind-is : (text bytes rest : List ℕ) → behind text bytes ≡ Some rest → bytes ≡ text ++ rest
unfolding behind
behind-is [] bytes rest h = same_Some bytes rest h
behind-is (c ∷ text) [] rest h = absurd (none-some rest h)
behind-is (c ∷ text) (byte ∷ bytes) rest h =
    let p = if_some (c == byte) (behind text bytes) rest h in
    ap (λ (d : ℕ). d ∷ bytes) (sym (eqb-true c byte p.0)) ∙ ap (λ (all : List ℕ). c ∷ all) (behind-is text bytes rest p.1)

pub finds-behind : (text bytes : List ℕ) (r : Option (Bor (List ℕ))) → MatchOption r ((rest : List ℕ) → bytes ≢ text ++ rest) (λ x. bytes ≡ text ++ x.now)
    → Finds (λ rest. rest.now) r (behind text bytes)
finds-behind text bytes (Some x) h = ap (behind text) h ∙ behind-front text x.now
finds-behind text bytes None h = not_some (behind text bytes) (λ rest e. h rest (behind-is text bytes rest e))

-- other lines than those of one front
pub none-front : {X : Type 0} (front : List ℕ) (text : X → List ℕ) (xs : List X) (rest : List ℕ) → ((x : X) (more : List ℕ) → behind front (text x ++ more) ≡ None) → behind front rest ≡ None
    → behind front (flat_map text xs ++ rest) ≡ None
none-front front text [] rest each end = end
none-front front text (x ∷ xs) rest each end = ap (behind front) (append_assoc (text x) (flat_map text xs) rest) ∙ each x (flat_map text xs ++ rest)
