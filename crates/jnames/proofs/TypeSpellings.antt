-- Types that are read from bytes, and types that bytes spell.
use Rattle.std.proofs.Common.{◌≡◌, ℕ, zero, suc, ◌+◌, ◌-◌, ◌<◌, ◌≤◌, List, [], ◌∷◌, ◌++◌, length, get_or, take, drop, Bool, true, false, cond, eqb, ltb, leb, Option, Some, None, position, refl, sym, ap, subst, ◌∙◌, arith, append_assoc, length-append, lt-ltb, le-leb, leb-true, ltb-true, eqb-true, eq-eqb, ne_eqb, inl, inr}
use Rattle.std.proofs.lemmas.Bool.Decides.{eqb_tells}
use Rattle.std.specs.List.{prefix_len, position_or_len, AllByRecursion}
use Rattle.std.proofs.lemmas.List.Folds.{length-prefix_len}
use Rattle.std.proofs.lemmas.List.Sums.{split_at_first, passes_at_first}
use Rattle.std.proofs.Math.Dec.{eqb-suc-zero}
use Rattle.std.proofs.Math.Seq.{take-append_seam, drop-append-add}
use Rattle.jnames.specs.declared.shape.Shape.{Shape}
use Rattle.jnames.specs.declared.shape.Shape.TheVariants as shape
use Rattle.jnames.specs.declared.param.Param.{Param}
use Rattle.jnames.specs.Bytes.{◌>>=◌, begins_with, up_to, before}
use Rattle.jnames.specs.Names.{is_class_name}
use Rattle.jnames.specs.Types.{base_shape, base_type, class_type_at, element_at, type_at}
use Rattle.jnames.specs.Spelled.{IsClassName, SpelledType, Base, Class, Array, IsType}
use Rattle.jnames.proofs.ClassNames.{lacks_semicolon, name_is_read, name_is_joined}

-- the value of a step that answered
pub bind_some : {A B : Type 0} (o : Option A) (f : A → Option B) (y : B) → (o >>= f) ≡ Some y → (x : A) × (o ≡ Some x) × (f x ≡ Some y)
bind_some None f y e = absurd cc
bind_some (Some x) f y e = (x, refl, e)

pub some_same : {A : Type 0} (x y : A) → Some x ≡ Some y → x ≡ y
some_same x y e = cc

pub if_some : {A : Type 0} (b : Bool) (x : A) (y : A) → cond b (Some x) None ≡ Some y → (b ≡ true) × (x ≡ y)
if_some true x y e = (refl, cc)
if_some false x y e = absurd cc

-- the bytes before the first c, where none of them is c
place_of : (c : ℕ) (front rest : List ℕ) → AllByRecursion (λ b. eqb b c ≡ false) front → position_or_len (λ b. eqb b c) (front ++ c ∷ rest) ≡ length front
place_of c [] rest h = let same : eqb c c ≡ true = eq-eqb c c refl in rw same refl
place_of c (b ∷ front) rest h = let tail = place_of c front rest h.1 in rw (h.0, tail) (omega arith)

cut_there : (c : ℕ) (front rest : List ℕ) → AllByRecursion (λ b. eqb b c ≡ false) front → up_to c (front ++ c ∷ rest) ≡ Some (front, rest)
cut_there c front rest h =
    let inside : length front < length (front ++ c ∷ rest) = rw (length-append front (c ∷ rest)) (omega arith) in
    let behind : drop (length front + 1) (front ++ c ∷ rest) ≡ rest = drop-append-add front (c ∷ rest) 1 in
    rw (place_of c front rest h, lt-ltb (length front) (length (front ++ c ∷ rest)) inside, take-append_seam front (c ∷ rest), behind) refl

was_cut : (c : ℕ) (bytes front rest : List ℕ) → up_to c bytes ≡ Some (front, rest) → bytes ≡ front ++ c ∷ rest
was_cut c bytes front rest e =
    let a = bind_some (position (λ b. eqb b c) bytes) (λ place. Some (take place bytes, drop (place + 1) bytes)) (front, rest) e in
    let found = if_some (ltb (position_or_len (λ b. eqb b c) bytes) (length bytes)) (position_or_len (λ b. eqb b c) bytes) a.0 a.1 in
    let inside : position_or_len (λ b. eqb b c) bytes < length bytes = ltb-true _ _ found.0 in
    let parts = split_at_first (λ b. eqb b c) bytes 0 inside in
    let it = eqb-true _ _ (passes_at_first (λ b. eqb b c) bytes 0 inside) in
    let pair : (take a.0 bytes, drop (a.0 + 1) bytes) ≡ (front, rest) = cc (a.2) in
    let front_is : take (position_or_len (λ b. eqb b c) bytes) bytes ≡ front = ap (λ (n : ℕ). take n bytes) found.1 ∙ ap (λ (x : List ℕ × List ℕ). x.0) pair in
    let rest_is : drop (position_or_len (λ b. eqb b c) bytes + 1) bytes ≡ rest = ap (λ (n : ℕ). drop (n + 1) bytes) found.1 ∙ ap (λ (x : List ℕ × List ℕ). x.1) pair in
    let joined : take (position_or_len (λ b. eqb b c) bytes) bytes ++ (get_or bytes (position_or_len (λ b. eqb b c) bytes) 0 ∷ drop (position_or_len (λ b. eqb b c) bytes + 1) bytes) ≡ front ++ c ∷ rest = rw (front_is, rest_is, it) refl in
    parts ∙ joined

-- a class's name that ends at its ; is cut and read there
class_is_read : (name rest : List ℕ) → IsClassName name → class_type_at (name ++ 59 ∷ rest) ≡ Some (record { shape = shape.Class; name = name }, rest)
class_is_read name rest h = rw (cut_there 59 name rest (lacks_semicolon name h), name_is_read name h) refl

class_was_read : (bytes rest : List ℕ) (element : Param) → class_type_at bytes ≡ Some (element, rest)
    → (name : List ℕ) × (bytes ≡ name ++ 59 ∷ rest) × IsClassName name × (element ≡ record { shape = shape.Class; name = name })
class_was_read bytes rest element e =
    let a = bind_some (up_to 59 bytes) (λ cut. cond (is_class_name cut.0) (Some (record { shape = shape.Class; name = cut.0 }, cut.1)) None) (element, rest) e in
    let b = if_some (is_class_name a.0.0) (record { shape = shape.Class; name = a.0.0 }, a.0.1) (element, rest) a.2 in
    let behind : a.0.1 ≡ rest = ap (λ (x : Param × List ℕ). x.1) b.1 in
    let cut = was_cut 59 bytes a.0.0 a.0.1 a.1 in
    (a.0.0, cut ∙ ap (λ (t : List ℕ). a.0.0 ++ 59 ∷ t) behind, name_is_joined a.0.0 b.0, sym (ap (λ (x : Param × List ℕ). x.0) b.1))

-- how many [ stand at the front
abbrev front : List ℕ → ℕ
front bytes = prefix_len (λ b. eqb b 91) bytes

-- what type_at does once they are counted, and once the element is read
abbrev type_of : ℕ → List ℕ → Param × List ℕ → Option (Param × List ℕ)
type_of n bytes element = cond (eqb n 0) (Some element) (cond (leb n 255) (Some (record { shape = shape.Array; name = before bytes element.1 }, element.1)) None)

abbrev type_behind : ℕ → List ℕ → Option (Param × List ℕ)
type_behind n bytes = element_at (drop n bytes) >>= type_of n bytes

counted : (bytes : List ℕ) → type_at bytes ≡ type_behind (front bytes) bytes
counted bytes = ap (λ (n : ℕ). type_behind n bytes) (length-prefix_len (λ b. eqb b 91) bytes)

-- a letter of a base type is no other byte
no_letter : (letter c : ℕ) (base : Shape) → base_shape letter ≡ Some base → base_shape c ≡ None → eqb letter c ≡ false
no_letter letter c base e none = ne_eqb letter c (λ same. let both : None ≡ Some base = sym none ∙ ap base_shape (sym same) ∙ e in absurd cc)

-- the type at the front, where its element stands behind so many [
abbrev At : ℕ → List ℕ → Param → Param → Type 0
At zero text type element = element ≡ type
At (suc n) text type element = type ≡ record { shape = shape.Array; name = text }

abbrev Front : ℕ → List ℕ → Param → List ℕ → Type 0
Front n text type rest = (element : Param) × (front (text ++ rest) ≡ n) × (element_at (drop n (text ++ rest)) ≡ Some (element, rest)) × At n text type element

one_more : (n : ℕ) (text rest : List ℕ) (type : Param) → Front n text type rest → Front (suc n) (91 ∷ text) (record { shape = shape.Array; name = 91 ∷ text }) rest
one_more n text rest type h = (h.0, rw h.1 (omega arith), h.2, refl)

spelled_in_front : (n : ℕ) (text : List ℕ) (type : Param) (rest : List ℕ) → SpelledType n text type → Front n text type rest
spelled_in_front n text type rest (Base letter base e) =
    let no_bracket : eqb letter 91 ≡ false = no_letter letter 91 base e refl in
    let no_class : eqb letter 76 ≡ false = no_letter letter 76 base e refl in
    (record { shape = base; name = [] }, rw no_bracket refl, rw (no_class, e) refl, refl)
spelled_in_front n text type rest (Class name h) =
    (record { shape = shape.Class; name = name }, refl, rw (append_assoc name (59 ∷ []) rest) (class_is_read name rest h), refl)
spelled_in_front n text type rest (Array m inner component s) = one_more m inner rest component (spelled_in_front m inner component rest s)

at_once : (n : ℕ) (text rest : List ℕ) (type : Param) → n ≤ 255 → Front n text type rest → type_behind n (text ++ rest) ≡ Some (type, rest)
at_once zero text rest type le h = rw h.2 (ap (λ (t : Param). Some (t, rest)) h.3)
at_once (suc n) text rest type le h =
    let own : before (text ++ rest) rest ≡ text =
    let long : length (text ++ rest) - length rest ≡ length text = omega (arith, length-append text rest) in
    rw long (take-append_seam text rest) in
    rw (h.2, eqb-suc-zero n, le-leb (suc n) 255 le, own) (ap (λ (t : Param). Some (t, rest)) (sym h.3))

-- what is spelled is read, whatever stands behind it
pub type_is_read : (text rest : List ℕ) (type : Param) → IsType text type → type_at (text ++ rest) ≡ Some (type, rest)
type_is_read text rest type h =
    let f = spelled_in_front h.0 text type rest h.2 in
    counted (text ++ rest) ∙ ap (λ (n : ℕ). type_behind n (text ++ rest)) f.1 ∙ at_once h.0 text rest type h.1 f

-- what the bytes with this front spell, where their element is read
abbrev Found : ℕ → List ℕ → List ℕ → Param → Type 0
Found n bytes rest element = (text : List ℕ) × (type : Param) × (bytes ≡ text ++ rest) × SpelledType n text type × At n text type element

found_more : (n b : ℕ) (bytes rest : List ℕ) (element : Param) → b ≡ 91 → Found n bytes rest element → Found (suc n) (b ∷ bytes) rest element
found_more n b bytes rest element is h =
    (91 ∷ h.0, record { shape = shape.Array; name = 91 ∷ h.0 }, rw (is, h.2) refl, Array n h.0 h.1 h.3, refl)

abbrev base_at : List ℕ → Param → Option (Param × List ℕ)
base_at bytes base = Some (base, bytes)

abbrev base_of : Shape → Option Param
base_of base = Some (record { shape = base; name = [] })

base_found : (b : ℕ) (bytes rest : List ℕ) (element : Param) → (base_type b >>= base_at bytes) ≡ Some (element, rest) → Found 0 (b ∷ bytes) rest element
base_found b bytes rest element e =
    let a = bind_some (base_type b) (base_at bytes) (element, rest) e in
    let s = bind_some (base_shape b) base_of a.0 a.1 in
    let pair : (a.0, bytes) ≡ (element, rest) = some_same (a.0, bytes) (element, rest) a.2 in
    let is : record { shape = s.0; name = [] } ≡ a.0 = some_same (record { shape = s.0; name = [] }) a.0 s.2 in
    (b ∷ [], record { shape = s.0; name = [] }, ap (λ (x : Param × List ℕ). b ∷ x.1) pair, Base b s.0 s.1, sym (is ∙ ap (λ (x : Param × List ℕ). x.0) pair))

class_text : (b : ℕ) (bytes name rest : List ℕ) → b ≡ 76 → bytes ≡ name ++ 59 ∷ rest → b ∷ bytes ≡ 76 ∷ ((name ++ 59 ∷ []) ++ rest)
class_text b bytes name rest is e = cc (append_assoc name (59 ∷ []) rest)

class_found : (b : ℕ) (bytes rest : List ℕ) (element : Param) → b ≡ 76 → class_type_at bytes ≡ Some (element, rest) → Found 0 (b ∷ bytes) rest element
class_found b bytes rest element is e =
    let c = class_was_read bytes rest element e in
    (76 ∷ (c.0 ++ 59 ∷ []), record { shape = shape.Class; name = c.0 }, class_text b bytes c.0 rest is c.1, Class c.0 c.2, c.3)

element_found : (b : ℕ) (bytes rest : List ℕ) (element : Param) → element_at (b ∷ bytes) ≡ Some (element, rest) → Found 0 (b ∷ bytes) rest element
element_found b bytes rest element e = elim (eqb_tells b 76) [
  | inl same ↦ class_found b bytes rest element same.1 (rw same.0 at e)
  | inr other ↦ base_found b bytes rest element (rw other.0 at e)
]

read_in_front : (bytes rest : List ℕ) (element : Param) → element_at (drop (front bytes) bytes) ≡ Some (element, rest) → Found (front bytes) bytes rest element
read_in_front [] rest element e = absurd cc
read_in_front (b ∷ bytes) rest element e = elim (eqb_tells b 91) [
  | inl same ↦
      let one : front (b ∷ bytes) ≡ suc (front bytes) = rw same.0 (omega arith) in
      let behind : element_at (drop (front bytes) bytes) ≡ Some (element, rest) = subst (λ (n : ℕ). element_at (drop n (b ∷ bytes)) ≡ Some (element, rest)) one e in
      subst (λ (n : ℕ). Found n (b ∷ bytes) rest element) (sym one) (found_more (front bytes) b bytes rest element same.1 (read_in_front bytes rest element behind))
  | inr other ↦
      let none : front (b ∷ bytes) ≡ 0 = rw other.0 refl in
      let here : element_at (b ∷ bytes) ≡ Some (element, rest) = subst (λ (n : ℕ). element_at (drop n (b ∷ bytes)) ≡ Some (element, rest)) none e in
      subst (λ (n : ℕ). Found n (b ∷ bytes) rest element) (sym none) (element_found b bytes rest element here)
]

-- the text is what stands before the rest
own_text : (bytes text rest : List ℕ) → bytes ≡ text ++ rest → before bytes rest ≡ text
own_text bytes text rest e =
    let long : length bytes - length rest ≡ length text = omega (arith, ap length e, length-append text rest) in
    rw (long, e) (take-append_seam text rest)

at_last : (n : ℕ) (bytes rest : List ℕ) (element : Param) (found : Param × List ℕ) → Found n bytes rest element → type_of n bytes (element, rest) ≡ Some found
    → (text : List ℕ) × (bytes ≡ text ++ found.1) × IsType text found.0
at_last zero bytes rest element found f e =
    let pair : (element, rest) ≡ found = cc (e) in
    let is : f.1 ≡ found.0 = sym f.4 ∙ ap (λ (x : Param × List ℕ). x.0) pair in
    (f.0, f.2 ∙ ap (λ (x : Param × List ℕ). f.0 ++ x.1) pair, (0, omega arith, subst (λ (t : Param). SpelledType 0 f.0 t) is f.3))
at_last (suc n) bytes rest element found f e =
    let some : cond (leb (suc n) 255) (Some (record { shape = shape.Array; name = before bytes rest }, rest)) None ≡ Some found = rw (eqb-suc-zero n) at e in
    let a = if_some (leb (suc n) 255) (record { shape = shape.Array; name = before bytes rest }, rest) found some in
    let own : record { shape = shape.Array; name = f.0 } ≡ record { shape = shape.Array; name = before bytes rest } = ap (λ (t : List ℕ). record { shape = shape.Array; name = t }) (sym (own_text bytes f.0 rest f.2)) in
    let is : f.1 ≡ found.0 = f.4 ∙ own ∙ ap (λ (x : Param × List ℕ). x.0) a.1 in
    (f.0, f.2 ∙ ap (λ (x : Param × List ℕ). f.0 ++ x.1) a.1, (suc n, leb-true (suc n) 255 a.0, subst (λ (t : Param). SpelledType (suc n) f.0 t) is f.3))

-- what is read is spelled, and the bytes behind it are left
pub type_was_read : (bytes : List ℕ) (found : Param × List ℕ) → type_at bytes ≡ Some found → (text : List ℕ) × (bytes ≡ text ++ found.1) × IsType text found.0
type_was_read bytes found e =
    let a = bind_some (element_at (drop (front bytes) bytes)) (type_of (front bytes) bytes) found (sym (counted bytes) ∙ e) in
    at_last (front bytes) bytes a.0.1 a.0.0 found (read_in_front bytes a.0.1 a.0.0 a.1) a.2

other_front : (n : ℕ) (text rest : List ℕ) (type : Param) (c : ℕ) → SpelledType n text type → base_shape c ≡ None → eqb 76 c ≡ false → eqb 91 c ≡ false → begins_with c (text ++ rest) ≡ false
other_front n text rest type c (Base letter base e) none no_class no_array = no_letter letter c base e none
other_front n text rest type c (Class name h) none no_class no_array = no_class
other_front n text rest type c (Array m inner component s) none no_class no_array = no_array

-- a type begins with a base type's letter, L or [
pub type_begins : (text rest : List ℕ) (type : Param) (c : ℕ) → IsType text type → base_shape c ≡ None → eqb 76 c ≡ false → eqb 91 c ≡ false → begins_with c (text ++ rest) ≡ false
type_begins text rest type c h = other_front h.0 text rest type c h.2
