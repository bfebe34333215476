-- Descriptors that are read from bytes, and descriptors that bytes spell.
use Rattle.std.proofs.Common.{◌≡◌, ◌⊎◌, inl, inr, ℕ, zero, suc, ◌≤◌, List, [], ◌∷◌, ◌++◌, length, drop, Bool, true, false, cond, eqb, leb, Option, Some, None, is_some, refl, sym, ap, subst, ◌∙◌, arith, append_assoc, append-nil, le-leb, leb-true, eqb-true}
use Rattle.jnames.specs.declared.shape.Shape.{Shape}
use Rattle.jnames.specs.declared.shape.Shape.TheVariants as shape
use Rattle.jnames.specs.declared.param.Param.{Param}
use Rattle.jnames.specs.Bytes.{◌>>=◌, begins_with}
use Rattle.jnames.specs.Types.{base_shape, type_at}
use Rattle.jnames.specs.Descriptors.{Signature, slots_of, slots, parameters_at, parameters_of, answer_at, whole, method_of, field_of, signature_of, method_slots}
use Rattle.jnames.specs.Spelled.{IsType, AreTypes, Nothing, First, IsAnswer, Spells, Field, Method}
use Rattle.jnames.specs.SpellingLaw.{ReadsWhatIsSpelled, FieldsSpellTypes, SlotsAreSpelled}
use Rattle.jnames.proofs.TypeSpellings.{bind_some, some_same, if_some, type_is_read, type_was_read, type_begins}

bool_cases : (b : Bool) → (b ≡ true) ⊎ (b ≡ false)
bool_cases true = inl refl
bool_cases false = inr refl

if_then : {A : Type 0} (b : Bool) (o : Option A) (y : A) → cond b o None ≡ Some y → (b ≡ true) × (o ≡ Some y)
if_then true o y e = (refl, e)
if_then false o y e = absurd cc

first_is : {A : Type 0} (b : Bool) (x y z : A) → b ≡ true → cond b x y ≡ z → x ≡ z
first_is true x y z t e = e
first_is false x y z t e = absurd cc

second_is : {A : Type 0} (b : Bool) (x y z : A) → b ≡ false → cond b x y ≡ z → y ≡ z
second_is true x y z f e = absurd cc
second_is false x y z f e = e

begins : (c : ℕ) (bytes : List ℕ) → begins_with c bytes ≡ true → bytes ≡ c ∷ drop 1 bytes
begins c [] e = absurd cc
begins c (b ∷ bytes) e = ap (λ (x : ℕ). x ∷ bytes) (eqb-true b c e)

params_are_read : (n : ℕ) (text rest : List ℕ) (types : List Param) → AreTypes text types → length types ≤ n → parameters_at n (text ++ 41 ∷ rest) ≡ Some (types, rest)
unfolding parameters_at
params_are_read zero text rest types Nothing le = refl
params_are_read (suc n) text rest types Nothing le = refl
params_are_read zero text rest types (First one behind type others it them) le = absurd (omega arith)
params_are_read (suc n) text rest types (First one behind type others it them) le =
    let le' : length others ≤ n = omega arith in
    rw (append_assoc one behind (41 ∷ rest), type_begins one (behind ++ 41 ∷ rest) type 41 it refl refl refl, type_is_read one (behind ++ 41 ∷ rest) type it, params_are_read n behind rest others them le') refl

abbrev Parted : List ℕ → List Param × List ℕ → Type 0
Parted bytes found = (text : List ℕ) × (bytes ≡ text ++ 41 ∷ found.1) × AreTypes text found.0

closed : (bytes : List ℕ) (found : List Param × List ℕ) → begins_with 41 bytes ≡ true → ([], drop 1 bytes) ≡ found → Parted bytes found
closed bytes found b e = subst (Parted bytes) e ([], begins 41 bytes b, Nothing)

abbrev onto : Param → List Param × List ℕ → Option (List Param × List ℕ)
onto type others = Some (type ∷ others.0, others.1)

abbrev more : ℕ → Param × List ℕ → Option (List Param × List ℕ)
more n first = parameters_at n first.1 >>= onto first.0

put_together : (bytes : List ℕ) (first : Param × List ℕ) (others found : List Param × List ℕ) (text : List ℕ) → bytes ≡ text ++ first.1 → IsType text first.0 → Parted first.1 others → (first.0 ∷ others.0, others.1) ≡ found → Parted bytes found
put_together bytes first others found text e it them is =
    subst (Parted bytes) is (text ++ them.0, e ∙ ap (λ (t : List ℕ). text ++ t) them.1 ∙ sym (append_assoc text them.0 (41 ∷ others.1)), First text them.0 first.0 others.0 it them.2)

params_were_read : (n : ℕ) (bytes : List ℕ) (found : List Param × List ℕ) → parameters_at n bytes ≡ Some found → Parted bytes found
unfolding parameters_at
params_were_read zero bytes found e =
    let a = if_some (begins_with 41 bytes) ([], drop 1 bytes) found e in
    closed bytes found a.0 a.1
params_were_read (suc n) bytes found e = elim (bool_cases (begins_with 41 bytes)) [
  | inl end ↦ closed bytes found end (some_same ([], drop 1 bytes) found (rw end at e))
  | inr on ↦
      let one = bind_some (type_at bytes) (more n) found (rw on at e) in
      let two = bind_some (parameters_at n one.0.1) (onto one.0.0) found one.2 in
      let t = type_was_read bytes one.0 one.1 in
      put_together bytes one.0 two.0 found t.0 t.1 t.2 (params_were_read n one.0.1 two.0 two.1) (some_same (one.0.0 ∷ two.0.0, two.0.1) found two.2)
]

takes_one : (s : Shape) → 1 ≤ slots_of s
takes_one shape.Bool = omega arith
takes_one shape.Byte = omega arith
takes_one shape.Char = omega arith
takes_one shape.Short = omega arith
takes_one shape.Int = omega arith
takes_one shape.Long = omega arith
takes_one shape.Float = omega arith
takes_one shape.Double = omega arith
takes_one shape.Class = omega arith
takes_one shape.Array = omega arith

fewer : (types : List Param) → length types ≤ slots types
fewer [] = omega arith
fewer (type ∷ types) = let one = takes_one type.shape in let others = fewer types in omega arith

whole_type_begins : (text : List ℕ) (type : Param) (c : ℕ) → IsType text type → base_shape c ≡ None → eqb 76 c ≡ false → eqb 91 c ≡ false → begins_with c text ≡ false
whole_type_begins text type c h none no_class no_array = subst (λ (t : List ℕ). begins_with c t ≡ false) (append-nil text) (type_begins text [] type c h none no_class no_array)

pub whole_type_is_read : (text : List ℕ) (type : Param) → IsType text type → type_at text ≡ Some (type, [])
whole_type_is_read text type h = subst (λ (t : List ℕ). type_at t ≡ Some (type, [])) (append-nil text) (type_is_read text [] type h)

answer_is_read : (text : List ℕ) (answer : Option Param) → IsAnswer text answer → answer_at text ≡ Some (answer, [])
answer_is_read text None h = rw h refl
answer_is_read text (Some type) h =
    rw (whole_type_begins text type 86 h refl refl refl, whole_type_is_read text type h) refl

empty : (bytes : List ℕ) → eqb (length bytes) 0 ≡ true → bytes ≡ []
empty [] e = refl
empty (b ∷ bytes) e = absurd (omega (arith, eqb-true (length (b ∷ bytes)) 0 e))

ended : {A : Type 0} (x : A × List ℕ) (y : A) → whole x ≡ Some y → (x.0 ≡ y) × (x.1 ≡ [])
ended x y e = let a = if_some (eqb (length x.1) 0) x.0 y e in (a.1, empty x.1 a.0)

type_was_whole : (bytes : List ℕ) (found : Param × List ℕ) → type_at bytes ≡ Some found → found.1 ≡ [] → IsType bytes found.0
type_was_whole bytes found e end =
    let t = type_was_read bytes found e in
    let text : bytes ≡ t.0 = t.1 ∙ ap (λ (x : List ℕ). t.0 ++ x) end ∙ append-nil t.0 in
    subst (λ (x : List ℕ). IsType x found.0) (sym text) t.2

abbrev some_type : Param × List ℕ → Option (Option Param × List ℕ)
some_type found = Some (Some found.0, found.1)

answer_was_read : (bytes : List ℕ) (found : Option Param × List ℕ) → answer_at bytes ≡ Some found → found.1 ≡ [] → IsAnswer bytes found.0
answer_was_read bytes found e end = elim (bool_cases (begins_with 86 bytes)) [
  | inl void ↦
      let is = some_same (None, drop 1 bytes) found (rw void at e) in
      let all : bytes ≡ 86 ∷ [] = begins 86 bytes void ∙ ap (λ (x : List ℕ). 86 ∷ x) (ap (λ (x : Option Param × List ℕ). x.1) is ∙ end) in
      subst (IsAnswer bytes) (ap (λ (x : Option Param × List ℕ). x.0) is) all
  | inr value ↦
      let a = bind_some (type_at bytes) some_type found (rw value at e) in
      let is = some_same (Some a.0.0, a.0.1) found a.2 in
      subst (IsAnswer bytes) (ap (λ (x : Option Param × List ℕ). x.0) is) (type_was_whole bytes a.0 a.1 (ap (λ (x : Option Param × List ℕ). x.1) is ∙ end))
]

abbrev field : Param → Option Signature
field type = Some (record { is_method = false; parameters = []; answer = Some type })

abbrev method : List Param → Option Param → Signature
method parameters answer = record { is_method = true; parameters = parameters; answer = answer }

abbrev after_type : Param × List ℕ → Option Signature
after_type answer = whole answer >>= field

abbrev after_answer : List Param → Option Param × List ℕ → Option Signature
after_answer parameters answer = whole answer >>= λ found. Some (method parameters found)

abbrev after_parameters : List Param × List ℕ → Option Signature
after_parameters parameters = answer_at parameters.1 >>= after_answer parameters.0

abbrev if_few : List Param × List ℕ → Option (List Param × List ℕ)
if_few found = cond (leb (slots found.0) 255) (Some found) None

field_is_read : (text : List ℕ) (type : Param) → IsType text type → field_of text ≡ field type
field_is_read text type h = rw (whole_type_is_read text type h) refl

pub field_was_read : (text : List ℕ) (d : Signature) → field_of text ≡ Some d → (type : Param) × IsType text type × (record { is_method = false; parameters = []; answer = Some type } ≡ d)
field_was_read text d e =
    let a = bind_some (type_at text) after_type d e in
    let b = bind_some (whole a.0) field d a.2 in
    let w = ended a.0 b.0 b.1 in
    (a.0.0, type_was_whole text a.0 a.1 w.1, some_same (record { is_method = false; parameters = []; answer = Some a.0.0 }) d (ap field w.0 ∙ b.2))

method_is_read : (taken answered : List ℕ) (parameters : List Param) (answer : Option Param) → AreTypes taken parameters → slots parameters ≤ 255 → IsAnswer answered answer
    → method_of (40 ∷ (taken ++ 41 ∷ answered)) ≡ Some (method parameters answer)
method_is_read taken answered parameters answer them le it =
    let few : length parameters ≤ 255 = let f = fewer parameters in omega arith in
    rw (params_are_read 255 taken answered parameters them few, le-leb (slots parameters) 255 le, answer_is_read answered answer it) refl

pub method_was_read : (text : List ℕ) (d : Signature) → method_of text ≡ Some d
    → (parameters : List Param) × (answer : Option Param) × Spells text (method parameters answer) × (method parameters answer ≡ d)
method_was_read text d e =
    let a = if_then (begins_with 40 text) (parameters_of (drop 1 text) >>= after_parameters) d e in
    let b = bind_some (parameters_of (drop 1 text)) after_parameters d a.1 in
    let p = bind_some (parameters_at 255 (drop 1 text)) if_few b.0 b.1 in
    let few = if_some (leb (slots p.0.0) 255) p.0 b.0 p.2 in
    let c = bind_some (answer_at b.0.1) (after_answer b.0.0) d b.2 in
    let f = bind_some (whole c.0) (λ found. Some (method b.0.0 found)) d c.2 in
    let w = ended c.0 f.0 f.1 in
    let them = params_were_read 255 (drop 1 text) p.0 p.1 in
    let it = answer_was_read b.0.1 c.0 c.1 w.1 in
    let rest : p.0.1 ≡ b.0.1 = ap (λ (x : List Param × List ℕ). x.1) few.1 in
    let all : text ≡ 40 ∷ (them.0 ++ 41 ∷ b.0.1) = begins 40 text a.0 ∙ ap (λ (x : List ℕ). 40 ∷ x) (them.1 ∙ ap (λ (x : List ℕ). them.0 ++ 41 ∷ x) rest) in
    let made = Method them.0 b.0.1 p.0.0 c.0.0 them.2 (leb-true (slots p.0.0) 255 few.0) it in
    let same : method p.0.0 c.0.0 ≡ d = ap (λ (x : List Param × List ℕ). method x.0 c.0.0) few.1 ∙ ap (method b.0.0) w.0 ∙ some_same (method b.0.0 f.0) d f.2 in
    (p.0.0, c.0.0, subst (λ (t : List ℕ). Spells t (method p.0.0 c.0.0)) (sym all) made, same)

is_read : (text : List ℕ) (d : Signature) → Spells text d → signature_of text ≡ Some d
unfolding signature_of
is_read text d (Field own type h) = rw (whole_type_begins own type 40 h refl refl refl) (field_is_read own type h)
is_read text d (Method taken answered parameters answer them le it) = method_is_read taken answered parameters answer them le it

was_read : (text : List ℕ) (d : Signature) → signature_of text ≡ Some d → Spells text d
unfolding signature_of
was_read text d e = elim (bool_cases (begins_with 40 text)) [
  | inl paren ↦ let m = method_was_read text d (first_is (begins_with 40 text) (method_of text) (field_of text) (Some d) paren e) in subst (Spells text) m.3 m.2
  | inr other ↦ let f = field_was_read text d (second_is (begins_with 40 text) (method_of text) (field_of text) (Some d) other e) in subst (Spells text) f.2 (Field text f.0 f.1)
]

pub reads : ReadsWhatIsSpelled
reads text d = (was_read text d, is_read text d)

is_a_type : (text : List ℕ) (o : Option Signature) → field_of text ≡ o → is_some o ≡ true → (type : Param) × IsType text type
is_a_type text None e h = absurd cc
is_a_type text (Some d) e h = let f = field_was_read text d e in (f.0, f.1)

pub fields : FieldsSpellTypes
fields text = (is_a_type text (field_of text) refl, λ h. ap is_some (field_is_read text h.0 h.1))

abbrev slots_in : Signature → Option ℕ
slots_in found = Some (slots found.parameters)

slots_were_read : (text : List ℕ) (n : ℕ) → method_slots text ≡ Some n → (parameters : List Param) × (answer : Option Param) × Spells text (method parameters answer) × (slots parameters ≡ n)
unfolding method_slots
slots_were_read text n e =
    let a = bind_some (method_of text) slots_in n e in
    let m = method_was_read text a.0 a.1 in
    (m.0, m.1, m.2, ap (λ (d : Signature). slots d.parameters) m.3 ∙ some_same (slots a.0.parameters) n a.2)

-- what is spelled as a method is read as one
method_of_is : (text : List ℕ) (d : Signature) → Spells text d → d.is_method ≡ true → method_of text ≡ Some d
method_of_is text d (Field own type h) is = absurd cc
method_of_is text d (Method taken answered parameters answer them le it) is = method_is_read taken answered parameters answer them le it

slots_are_read : (text : List ℕ) (n : ℕ) (parameters : List Param) (answer : Option Param) → Spells text (method parameters answer) → slots parameters ≡ n → method_slots text ≡ Some n
unfolding method_slots
slots_are_read text n parameters answer h e = rw (method_of_is text (method parameters answer) h refl) (ap Some e)

pub slots_spelled : SlotsAreSpelled
slots_spelled text n = (slots_were_read text n, λ h. slots_are_read text n h.0 h.1 h.2 h.3)
