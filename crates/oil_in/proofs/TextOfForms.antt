-- What stands at the front of the bytes where a form is read.
use Rattle.std.proofs.Common.{◌≡◌, ℕ, ◌++◌, List, Bool, true, false, cond, codes, decimal, length, take, drop, Some, None, refl, ap, sym, subst, ◌∙◌, append_assoc}
use Rattle.std.specs.Prelude.{bytes_eq, nat_le, nat_lt, ◌&&◌, ◌^◌}
use Rattle.std.specs.List.{prefix_len}
use Rattle.std.proofs.lemmas.List.{take-append-drop}
use Rattle.std.proofs.lemmas.Option.{none-some, same_Some}
use Rattle.std.proofs.lemmas.Slice.Eq.{bytes_eq-Decides}
use Rattle.oil_out.specs.OilText.{attribute, header, object}
use Rattle.oil_in.specs.declared.pieces.Number.{Number}
use Rattle.oil_in.specs.declared.pieces.Number.TheVariants.{Large, Value}
use Rattle.oil_in.specs.Pieces.{is_name_byte, is_digit, begins_with_letter, begins_with_zero, value, numeral, run, behind, name_at, number_at}
use Rattle.oil_in.specs.Forms.{name_in, number_in}
use Rattle.oil_in.proofs.PieceLemmas.{if_some, behind-is}
use Rattle.oil_in.proofs.Inversion.{bind_some}

split : (n : ℕ) (bytes : List ℕ) (x : List ℕ × List ℕ) → (take n bytes, drop n bytes) ≡ x → bytes ≡ x.0 ++ x.1
split n bytes x e =
    let P : List ℕ × List ℕ → Type 0 = λ w. bytes ≡ w.0 ++ w.1 in
    subst P e (sym (take-append-drop n bytes))

pub name-is : (bytes : List ℕ) (x : List ℕ × List ℕ) → name_at bytes ≡ Some x → bytes ≡ x.0 ++ x.1
unfolding name_at
name-is bytes x h =
    let w = run is_name_byte bytes in
    let p = if_some (begins_with_letter w.0 && nat_le (length w.0) 32) (Some w) x h in
    split (prefix_len is_name_byte bytes) bytes x (same_Some w x p.1)

same_value : (v n : ℕ) → Value v ≡ Value n → v ≡ n
same_value v n h = cc

sized_cases : (a b c : Bool) (v n : ℕ) → cond a (cond b (Some (Value v)) None) (cond c None (Some Large)) ≡ Some (Value n) → (b ≡ true) × (v ≡ n)
sized_cases true true c v n h = (refl, same_value v n (same_Some (Value v) (Value n) h))
sized_cases true false c v n h = absurd (none-some (Value n) h)
sized_cases false b true v n h = absurd (none-some (Value n) h)
sized_cases false b false v n h = absurd (let e : Large ≡ Value n = same_Some Large (Value n) h in cc)

numeral-is : (digits : List ℕ) (n : ℕ) → numeral digits ≡ Some (Value n) → digits ≡ decimal n
numeral-is digits n h =
    let v = value 0 digits in
    let p = sized_cases (nat_lt v (2 ^ 64)) (bytes_eq digits (decimal v)) (begins_with_zero digits) v n h in
    (bytes_eq-Decides digits (decimal v)).0 p.0 ∙ ap decimal p.1

pub number-is : (bytes : List ℕ) (n : ℕ) (rest : List ℕ) → number_at bytes ≡ Some (Value n, rest) → bytes ≡ decimal n ++ rest
unfolding number_at
number-is bytes n rest h =
    let w = run is_digit bytes in
    let p = bind_some (numeral w.0) (λ number. Some (number, w.1)) (Value n, rest) h in
    let e : (p.0, w.1) ≡ (Value n, rest) = same_Some (p.0, w.1) (Value n, rest) p.2 in
    let number : p.0 ≡ Value n = ap (λ (x : Number × List ℕ). x.0) e in
    let behind_it : w.1 ≡ rest = ap (λ (x : Number × List ℕ). x.1) e in
    let digits : w.0 ≡ decimal n = numeral-is w.0 n (p.1 ∙ ap (λ (x : Number). Some x) number) in
    sym (take-append-drop (prefix_len is_digit bytes) bytes) ∙ ap (λ (front : List ℕ). front ++ w.1) digits ∙ ap (λ (end : List ℕ). decimal n ++ end) behind_it

pub name_in-is : (front back bytes : List ℕ) (x : List ℕ × List ℕ) → name_in front back bytes ≡ Some x → bytes ≡ front ++ (x.0 ++ (back ++ x.1))
unfolding name_in
name_in-is front back bytes x h =
    let word = bind_some (behind front bytes) _ x h in
    let name = bind_some (name_at word.0) _ x word.2 in
    let rest = bind_some (behind back name.0.1) _ x name.2 in
    let e : (name.0.0, rest.0) ≡ x = same_Some (name.0.0, rest.0) x rest.2 in
    let P : List ℕ × List ℕ → Type 0 = λ w. bytes ≡ front ++ (w.0 ++ (back ++ w.1)) in
    subst P e (behind-is front bytes word.0 word.1 ∙ ap (λ (w : List ℕ). front ++ w) (name-is word.0 name.0 name.1 ∙ ap (λ (w : List ℕ). name.0.0 ++ w) (behind-is back name.0.1 rest.0 rest.1)))

pub number_in-is : (front back bytes : List ℕ) (n : ℕ) (end : List ℕ) → number_in front back bytes ≡ Some (Value n, end) → bytes ≡ front ++ (decimal n ++ (back ++ end))
unfolding number_in
number_in-is front back bytes n end h =
    let word = bind_some (behind front bytes) _ (Value n, end) h in
    let number = bind_some (number_at word.0) _ (Value n, end) word.2 in
    let rest = bind_some (behind back number.0.1) _ (Value n, end) number.2 in
    let e : (number.0.0, rest.0) ≡ (Value n, end) = same_Some (number.0.0, rest.0) (Value n, end) rest.2 in
    let value_is : number.0.0 ≡ Value n = ap (λ (x : Number × List ℕ). x.0) e in
    let end_is : rest.0 ≡ end = ap (λ (x : Number × List ℕ). x.1) e in
    let read : number_at word.0 ≡ Some (Value n, number.0.1) = number.1 ∙ ap (λ (m : Number). Some (m, number.0.1)) value_is in
    behind-is front bytes word.0 word.1
    ∙ ap (λ (w : List ℕ). front ++ w) (number-is word.0 n number.0.1 read ∙ ap (λ (w : List ℕ). decimal n ++ w) (behind-is back number.0.1 rest.0 rest.1 ∙ ap (λ (w : List ℕ). back ++ w) end_is))

-- an attribute's line, and an object, with what is behind
pub attribute-whole : (name value rest : List ℕ) → (codes "    " ++ name ++ codes " = ") ++ (value ++ (codes ";\n" ++ rest)) ≡ attribute name value ++ rest
unfolding attribute
attribute-whole name value rest = sym (simp append_assoc)

-- the parts of an object with what is behind
pub regroup : (a kind b prefix name c attributes d rest : List ℕ)
    → (((a ++ kind ++ b ++ (prefix ++ name)) ++ c) ++ attributes ++ d) ++ rest ≡ (a ++ kind ++ b ++ prefix) ++ (name ++ (c ++ (attributes ++ (d ++ rest))))
regroup a kind b prefix name c attributes d rest = simp append_assoc

pub object-whole : (kind prefix name attributes text body rest : List ℕ) → text ≡ (codes "  " ++ kind ++ codes " " ++ prefix) ++ (name ++ (codes " {\n" ++ body))
    → body ≡ attributes ++ (codes "  };\n" ++ rest) → text ≡ object kind (prefix ++ name) attributes ++ rest
unfolding header
object-whole kind prefix name attributes text body rest e f =
    e ∙ ap (λ (w : List ℕ). (codes "  " ++ kind ++ codes " " ++ prefix) ++ (name ++ (codes " {\n" ++ w))) f
    ∙ sym (regroup (codes "  ") kind (codes " ") prefix name (codes " {\n") attributes (codes "  };\n") rest)

pub three : (a b c rest : List ℕ) → (a ++ b ++ c) ++ rest ≡ a ++ (b ++ (c ++ rest))
three a b c rest = simp append_assoc

-- one text behind another
pub then : (text a middle b rest : List ℕ) → text ≡ a ++ middle → middle ≡ b ++ rest → text ≡ (a ++ b) ++ rest
then text a middle b rest e f = e ∙ ap (λ (w : List ℕ). a ++ w) f ∙ sym (append_assoc a b rest)

-- an attribute whose value is a name with a prefix
named_value : (a name b prefix word c rest : List ℕ) → (a ++ name ++ b ++ prefix) ++ (word ++ (c ++ rest)) ≡ (a ++ name ++ b ++ (prefix ++ word) ++ c) ++ rest
named_value a name b prefix word c rest = simp append_assoc

pub reference-whole : (name prefix word rest : List ℕ) → (codes "    " ++ name ++ codes " = " ++ prefix) ++ (word ++ (codes ";\n" ++ rest)) ≡ attribute name (prefix ++ word) ++ rest
unfolding attribute
reference-whole name prefix word rest = named_value (codes "    ") name (codes " = ") prefix word (codes ";\n") rest

-- one whose value is a word between two texts, or two words
between_texts : (a name b front word back c rest : List ℕ) → (a ++ name ++ b ++ front) ++ (word ++ ((back ++ c) ++ rest)) ≡ (a ++ name ++ b ++ (front ++ word ++ back) ++ c) ++ rest
between_texts a name b front word back c rest = simp append_assoc

pub word-whole : (name front word back rest : List ℕ) → (codes "    " ++ name ++ codes " = " ++ front) ++ (word ++ ((back ++ codes ";\n") ++ rest)) ≡ attribute name (front ++ word ++ back) ++ rest
unfolding attribute
word-whole name front word back rest = between_texts (codes "    ") name (codes " = ") front word back (codes ";\n") rest

two_between : (a name b front one middle two back c rest : List ℕ)
    → (a ++ name ++ b ++ front) ++ (one ++ (middle ++ (two ++ ((back ++ c) ++ rest)))) ≡ (a ++ name ++ b ++ (front ++ one ++ middle ++ two ++ back) ++ c) ++ rest
two_between a name b front one middle two back c rest = simp append_assoc

pub words-whole : (name front one middle two back rest : List ℕ)
    → (codes "    " ++ name ++ codes " = " ++ front) ++ (one ++ (middle ++ (two ++ ((back ++ codes ";\n") ++ rest)))) ≡ attribute name (front ++ one ++ middle ++ two ++ back) ++ rest
unfolding attribute
words-whole name front one middle two back rest = two_between (codes "    ") name (codes " = ") front one middle two back (codes ";\n") rest
