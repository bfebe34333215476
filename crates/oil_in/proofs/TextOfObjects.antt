-- What stands at the front of the text where lines and objects are read.
use Rattle.std.proofs.Common.{◌≡◌, ℕ, ◌+◌, ◌++◌, ◌∷◌, [], List, Bool, codes, decimal, length, Some, Ok, refl, ap, sym, subst, ◌∙◌, append_assoc, arith}
use Rattle.std.specs.Prelude.{nat_le, ◌&&◌, ◌==◌}
use Rattle.std.specs.List.{list_any}
use Rattle.std.proofs.lemmas.Bool.{eqb-true}
use Rattle.std.proofs.lemmas.List.{append-nil}
use Rattle.std.proofs.lemmas.Option.{none-some, same_Some}
use Rattle.kes_text.specs.Numbered.{numbered}
use Rattle.osek_core.specs.declared.tables.Name.{Name}
use Rattle.oil_out.specs.OilText.{attribute, object, mask, event_text}
use Rattle.oil_in.specs.declared.pieces.Number.{Number}
use Rattle.oil_in.specs.declared.pieces.Number.TheVariants.{Large, Value}
use Rattle.oil_in.specs.Pieces.{behind}
use Rattle.oil_in.specs.Forms.{header, number_line}
use Rattle.oil_in.specs.Scan.{Scan, next, line, fixed, within, number_between, many}
use Rattle.oil_in.specs.Objects.{object_end, fresh, is_named, masked, mask_at, event_at}
use Rattle.oil_in.proofs.PieceLemmas.{if_some, behind-is}
use Rattle.oil_in.proofs.Inversion.{err-ok, same_Ok, bind_ok, if_ok, if_not_ok, line_ok, fixed_ok, ranged_ok}
use Rattle.oil_in.proofs.TextOfForms.{name_in-is, number_in-is, attribute-whole, object-whole, then}
use Rattle.oil_in.proofs.ManyLemmas.{Form, ObjectOf, keeps}

pub fixed-is : (text : List ℕ) (s after : Scan) → fixed (behind text s.text) s ≡ Ok after → s.text ≡ text ++ after.text
fixed-is text s after h =
    let p = fixed_ok (behind text s.text) s after h in
    behind-is text s.text p.0 p.1 ∙ ap (λ (r : Scan). text ++ r.text) p.2

within_is : (low high : ℕ) (number : Number) (n : ℕ) → within low high number ≡ Some n → number ≡ Value n
within_is low high Large n h = absurd (none-some n h)
within_is low high (Value m) n h = ap (λ (k : ℕ). Value k) (same_Some m n (if_some (nat_le low m && nat_le m high) (Some m) n h).1)

-- the value is what is left of an equation of a value and a scan
pub value_of : {X : Type 0} (n m : X) (s r : Scan) → ◌≡◌ {A = X × Scan} (n, s) (m, r) → n ≡ m
value_of {X} n m s r e = ap (λ (x : X × Scan). x.0) e

pub scan_of : {X : Type 0} (n m : X) (s r : Scan) → ◌≡◌ {A = X × Scan} (n, s) (m, r) → s ≡ r
scan_of {X} n m s r e = ap (λ (x : X × Scan). x.1) e

pub number_between-is : (name : List ℕ) (low high : ℕ) (s : Scan) (n : ℕ) (after : Scan) → number_between (codes "    " ++ name ++ codes " = ") low high s ≡ Ok (n, after)
    → s.text ≡ attribute name (decimal n) ++ after.text
unfolding number_between
number_between-is name low high s n after h =
    let front = codes "    " ++ name ++ codes " = " in
    let p = bind_ok (line (number_line front s.text) s) _ (n, after) h in
    let l = line_ok (number_line front s.text) s p.0 p.1 in
    let r = ranged_ok (within low high p.0.0) s p.0.1 (n, after) p.2 in
    let number : p.0.0 ≡ Value n = within_is low high p.0.0 r.0 r.1 ∙ ap (λ (k : ℕ). Value k) (value_of r.0 n p.0.1 after r.2) in
    let read : number_line front s.text ≡ Some (Value n, l.0.1) = l.1 ∙ ap (λ (m : Number). Some (m, l.0.1)) (value_of l.0.0 p.0.0 (next s l.0.1) p.0.1 l.2 ∙ number) in
    let behind_it : l.0.1 ≡ after.text = ap (λ (r : Scan). r.text) (scan_of l.0.0 p.0.0 (next s l.0.1) p.0.1 l.2 ∙ scan_of r.0 n p.0.1 after r.2) in
    number_in-is front (codes ";\n") s.text n l.0.1 read
    ∙ attribute-whole name (decimal n) l.0.1
    ∙ ap (λ (w : List ℕ). attribute name (decimal n) ++ w) behind_it

masked_is : (k : ℕ) (number : Number) (s r after : Scan) → masked k number s r ≡ Ok after → (number ≡ Value (mask k)) × (r ≡ after)
masked_is k Large s r after h = absurd (err-ok _ after h)
masked_is k (Value n) s r after h =
    let p = if_ok (n == mask k) _ (Ok r) after h in
    (ap (λ (m : ℕ). Value m) (eqb-true n (mask k) p.0), same_Ok r after p.1)

pub mask-is : (k : ℕ) (s after : Scan) → mask_at k s ≡ Ok after → s.text ≡ attribute (codes "MASK") (decimal (mask k)) ++ after.text
unfolding mask_at
mask-is k s after h =
    let front = codes "    MASK = " in
    let p = bind_ok (line (number_line front s.text) s) _ after h in
    let l = line_ok (number_line front s.text) s p.0 p.1 in
    let m = masked_is k p.0.0 s p.0.1 after p.2 in
    let read : number_line front s.text ≡ Some (Value (mask k), l.0.1) = l.1 ∙ ap (λ (m : Number). Some (m, l.0.1)) (value_of l.0.0 p.0.0 (next s l.0.1) p.0.1 l.2 ∙ m.0) in
    let behind_it : l.0.1 ≡ after.text = ap (λ (r : Scan). r.text) (scan_of l.0.0 p.0.0 (next s l.0.1) p.0.1 l.2 ∙ m.1) in
    number_in-is front (codes ";\n") s.text (mask k) l.0.1 read
    ∙ attribute-whole (codes "MASK") (decimal (mask k)) l.0.1
    ∙ ap (λ (w : List ℕ). attribute (codes "MASK") (decimal (mask k)) ++ w) behind_it

pub end-is : (s after : Scan) → object_end s ≡ Ok after → s.text ≡ codes "  };\n" ++ after.text
unfolding object_end
end-is s after h = fixed-is (codes "  };\n") s after h

pub fresh_is : (stands : Bool) (rest : List ℕ) (s after : Scan) → fresh stands rest s ≡ Ok after → rest ≡ after.text
fresh_is stands rest s after h = ap (λ (r : Scan). r.text) (same_Ok (next s rest) after (if_not_ok stands _ (Ok (next s rest)) after h).1)

-- the lines from the first of an object on, for what is behind its last
abbrev pub Spells : {X : Type 0} → Form → ObjectOf X → (ℕ → X → List ℕ) → Type 0
Spells {X} form object text = (xs : List X) (s : Scan) (h : List ℕ × List ℕ) (x : X) (after : Scan) → form s.text ≡ Some h → object xs h s ≡ Ok (x, after)
    → s.text ≡ text (length xs) x ++ after.text

same_name : (text : List ℕ) (name : Name) → record { text = text } ≡ name → text ≡ name.text
same_name text name e = ap (λ (n : Name). n.text) e

pub event-is : Spells (header (codes "  EVENT e_")) event_at event_text
unfolding event_at event_text
event-is events s h name after e o =
    let fresh_one = bind_ok (fresh (list_any (is_named h.0) events) h.1 s) _ (name, after) o in
    let masked_one = bind_ok (mask_at (length events) fresh_one.0) _ (name, after) fresh_one.2 in
    let end = bind_ok (object_end masked_one.0) _ (name, after) masked_one.2 in
    let made : (record { text = h.0 }, end.0) ≡ (name, after) = same_Ok _ _ end.2 in
    let body : h.1 ≡ attribute (codes "MASK") (decimal (mask (length events))) ++ (codes "  };\n" ++ end.0.text) =
    fresh_is _ h.1 s fresh_one.0 fresh_one.1
    ∙ mask-is (length events) fresh_one.0 masked_one.0 masked_one.1
    ∙ ap (λ (w : List ℕ). attribute (codes "MASK") (decimal (mask (length events))) ++ w) (end-is masked_one.0 end.0 end.1) in
    let whole : s.text ≡ event_text (length events) (record { text = h.0 }) ++ end.0.text =
    object-whole (codes "EVENT") (codes "e_") h.0 (attribute (codes "MASK") (decimal (mask (length events)))) s.text h.1 end.0.text (name_in-is (codes "  EVENT e_") (codes " {\n") s.text h e) body in
    let P : Name × Scan → Type 0 = λ x. s.text ≡ event_text (length events) x.0 ++ x.1.text in
    subst P made whole

numbered-push : {X : Type 0} (text : ℕ → X → List ℕ) (n : ℕ) (xs : List X) (x : X) → numbered text n (xs ++ x ∷ []) ≡ numbered text n xs ++ text (n + length xs) x
numbered-push text n [] x =
    let k : n ≡ n + 0 = omega arith in
    append-nil (text n x) ∙ ap (λ i. text i x) k
numbered-push text n (y ∷ ys) x =
    let k : n + 1 + length ys ≡ n + length (y ∷ ys) = omega arith in
    ap (λ w. text n y ++ w) (numbered-push text (n + 1) ys x)
    ∙ ap (λ i. text n y ++ (numbered text (n + 1) ys ++ text i x)) k
    ∙ sym (append_assoc (text n y) (numbered text (n + 1) ys) (text (n + length (y ∷ ys)) x))

-- The objects of one kind are read from their texts.
pub all-is : {X : Type 0} (form : Form) (object : ObjectOf X) (text : ℕ → X → List ℕ) → Spells form object text → (room : ℕ) (s : Scan) (y : List X × Scan) → many form object room [] s ≡ Ok y
    → s.text ≡ numbered text 0 y.0 ++ y.1.text
all-is {X} form object text spells room s y h =
    let step : (left : ℕ) (xs : List X) (r : Scan) (g : List ℕ × List ℕ) (x : X) (after : Scan) → s.text ≡ numbered text 0 xs ++ r.text → form r.text ≡ Some g → object xs g r ≡ Ok (x, after)
    → s.text ≡ numbered text 0 (xs ++ x ∷ []) ++ after.text = λ left xs r g x after so_far f o.
    let n : length xs ≡ 0 + length xs = omega arith in
    let more : numbered text 0 xs ++ text (length xs) x ≡ numbered text 0 (xs ++ x ∷ []) = ap (λ i. numbered text 0 xs ++ text i x) n ∙ sym (numbered-push text 0 xs x) in
    then s.text (numbered text 0 xs) r.text (text (length xs) x) after.text so_far (spells xs r g x after f o) ∙ ap (λ w. w ++ after.text) more in
    (keeps form object (λ _ xs r. s.text ≡ numbered text 0 xs ++ r.text) step room [] s y refl h).1
