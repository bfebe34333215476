-- What stands at the front of the text where resources, counters, tasks and alarms are read.
use Rattle.std.proofs.Common.{◌≡◌, ℕ, ◌+◌, ◌<◌, ◌++◌, ◌∷◌, [], List, Bool, true, false, cond, codes, decimal, length, get_or, flat_map, Option, Some, None, Ok, refl, ap, sym, subst, ◌∙◌, arith, ltb-false, ◌≤◌}
use Rattle.std.specs.Prelude.{nat_lt, position, slice_get}
use Rattle.std.specs.List.{list_any, position_or_len}
use Rattle.std.specs.Option.{option_map_or}
use Rattle.std.proofs.lemmas.Bool.Decides.{nat_tests}
use Rattle.std.proofs.lemmas.List.Sums.{passes_at_first}
use Rattle.std.proofs.lemmas.Option.{none-some, same_Some, slice_get-get_or}
use Rattle.std.proofs.lemmas.Slice.Eq.{bytes_eq-Decides}
use Rattle.kes_text.specs.Numbered.{numbered}
use Rattle.osek_core.specs.declared.tables.Name.{Name}
use Rattle.osek_core.specs.declared.tables.CounterRow.{CounterRow}
use Rattle.osek_core.specs.declared.tables.CounterRule.{CounterRule}
use Rattle.oil_out.specs.OilText.{attribute, resource_text, counter_text, name_at, schedule_text, activation_text}
use Rattle.oil_in.specs.Pieces.{behind}
use Rattle.oil_in.specs.Forms.{header, reference, picked, choice}
use Rattle.oil_in.specs.Scan.{Scan, next, line, many}
use Rattle.oil_in.specs.Objects.{object_end, fresh, is_named, property_at, resource_at, max_at, base_at, min_at, counter_rule_at, counter_at}
use Rattle.oil_in.specs.Tasks.{least, placed, place_at, places_at, used_at, waited_at, priority_at, schedule_at, activations_at, auto_at}
use Rattle.oil_in.proofs.PieceLemmas.{if_some, behind-is}
use Rattle.oil_in.proofs.Inversion.{err-ok, same_Ok, bind_ok, if_ok, if_not_ok, line_ok}
use Rattle.oil_in.proofs.TextOfForms.{name_in-is, object-whole, reference-whole, then}
use Rattle.oil_in.proofs.TextOfObjects.{Spells, fixed-is, number_between-is, end-is, fresh_is, all-is}
use Rattle.oil_in.proofs.ManyLemmas.{Form, ObjectOf}

-- texts that don't tell their number
pub plain : {X : Type 0} (text : X → List ℕ) (n : ℕ) (xs : List X) → numbered (λ _ x. text x) n xs ≡ flat_map text xs
plain text n [] = refl
plain text n (x ∷ xs) = ap (λ (w : List ℕ). text x ++ w) (plain text (n + 1) xs)

pub all_plain : {X : Type 0} (form : Form) (object : ObjectOf X) (text : X → List ℕ) → Spells form object (λ _ x. text x) → (room : ℕ) (s : Scan) (y : List X × Scan) → many form object room [] s ≡ Ok y
    → s.text ≡ flat_map text y.0 ++ y.1.text
all_plain form object text spells room s y h = all-is form object (λ _ x. text x) spells room s y h ∙ ap (λ (w : List ℕ). w ++ y.1.text) (plain text 0 y.0)

property_is : (s after : Scan) → property_at s ≡ Ok after → s.text ≡ attribute (codes "RESOURCEPROPERTY") (codes "STANDARD") ++ after.text
unfolding property_at attribute
property_is s after h = fixed-is (codes "    RESOURCEPROPERTY = STANDARD;\n") s after h

pub resource-is : Spells (header (codes "  RESOURCE r_")) resource_at (λ _ name. resource_text name)
unfolding resource_at resource_text
resource-is resources s h name after e o =
    let fresh_one = bind_ok (fresh (list_any (is_named h.0) resources) h.1 s) _ (name, after) o in
    let property = bind_ok (property_at fresh_one.0) _ (name, after) fresh_one.2 in
    let end = bind_ok (object_end property.0) _ (name, after) property.2 in
    let made : (record { text = h.0 }, end.0) ≡ (name, after) = same_Ok _ _ end.2 in
    let body : h.1 ≡ attribute (codes "RESOURCEPROPERTY") (codes "STANDARD") ++ (codes "  };\n" ++ end.0.text) =
    fresh_is _ h.1 s fresh_one.0 fresh_one.1
    ∙ property_is fresh_one.0 property.0 property.1
    ∙ ap (λ (w : List ℕ). attribute (codes "RESOURCEPROPERTY") (codes "STANDARD") ++ w) (end-is property.0 end.0 end.1) in
    let whole : s.text ≡ resource_text (record { text = h.0 }) ++ end.0.text =
    object-whole (codes "RESOURCE") (codes "r_") h.0 (attribute (codes "RESOURCEPROPERTY") (codes "STANDARD")) s.text h.1 end.0.text (name_in-is (codes "  RESOURCE r_") (codes " {\n") s.text h e) body in
    let P : Name × Scan → Type 0 = λ x. s.text ≡ resource_text x.0 ++ x.1.text in
    subst P made whole

max_is : (s : Scan) (x : ℕ × Scan) → max_at s ≡ Ok x → s.text ≡ attribute (codes "MAXALLOWEDVALUE") (decimal x.0) ++ x.1.text
unfolding max_at
max_is s x h = number_between-is (codes "MAXALLOWEDVALUE") 1 2147483647 s x.0 x.1 h

base_is : (s : Scan) (x : ℕ × Scan) → base_at s ≡ Ok x → s.text ≡ attribute (codes "TICKSPERBASE") (decimal x.0) ++ x.1.text
unfolding base_at
base_is s x h = number_between-is (codes "TICKSPERBASE") 1 65535 s x.0 x.1 h

min_is : (max : ℕ) (s : Scan) (x : ℕ × Scan) → min_at max s ≡ Ok x → s.text ≡ attribute (codes "MINCYCLE") (decimal x.0) ++ x.1.text
unfolding min_at
min_is max s x h = number_between-is (codes "MINCYCLE") 1 max s x.0 x.1 h

abbrev pub rule_text : CounterRule → List ℕ
rule_text rule = attribute (codes "MAXALLOWEDVALUE") (decimal rule.max) ++ attribute (codes "TICKSPERBASE") (decimal rule.base) ++ attribute (codes "MINCYCLE") (decimal rule.min)

rule_is : (s : Scan) (x : CounterRule × Scan) → counter_rule_at s ≡ Ok x → s.text ≡ rule_text x.0 ++ x.1.text
unfolding counter_rule_at
rule_is s x h =
    let max = bind_ok (max_at s) _ x h in
    let base = bind_ok (base_at max.0.1) _ x max.2 in
    let min = bind_ok (min_at max.0.0 base.0.1) _ x base.2 in
    let made : (record { max = max.0.0; base = base.0.0; min = min.0.0 }, min.0.1) ≡ x = same_Ok _ x min.2 in
    let P : CounterRule × Scan → Type 0 = λ y. s.text ≡ rule_text y.0 ++ y.1.text in
    let two = then s.text (attribute (codes "MAXALLOWEDVALUE") (decimal max.0.0)) max.0.1.text (attribute (codes "TICKSPERBASE") (decimal base.0.0)) base.0.1.text (max_is s max.0 max.1) (base_is max.0.1 base.0 base.1) in
    subst P made (then s.text (attribute (codes "MAXALLOWEDVALUE") (decimal max.0.0) ++ attribute (codes "TICKSPERBASE") (decimal base.0.0)) base.0.1.text (attribute (codes "MINCYCLE") (decimal min.0.0)) min.0.1.text two (min_is max.0.0 base.0.1 min.0 min.1))

pub counter-is : Spells (header (codes "  COUNTER c_")) counter_at (λ _ row. counter_text row)
unfolding counter_at counter_text
counter-is counters s h row after e o =
    let fresh_one = bind_ok (fresh (list_any (λ row. is_named h.0 row.name) counters) h.1 s) _ (row, after) o in
    let rule = bind_ok (counter_rule_at fresh_one.0) _ (row, after) fresh_one.2 in
    let end = bind_ok (object_end rule.0.1) _ (row, after) rule.2 in
    let made : (record { name = record { text = h.0 }; rule = rule.0.0 }, end.0) ≡ (row, after) = same_Ok _ _ end.2 in
    let body : h.1 ≡ rule_text rule.0.0 ++ (codes "  };\n" ++ end.0.text) =
    fresh_is _ h.1 s fresh_one.0 fresh_one.1
    ∙ rule_is fresh_one.0 rule.0 rule.1
    ∙ ap (λ (w : List ℕ). rule_text rule.0.0 ++ w) (end-is rule.0.1 end.0 end.1) in
    let whole : s.text ≡ counter_text (record { name = record { text = h.0 }; rule = rule.0.0 }) ++ end.0.text =
    object-whole (codes "COUNTER") (codes "c_") h.0 (rule_text rule.0.0) s.text h.1 end.0.text (name_in-is (codes "  COUNTER c_") (codes " {\n") s.text h e) body in
    let P : CounterRow × Scan → Type 0 = λ x. s.text ≡ counter_text x.0 ++ x.1.text in
    subst P made whole

-- what is found by its name has the name
pub position-named : {X : Type 0} (name : X → Name) (xs : List X) (t : List ℕ) (k : ℕ) → position (λ x. is_named t (name x)) xs ≡ Some k
    → option_map_or (λ x. (name x).text) (slice_get xs k) [] ≡ t
position-named name [] t k h = absurd (none-some k h)
position-named {X} name (d ∷ xs) t k h =
    let p : X → Bool = λ x. is_named t (name x) in
    let all : List X = d ∷ xs in
    let at = if_some (nat_lt (position_or_len p all) (length all)) (Some (position_or_len p all)) k h in
    let lt : position_or_len p all < length all = grind (arith, nat_tests, at.0) in
    let same : position_or_len p all ≡ k = same_Some (position_or_len p all) k at.1 in
    let found = slice_get-get_or all (position_or_len p all) d lt in
    let passes : p (get_or all (position_or_len p all) d) ≡ true = passes_at_first p all d lt in
    ap (λ (i : ℕ). option_map_or (λ x. (name x).text) (slice_get all i) []) (sym same)
    ∙ ap (λ (o : Option X). option_map_or (λ x. (name x).text) o []) found
    ∙ (bytes_eq-Decides (name (get_or all (position_or_len p all) d)).text t).0 passes

choice_is : (one other bytes : List ℕ) (x : Bool × List ℕ) → choice one other bytes ≡ Some x → bytes ≡ cond x.0 one other ++ x.1
unfolding choice
choice_is one other bytes x h =
    elim (behind one bytes) as (λ o. behind one bytes ≡ o → picked o (behind other bytes) ≡ Some x → bytes ≡ cond x.0 one other ++ x.1) [
      | Some rest ↦ λ b e.
          let P : Bool × List ℕ → Type 0 = λ y. bytes ≡ cond y.0 one other ++ y.1 in
          subst P (same_Some (true, rest) x e) (behind-is one bytes rest b)
      | None ↦ λ b e. elim (behind other bytes) as (λ o. behind other bytes ≡ o → picked None o ≡ Some x → bytes ≡ cond x.0 one other ++ x.1) [
        | Some rest ↦ λ c f.
            let P : Bool × List ℕ → Type 0 = λ y. bytes ≡ cond y.0 one other ++ y.1 in
            subst P (same_Some (false, rest) x f) (behind-is other bytes rest c)
        | None ↦ λ c f. absurd (none-some x f)
      ] refl e
    ] refl h

-- the same of a line
chosen_is : (one other : List ℕ) (s : Scan) (y : Bool × Scan) → line (choice one other s.text) s ≡ Ok y → s.text ≡ cond y.0 one other ++ y.1.text
chosen_is one other s y h =
    let l = line_ok (choice one other s.text) s y h in
    let P : Bool × Scan → Type 0 = λ z. s.text ≡ cond z.0 one other ++ z.1.text in
    subst P l.2 (choice_is one other s.text l.0 l.1)

pub schedule_words : (full : Bool) → cond full (codes "    SCHEDULE = FULL;\n") (codes "    SCHEDULE = NON;\n") ≡ attribute (codes "SCHEDULE") (schedule_text full)
unfolding attribute
schedule_words true = refl
schedule_words false = refl

pub auto_words : (auto : Bool) → cond auto (codes "    AUTOSTART = TRUE { APPMODE = mode; };\n") (codes "    AUTOSTART = FALSE;\n") ≡ attribute (codes "AUTOSTART") (activation_text auto)
unfolding attribute
auto_words true = refl
auto_words false = refl

pub schedule_is : (s : Scan) (y : Bool × Scan) → schedule_at s ≡ Ok y → s.text ≡ attribute (codes "SCHEDULE") (schedule_text y.0) ++ y.1.text
unfolding schedule_at
schedule_is s y h =
    chosen_is (codes "    SCHEDULE = FULL;\n") (codes "    SCHEDULE = NON;\n") s y h ∙ ap (λ (w : List ℕ). w ++ y.1.text) (schedule_words y.0)

pub auto_is : (s : Scan) (y : Bool × Scan) → auto_at s ≡ Ok y → s.text ≡ attribute (codes "AUTOSTART") (activation_text y.0) ++ y.1.text
unfolding auto_at
auto_is s y h =
    chosen_is (codes "    AUTOSTART = TRUE { APPMODE = mode; };\n") (codes "    AUTOSTART = FALSE;\n") s y h ∙ ap (λ (w : List ℕ). w ++ y.1.text) (auto_words y.0)

pub priority_is : (s : Scan) (x : ℕ × Scan) → priority_at s ≡ Ok x → s.text ≡ attribute (codes "PRIORITY") (decimal x.0) ++ x.1.text
unfolding priority_at
priority_is s x h = number_between-is (codes "PRIORITY") 0 63 s x.0 x.1 h

pub activations_is : (s : Scan) (x : ℕ × Scan) → activations_at s ≡ Ok x → s.text ≡ attribute (codes "ACTIVATION") (decimal x.0) ++ x.1.text
unfolding activations_at
activations_is s x h = number_between-is (codes "ACTIVATION") 1 15 s x.0 x.1 h

pub placed_is : (may : Bool) (low : ℕ) (o : Option ℕ) (s behind : Scan) (y : ℕ × Scan) → placed may low o s behind ≡ Ok y → (o ≡ Some y.0) × (behind ≡ y.1) × (may ≡ true) × (low ≤ y.0)
placed_is true low None s behind y h = absurd (err-ok _ y h)
placed_is false low None s behind y h = absurd (err-ok _ y h)
placed_is may low (Some k) s behind y h =
    let p = if_not_ok (nat_lt k low) _ _ y h in
    let q = if_ok may _ (Ok (k, behind)) y p.1 in
    let e : (k, behind) ≡ y = same_Ok (k, behind) y q.1 in
    let P : ℕ × Scan → Type 0 = λ z. low ≤ z.0 in
    (ap (λ (z : ℕ × Scan). Some z.0) e, ap (λ (z : ℕ × Scan). z.1) e, q.0, subst P e (ltb-false k low p.0))

place_is : (name prefix : List ℕ) (may : Bool) (names : List Name)
    → Spells (reference (codes "    " ++ name ++ codes " = " ++ prefix)) (place_at may names) (λ _ k. attribute name (prefix ++ name_at names k))
unfolding place_at
place_is name prefix may names places s h k after e o =
    let p = placed_is may (least places) (position (is_named h.0) names) s (next s h.1) (k, after) o in
    let word : h.0 ≡ name_at names k = sym (position-named (λ name. name) names h.0 k p.0) in
    name_in-is (codes "    " ++ name ++ codes " = " ++ prefix) (codes ";\n") s.text h e
    ∙ reference-whole name prefix h.0 h.1
    ∙ ap (λ (w : List ℕ). attribute name (prefix ++ w) ++ h.1) word
    ∙ ap (λ (r : Scan). attribute name (prefix ++ name_at names k) ++ r.text) p.1

places_is : (name prefix : List ℕ) (may : Bool) (names : List Name) (s : Scan) (y : List ℕ × Scan) → places_at (codes "    " ++ name ++ codes " = " ++ prefix) may names s ≡ Ok y
    → s.text ≡ flat_map (λ k. attribute name (prefix ++ name_at names k)) y.0 ++ y.1.text
unfolding places_at
places_is name prefix may names s y h =
    all_plain (reference (codes "    " ++ name ++ codes " = " ++ prefix)) (place_at may names) (λ k. attribute name (prefix ++ name_at names k)) (place_is name prefix may names) (length names + 1) s y h

pub used_is : (resources : List Name) (s : Scan) (y : List ℕ × Scan) → used_at resources s ≡ Ok y
    → s.text ≡ flat_map (λ k. attribute (codes "RESOURCE") (codes "r_" ++ name_at resources k)) y.0 ++ y.1.text
unfolding used_at
used_is resources s y h = places_is (codes "RESOURCE") (codes "r_") true resources s y h

pub waited_is : (may : Bool) (events : List Name) (s : Scan) (y : List ℕ × Scan) → waited_at may events s ≡ Ok y
    → s.text ≡ flat_map (λ k. attribute (codes "EVENT") (codes "e_" ++ name_at events k)) y.0 ++ y.1.text
unfolding waited_at
waited_is may events s y h = places_is (codes "EVENT") (codes "e_") may events s y h
