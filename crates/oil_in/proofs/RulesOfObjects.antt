-- What holds of the events, resources and counters that are read.
use Rattle.std.proofs.Common.{◌≡◌, ◌≢◌, ℕ, suc, ◌+◌, ◌≤◌, ◌++◌, ◌∷◌, [], List, Bool, false, codes, length, All, Some, Ok, subst, arith, length-append}
use Rattle.std.specs.List.{list_any}
use Rattle.std.proofs.lemmas.List.Elements.{All-push}
use Rattle.std.proofs.lemmas.List.Quantifiers.{all_pairs_push}
use Rattle.osek_core.specs.declared.tables.Name.{Name}
use Rattle.osek_core.specs.declared.tables.CounterRow.{CounterRow}
use Rattle.osek_core.specs.declared.tables.CounterRule.{CounterRule}
use Rattle.osek_core.specs.Tables.Limits.{IsCounterRule}
use Rattle.oil_in.specs.Forms.{header}
use Rattle.oil_in.specs.Scan.{Scan, next, many}
use Rattle.oil_in.specs.Objects.{object_end, fresh, is_named, mask_at, event_at, property_at, resource_at, max_at, base_at, min_at, counter_rule_at, counter_at}
use Rattle.oil_in.specs.Says.{IsName}
use Rattle.oil_in.proofs.Inversion.{same_Ok, bind_ok, if_not_ok}
use Rattle.oil_in.proofs.ManyLemmas.{Form, ObjectOf, keeps}
use Rattle.oil_in.proofs.Distinct.{Distinct, IsNew, others_differ}
use Rattle.oil_in.proofs.RulesOfForms.{named_in, is_between}

-- an object that is read has a new name, and keeps its rule
abbrev pub Obeys : {X : Type 0} → Form → ObjectOf X → (X → Name) → (X → Type 0) → Type 0
Obeys {X} form object name Rule = (xs : List X) (s : Scan) (h : List ℕ × List ℕ) (x : X) (after : Scan) → form s.text ≡ Some h → object xs h s ≡ Ok (x, after) → IsNew name xs x × Rule x

-- there are few, their names differ and have the form of one, and each keeps its rule
pub record Obeyed {X : Type 0} (name : X → Name) (Rule : X → Type 0) (limit : ℕ) (xs : List X) : Type 0 where
  pub small : length xs ≤ limit
  pub distinct : Distinct name xs
  pub names : All (λ x. IsName (name x)) xs
  pub rules : All Rule xs

pub all-obey : {X : Type 0} (form : Form) (object : ObjectOf X) (name : X → Name) (Rule : X → Type 0) → Obeys form object name Rule → (limit : ℕ) (s : Scan) (y : List X × Scan) → many form object limit [] s ≡ Ok y
    → Obeyed name Rule limit y.0
all-obey {X} form object name Rule obeys limit s y h =
    let Holds : ℕ → List X → Scan → Type 0 = λ room xs _. (length xs + room ≡ limit) × Distinct name xs × All (λ x. IsName (name x)) xs × All Rule xs in
    let step : (room : ℕ) (xs : List X) (r : Scan) (g : List ℕ × List ℕ) (x : X) (after : Scan) → Holds (suc room) xs r → form r.text ≡ Some g → object xs g r ≡ Ok (x, after) → Holds room (xs ++ x ∷ []) after =
    λ room xs r g x after so_far f o.
    let is = obeys xs r g x after f o in (
      omega (arith, so_far.0, length-append xs (x ∷ [])),
      all_pairs_push (λ a b. (name a).text ≢ (name b).text) xs x so_far.1 (others_differ name xs x is.0.0),
      All-push (λ z. IsName (name z)) xs x so_far.2 is.0.1,
      All-push Rule xs x so_far.3 is.1,
    ) in
    let start : Holds limit [] s = (omega arith, λ i j d lt within. absurd (omega arith), λ k d lt. absurd (omega arith), λ k d lt. absurd (omega arith)) in
    let end = keeps form object Holds step limit [] s y start h in
    record { small = omega (arith, end.1.0); distinct = end.1.1; names = end.1.2; rules = end.1.3 }

pub fresh_new : (stands : Bool) (rest : List ℕ) (s after : Scan) → fresh stands rest s ≡ Ok after → stands ≡ false
fresh_new stands rest s after h = (if_not_ok stands _ (Ok (next s rest)) after h).0

pub event-obeys : Obeys (header (codes "  EVENT e_")) event_at (λ name. name) (λ _. Unit {0})
unfolding event_at
event-obeys events s h name after e o =
    let fresh_one = bind_ok (fresh (list_any (is_named h.0) events) h.1 s) _ (name, after) o in
    let masked = bind_ok (mask_at (length events) fresh_one.0) _ (name, after) fresh_one.2 in
    let end = bind_ok (object_end masked.0) _ (name, after) masked.2 in
    let made : (record { text = h.0 }, end.0) ≡ (name, after) = same_Ok _ _ end.2 in
    let P : Name × Scan → Type 0 = λ y. IsNew (λ (n : Name). n) events y.0 in
    (subst P made (fresh_new _ h.1 s fresh_one.0 fresh_one.1, named_in (codes "  EVENT e_") (codes " {\n") s.text h e), tt)

pub resource-obeys : Obeys (header (codes "  RESOURCE r_")) resource_at (λ name. name) (λ _. Unit {0})
unfolding resource_at
resource-obeys resources s h name after e o =
    let fresh_one = bind_ok (fresh (list_any (is_named h.0) resources) h.1 s) _ (name, after) o in
    let property = bind_ok (property_at fresh_one.0) _ (name, after) fresh_one.2 in
    let end = bind_ok (object_end property.0) _ (name, after) property.2 in
    let made : (record { text = h.0 }, end.0) ≡ (name, after) = same_Ok _ _ end.2 in
    let P : Name × Scan → Type 0 = λ y. IsNew (λ (n : Name). n) resources y.0 in
    (subst P made (fresh_new _ h.1 s fresh_one.0 fresh_one.1, named_in (codes "  RESOURCE r_") (codes " {\n") s.text h e), tt)

rule_is : (s : Scan) (x : CounterRule × Scan) → counter_rule_at s ≡ Ok x → IsCounterRule x.0
unfolding counter_rule_at max_at base_at min_at
rule_is s x h =
    let max = bind_ok (max_at s) _ x h in
    let base = bind_ok (base_at max.0.1) _ x max.2 in
    let min = bind_ok (min_at max.0.0 base.0.1) _ x base.2 in
    let made : (record { max = max.0.0; base = base.0.0; min = min.0.0 }, min.0.1) ≡ x = same_Ok _ x min.2 in
    let a = is_between (codes "    MAXALLOWEDVALUE = ") 1 2147483647 s max.0 max.1 in
    let b = is_between (codes "    TICKSPERBASE = ") 1 65535 max.0.1 base.0 base.1 in
    let c = is_between (codes "    MINCYCLE = ") 1 max.0.0 base.0.1 min.0 min.1 in
    let P : CounterRule × Scan → Type 0 = λ y. IsCounterRule y.0 in
    subst P made (record { max_at_least = a.0; max_at_most = a.1; base_at_least = b.0; base_at_most = b.1; min_at_least = c.0; min_at_most = c.1 })

pub counter-obeys : Obeys (header (codes "  COUNTER c_")) counter_at (λ (row : CounterRow). row.name) (λ row. IsCounterRule row.rule)
unfolding counter_at
counter-obeys counters s h row after e o =
    let fresh_one = bind_ok (fresh (list_any (λ row. is_named h.0 row.name) counters) h.1 s) _ (row, after) o in
    let rule = bind_ok (counter_rule_at fresh_one.0) _ (row, after) fresh_one.2 in
    let end = bind_ok (object_end rule.0.1) _ (row, after) rule.2 in
    let made : (record { name = record { text = h.0 }; rule = rule.0.0 }, end.0) ≡ (row, after) = same_Ok _ _ end.2 in
    let P : CounterRow × Scan → Type 0 = λ y. IsNew (λ (other : CounterRow). other.name) counters y.0 × IsCounterRule y.0.rule in
    subst P made ((fresh_new _ h.1 s fresh_one.0 fresh_one.1, named_in (codes "  COUNTER c_") (codes " {\n") s.text h e), rule_is fresh_one.0 rule.0 rule.1)
