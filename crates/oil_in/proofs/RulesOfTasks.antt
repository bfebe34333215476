-- What holds of the tasks that are read.
use Rattle.std.proofs.Common.{◌≡◌, ◌≢◌, ◌↔◌, ℕ, ◌+◌, ◌-◌, ◌<◌, ◌≤◌, ◌⊎◌, inl, inr, ◌++◌, ◌∷◌, [], List, Bool, true, false, codes, length, get_or, All, Some, Ok, refl, ap, sym, subst, ◌∙◌, arith, length-append, true≢false, eqb-true, eq-or-lt_of_le}
use Rattle.std.proofs.Math.Seq.{get_or-append_seam}
use Rattle.std.specs.Prelude.{position, slice_get, ◌==◌}
use Rattle.std.specs.List.{list_any}
use Rattle.std.specs.List.Sorted.{IsStrictlyIncreasing}
use Rattle.std.specs.Option.{option_map_or}
use Rattle.std.proofs.lemmas.List.{get_or_append_left}
use Rattle.std.proofs.lemmas.List.Elements.{All-push}
use Rattle.std.proofs.lemmas.List.Quantifiers.{position-Some}
use Rattle.std.proofs.lemmas.Option.{slice_get-get_or}
use Rattle.osek_core.specs.declared.tables.Name.{Name}
use Rattle.osek_core.specs.declared.tables.TaskRow.{TaskRow}
use Rattle.osek_core.specs.declared.tables.Tables.{Tables}
use Rattle.osek_core.specs.Tables.WellConfigured.{IsTaskOf}
use Rattle.oil_in.specs.Forms.{header, reference}
use Rattle.oil_in.specs.Scan.{Scan, next}
use Rattle.oil_in.specs.Objects.{object_end, fresh, is_named}
use Rattle.oil_in.specs.Tasks.{least, place_at, places_at, has_any, priority_at, schedule_at, activations_at, auto_at, used_at, waited_at, task_body_at, task_at}
use Rattle.oil_in.specs.Says.{IsName}
use Rattle.oil_in.proofs.Inversion.{same_Ok, bind_ok}
use Rattle.oil_in.proofs.ManyLemmas.{keeps}
use Rattle.oil_in.proofs.TextOfRows.{placed_is}
use Rattle.oil_in.proofs.RulesOfForms.{named_in, is_between}
use Rattle.oil_in.proofs.RulesOfObjects.{Obeys, fresh_new}

-- a number that is no less than the least place that rises goes behind
rises-push : (ks : List ℕ) (k : ℕ) → IsStrictlyIncreasing ks → least ks ≤ k → IsStrictlyIncreasing (ks ++ k ∷ [])
rises-push ks k rise above i within =
    let n : length (ks ++ k ∷ []) ≡ length ks + 1 = length-append ks (k ∷ []) in
    let here : get_or (ks ++ k ∷ []) i 0 ≡ get_or ks i 0 = get_or_append_left ks (k ∷ []) 0 i (omega (arith, n)) in
    let le : i + 1 ≤ length ks = omega (arith, n) in
    let goes_on : i + 1 < length ks → get_or (ks ++ k ∷ []) i 0 < get_or (ks ++ k ∷ []) (i + 1) 0 = λ lt.
    omega (arith, here, get_or_append_left ks (k ∷ []) 0 (i + 1) lt, rise i lt) in
    let ends : i + 1 ≡ length ks → get_or (ks ++ k ∷ []) i 0 < get_or (ks ++ k ∷ []) (i + 1) 0 = λ last.
    let place : length ks - 1 ≡ i = omega (arith, last) in
    let low : least ks ≡ get_or ks i 0 + 1 = ap (λ j. option_map_or (λ x. x + 1) (slice_get ks j) 0) place ∙ ap (λ o. option_map_or (λ x. x + 1) o 0) (slice_get-get_or ks i 0 (omega (arith, last))) in
    let end : get_or (ks ++ k ∷ []) (i + 1) 0 ≡ k = ap (λ j. get_or (ks ++ k ∷ []) j 0) last ∙ get_or-append_seam ks k [] 0 in
    omega (arith, here, end, low, above) in
    elim (eq-or-lt_of_le le) [ inl last ↦ ends last | inr lt ↦ goes_on lt ]

-- the places that lines of a task name
pub record PlacesObey (may : Bool) (n : ℕ) (ks : List ℕ) : Type 0 where
  pub within : All (λ k. k < n) ks
  pub rise : IsStrictlyIncreasing ks
  pub may_be : (ks ≡ []) ⊎ (may ≡ true)

found_within : (names : List Name) (text : List ℕ) (k : ℕ) → position (is_named text) names ≡ Some k → k < length names
found_within names text k h = (position-Some (is_named text) names k (record { text = [] }) h).0

pub places_obey : (front : List ℕ) (may : Bool) (names : List Name) (s : Scan) (y : List ℕ × Scan) → places_at front may names s ≡ Ok y → PlacesObey may (length names) y.0
unfolding places_at place_at
places_obey front may names s y h =
    let Holds : ℕ → List ℕ → Scan → Type 0 = λ _ ks _. PlacesObey may (length names) ks in
    let step : (room : ℕ) (ks : List ℕ) (r : Scan) (g : List ℕ × List ℕ) (k : ℕ) (after : Scan) → PlacesObey may (length names) ks → reference front r.text ≡ Some g → place_at may names ks g r ≡ Ok (k, after)
    → PlacesObey may (length names) (ks ++ k ∷ []) = λ room ks r g k after so_far f o.
    let p = placed_is may (least ks) (position (is_named g.0) names) r (next r g.1) (k, after) o in
    record {
      within = All-push (λ j. j < length names) ks k so_far.within (found_within names g.0 k p.0);
      rise = rises-push ks k so_far.rise p.3;
      may_be = inr p.2;
    } in
    let start : PlacesObey may (length names) [] = record { within = λ k d lt. absurd (omega arith); rise = λ k lt. absurd (omega arith); may_be = inl refl } in
    (keeps (reference front) (place_at may names) Holds step (length names + 1) [] s y start h).1

extended_just : (ks : List ℕ) → (has_any ks ≡ true) ↔ (ks ≢ [])
extended_just [] = (λ e. absurd (true≢false (sym e)), λ some. absurd (some refl))
extended_just (k ∷ ks) = (λ _ e. let n : length (k ∷ ks) ≡ 0 = ap (λ (js : List ℕ). length js) e in omega (arith, n), λ _. refl)

one_activation : (n : ℕ) (ks : List ℕ) → (ks ≡ []) ⊎ ((n == 1) ≡ true) → has_any ks ≡ true → n ≡ 1
one_activation n ks (inl none) some = absurd ((extended_just ks).0 some none)
one_activation n ks (inr one) some = eqb-true n 1 one

body_obeys : (tables : Tables) (text : List ℕ) (s : Scan) (x : TaskRow × Scan) → task_body_at tables.resources tables.events text s ≡ Ok x → (text ≡ x.0.name.text) × IsTaskOf tables x.0
unfolding task_body_at priority_at activations_at used_at waited_at
body_obeys tables text s x h =
    let a = bind_ok (priority_at s) _ x h in
    let b = bind_ok (schedule_at a.0.1) _ x a.2 in
    let c = bind_ok (activations_at b.0.1) _ x b.2 in
    let d = bind_ok (auto_at c.0.1) _ x c.2 in
    let e = bind_ok (used_at tables.resources d.0.1) _ x d.2 in
    let f = bind_ok (waited_at (c.0.0 == 1) tables.events e.0.1) _ x e.2 in
    let g = bind_ok (object_end f.0.1) _ x f.2 in
    let row : TaskRow = record { name = record { text = text }; rule = record { priority = a.0.0; activations = c.0.0; preemptable = b.0.0; extended = has_any f.0.0 }; auto = d.0.0; resources = e.0.0; events = f.0.0 } in
    let made : (row, g.0) ≡ x = same_Ok (row, g.0) x g.2 in
    let priority = is_between (codes "    PRIORITY = ") 0 63 s a.0 a.1 in
    let activations = is_between (codes "    ACTIVATION = ") 1 15 b.0.1 c.0 c.1 in
    let used = places_obey (codes "    RESOURCE = r_") true tables.resources d.0.1 e.0 e.1 in
    let waited = places_obey (codes "    EVENT = e_") (c.0.0 == 1) tables.events e.0.1 f.0 f.1 in
    let is : IsTaskOf tables row = record {
      rule = record { priority = priority.1; at_least_one = activations.0; at_most = activations.1; extended = one_activation c.0.0 f.0.0 waited.may_be };
      resources = used.within;
      resources_rise = used.rise;
      events = waited.within;
      events_rise = waited.rise;
      extended = extended_just f.0.0;
    } in
    let P : TaskRow × Scan → Type 0 = λ y. (text ≡ y.0.name.text) × IsTaskOf tables y.0 in
    subst P made (refl, is)

pub task-obeys : (tables : Tables) → Obeys (header (codes "  TASK t_")) (task_at tables.resources tables.events) (λ (row : TaskRow). row.name) (IsTaskOf tables)
unfolding task_at
task-obeys tables tasks s h row after e o =
    let fresh_one = bind_ok (fresh (list_any (λ other. is_named h.0 other.name) tasks) h.1 s) _ (row, after) o in
    let body = body_obeys tables h.0 fresh_one.0 (row, after) fresh_one.2 in
    let Q : List ℕ → Type 0 = λ text. (list_any (λ (other : TaskRow). is_named text other.name) tasks ≡ false) × IsName (record { text = text }) in
    (subst Q body.0 (fresh_new _ h.1 s fresh_one.0 fresh_one.1, named_in (codes "  TASK t_") (codes " {\n") s.text h e), body.1)
