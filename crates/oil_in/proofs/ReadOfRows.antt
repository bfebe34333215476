-- What is read where the lines of resources, counters and tasks stand.
use Rattle.std.proofs.Common.{◌≡◌, ◌≢◌, ℕ, zero, suc, ◌+◌, ◌-◌, ◌<◌, ◌≤◌, ◌++◌, ◌∷◌, [], List, Bool, true, false, cond, codes, decimal, length, get_or, flat_map, All, Option, Some, None, Ok, refl, ap, sym, subst, ◌∙◌, arith, le-ltb, length-append}
use Rattle.std.proofs.Math.Seq.{get_or-append_seam}
use Rattle.std.specs.Prelude.{slice_get}
use Rattle.std.specs.List.Sorted.{IsStrictlyIncreasing}
use Rattle.std.specs.Option.{option_map_or}
use Rattle.std.proofs.lemmas.List.{get_or_append_left}
use Rattle.std.proofs.lemmas.Option.{slice_get_within, get_or_from_slice_get}
use Rattle.osek_core.specs.declared.tables.Name.{Name}
use Rattle.osek_core.specs.declared.tables.CounterRow.{CounterRow}
use Rattle.osek_core.specs.declared.tables.CounterRule.{CounterRule}
use Rattle.osek_core.specs.Tables.Limits.{IsCounterRule}
use Rattle.oil_out.specs.OilText.{attribute, resource_text, counter_text, name_at, schedule_text, activation_text}
use Rattle.oil_in.specs.Pieces.{behind}
use Rattle.oil_in.specs.Forms.{header, reference, name_in, picked, choice}
use Rattle.oil_in.specs.Scan.{Scan, next, line}
use Rattle.oil_in.specs.Objects.{property_at, resource_at, max_at, base_at, min_at, counter_rule_at, counter_at}
use Rattle.oil_in.specs.Tasks.{least, place_at, places_at, used_at, waited_at, priority_at, schedule_at, activations_at, auto_at}
use Rattle.oil_in.specs.Says.{IsName}
use Rattle.oil_in.proofs.PieceLemmas.{behind-front}
use Rattle.oil_in.proofs.InTurn.{at_place, holds_at, InTurn, at_split}
use Rattle.oil_in.proofs.Distinct.{Distinct, IsNew, position-found}
use Rattle.oil_in.proofs.TextOfForms.{reference-whole, three}
use Rattle.oil_in.proofs.TextOfRows.{plain, rule_text, schedule_words, auto_words}
use Rattle.oil_in.proofs.ReadOfForms.{name_in-front, name_in-none, object-front}
use Rattle.oil_in.proofs.ReadOfObjects.{Gives, Passes, Reads, line-read, fixed-read, end-read, number_between-read, many-read}

property-read : (s : Scan) (rest : List ℕ) → s.text ≡ attribute (codes "RESOURCEPROPERTY") (codes "STANDARD") ++ rest → Passes (property_at s) rest
unfolding property_at attribute
property-read s rest e = fixed-read (codes "    RESOURCEPROPERTY = STANDARD;\n") s rest e

pub resource-read : Reads (header (codes "  RESOURCE r_")) resource_at (λ _ name. resource_text name) (IsNew (λ name. name))
unfolding resource_at resource_text
resource-read resources name s rest new e =
    let attributes = attribute (codes "RESOURCEPROPERTY") (codes "STANDARD") in
    let body = attributes ++ (codes "  };\n" ++ rest) in
    let first = object-front (codes "RESOURCE") (codes "r_") name attributes s.text rest new.1 e in
    let property = property-read (next s body) (codes "  };\n" ++ rest) refl in
    let ended = end-read property.after rest property.left in
    ((name.text, body), first, record { after = ended.after; read = rw (new.0, property.read, ended.read) refl; left = ended.left })

max-read : (s : Scan) (n : ℕ) (rest : List ℕ) → 1 ≤ n → n ≤ 2147483647 → s.text ≡ attribute (codes "MAXALLOWEDVALUE") (decimal n) ++ rest → Gives (max_at s) n rest
unfolding max_at
max-read s n rest least most e = number_between-read (codes "MAXALLOWEDVALUE") 1 2147483647 n s rest least most (omega arith) e

base-read : (s : Scan) (n : ℕ) (rest : List ℕ) → 1 ≤ n → n ≤ 65535 → s.text ≡ attribute (codes "TICKSPERBASE") (decimal n) ++ rest → Gives (base_at s) n rest
unfolding base_at
base-read s n rest least most e = number_between-read (codes "TICKSPERBASE") 1 65535 n s rest least most (omega arith) e

min-read : (max : ℕ) (s : Scan) (n : ℕ) (rest : List ℕ) → max ≤ 2147483647 → 1 ≤ n → n ≤ max → s.text ≡ attribute (codes "MINCYCLE") (decimal n) ++ rest → Gives (min_at max s) n rest
unfolding min_at
min-read max s n rest small least most e = number_between-read (codes "MINCYCLE") 1 max n s rest least most (omega arith) e

rule-read : (s : Scan) (rule : CounterRule) (rest : List ℕ) → IsCounterRule rule → s.text ≡ rule_text rule ++ rest → Gives (counter_rule_at s) rule rest
unfolding counter_rule_at
rule-read s rule rest is e =
    let a = attribute (codes "MAXALLOWEDVALUE") (decimal rule.max) in
    let b = attribute (codes "TICKSPERBASE") (decimal rule.base) in
    let c = attribute (codes "MINCYCLE") (decimal rule.min) in
    let max = max-read s rule.max (b ++ (c ++ rest)) is.max_at_least is.max_at_most (e ∙ three a b c rest) in
    let base = base-read max.after rule.base (c ++ rest) is.base_at_least is.base_at_most max.left in
    let min = min-read rule.max base.after rule.min rest is.max_at_most is.min_at_least is.min_at_most base.left in
    record { after = min.after; read = rw (max.read, base.read, min.read) (refl {a = Ok (rule, min.after)}); left = min.left }

pub counter-read : Reads (header (codes "  COUNTER c_")) counter_at (λ _ row. counter_text row) (λ counters row. IsNew (λ (other : CounterRow). other.name) counters row × IsCounterRule row.rule)
unfolding counter_at counter_text
counter-read counters row s rest fits e =
    let body = rule_text row.rule ++ (codes "  };\n" ++ rest) in
    let first = object-front (codes "COUNTER") (codes "c_") row.name (rule_text row.rule) s.text rest fits.0.1 e in
    let rule = rule-read (next s body) row.rule (codes "  };\n" ++ rest) fits.1 refl in
    let ended = end-read rule.after rest rule.left in
    ((row.name.text, body), first, record { after = ended.after; read = rw (fits.0.0, rule.read, ended.read) refl; left = ended.left })

-- ---- which of two lines stands there

choice-front : (one other : List ℕ) (first : Bool) (rest : List ℕ) → behind one (other ++ rest) ≡ None → choice one other (cond first one other ++ rest) ≡ Some (first, rest)
unfolding choice
choice-front one other true rest apart = ap (λ (o : Option (List ℕ)). picked o (behind other (one ++ rest))) (behind-front one rest)
choice-front one other false rest apart = rw (apart, behind-front other rest) refl

schedule-apart : (rest : List ℕ) → behind (codes "    SCHEDULE = FULL;\n") (codes "    SCHEDULE = NON;\n" ++ rest) ≡ None
unfolding behind
schedule-apart rest = refl

auto-apart : (rest : List ℕ) → behind (codes "    AUTOSTART = TRUE { APPMODE = mode; };\n") (codes "    AUTOSTART = FALSE;\n" ++ rest) ≡ None
unfolding behind
auto-apart rest = refl

chosen-read : (one other : List ℕ) (s : Scan) (first : Bool) (rest : List ℕ) → behind one (other ++ rest) ≡ None → s.text ≡ cond first one other ++ rest → Gives (line (choice one other s.text) s) first rest
chosen-read one other s first rest apart e = line-read (choice one other s.text) s first rest (ap (choice one other) e ∙ choice-front one other first rest apart)

pub schedule-read : (s : Scan) (full : Bool) (rest : List ℕ) → s.text ≡ attribute (codes "SCHEDULE") (schedule_text full) ++ rest → Gives (schedule_at s) full rest
unfolding schedule_at
schedule-read s full rest e =
    chosen-read (codes "    SCHEDULE = FULL;\n") (codes "    SCHEDULE = NON;\n") s full rest (schedule-apart rest) (e ∙ ap (λ (w : List ℕ). w ++ rest) (sym (schedule_words full)))

pub auto-read : (s : Scan) (auto : Bool) (rest : List ℕ) → s.text ≡ attribute (codes "AUTOSTART") (activation_text auto) ++ rest → Gives (auto_at s) auto rest
unfolding auto_at
auto-read s auto rest e =
    chosen-read (codes "    AUTOSTART = TRUE { APPMODE = mode; };\n") (codes "    AUTOSTART = FALSE;\n") s auto rest (auto-apart rest) (e ∙ ap (λ (w : List ℕ). w ++ rest) (sym (auto_words auto)))

pub priority-read : (s : Scan) (n : ℕ) (rest : List ℕ) → n ≤ 63 → s.text ≡ attribute (codes "PRIORITY") (decimal n) ++ rest → Gives (priority_at s) n rest
unfolding priority_at
priority-read s n rest most e = number_between-read (codes "PRIORITY") 0 63 n s rest (omega arith) most (omega arith) e

pub activations-read : (s : Scan) (n : ℕ) (rest : List ℕ) → 1 ≤ n → n ≤ 15 → s.text ≡ attribute (codes "ACTIVATION") (decimal n) ++ rest → Gives (activations_at s) n rest
unfolding activations_at
activations-read s n rest least most e = number_between-read (codes "ACTIVATION") 1 15 n s rest least most (omega arith) e

-- ---- names of other objects

abbrev pub NamesFit : List Name → Type 0
NamesFit names = Distinct (λ name. name) names × All IsName names

abbrev pub PlaceFits : Bool → List Name → List ℕ → ℕ → Type 0
PlaceFits may names places k = (may ≡ true) × (k < length names) × (least places ≤ k)

place-read : (name prefix : List ℕ) (may : Bool) (names : List Name) → NamesFit names
    → Reads (reference (codes "    " ++ name ++ codes " = " ++ prefix)) (place_at may names) (λ _ k. attribute name (prefix ++ name_at names k)) (PlaceFits may names)
unfolding place_at
place-read name prefix may names named places k s rest fits e =
    let there = at_place names k fits.1 in
    let word : name_at names k ≡ there.0.text = ap (λ (o : Option Name). option_map_or (λ n. n.text) o []) there.1 in
    let front = codes "    " ++ name ++ codes " = " ++ prefix in
    let whole : s.text ≡ front ++ (there.0.text ++ (codes ";\n" ++ rest)) = e ∙ ap (λ (w : List ℕ). attribute name (prefix ++ w) ++ rest) word ∙ sym (reference-whole name prefix there.0.text rest) in
    let first : reference front s.text ≡ Some (there.0.text, rest) = ap (name_in front (codes ";\n")) whole ∙ name_in-front front (codes ";\n") there.0 rest (holds_at IsName names k there.0 named.1 there.1) refl in
    let found = position-found (λ (n : Name). n) names k there.0 named.0 there.1 in
    ((there.0.text, rest), first, record { after = next s rest; read = rw (found, le-ltb k (least places) fits.2, fits.0) refl; left = refl })

-- numbers that rise are at least as many as their places say
rising : (ks : List ℕ) → IsStrictlyIncreasing ks → (i : ℕ) → i < length ks → i ≤ get_or ks i 0
rising ks rise zero lt = omega arith
rising ks rise (suc i) lt =
    let next_one : i + 1 ≡ suc i = omega arith in
    let above : get_or ks i 0 < get_or ks (suc i) 0 = rw (← next_one) (rise i (omega arith)) in
    omega (arith, rising ks rise i (omega arith), above)

pub few : (ks : List ℕ) (n : ℕ) → IsStrictlyIncreasing ks → All (λ k. k < n) ks → length ks ≤ n
few [] n rise within = omega arith
few (k ∷ ks) n rise within =
    let all = k ∷ ks in
    omega (arith, rising all rise (length ks) (omega arith), within (length ks) 0 (omega arith))

least_is : (before after : List ℕ) (k : ℕ) → IsStrictlyIncreasing (before ++ k ∷ after) → least before ≤ k
least_is before after k rise =
    let last = length before - 1 in
    elim (slice_get before last) as (λ o. slice_get before last ≡ o → option_map_or (λ j. j + 1) o 0 ≤ k) [
      | Some j ↦ λ e.
          let within : last < length before = slice_get_within before last j e in
          let size = length-append before (k ∷ after) in
          let here : get_or (before ++ k ∷ after) last 0 ≡ j = get_or_append_left before (k ∷ after) 0 last within ∙ get_or_from_slice_get before last j 0 e in
          let behind_it : get_or (before ++ k ∷ after) (last + 1) 0 ≡ k = ap (λ (i : ℕ). get_or (before ++ k ∷ after) i 0) (omega arith) ∙ get_or-append_seam before k after 0 in
          omega (arith, rise last (omega (arith, size)), here, behind_it)
      | None ↦ λ e. omega arith
    ] refl

places_in_turn : (may : Bool) (names : List Name) (ks : List ℕ) → (ks ≢ [] → may ≡ true) → All (λ k. k < length names) ks → IsStrictlyIncreasing ks → InTurn (PlaceFits may names) ks
places_in_turn may names ks some within rise before k after e = (
  some (λ none. omega (arith, ap (λ (js : List ℕ). length js) none, ap (λ (js : List ℕ). length js) e, length-append before (k ∷ after))),
  at_split (λ j. j < length names) ks before k after within e,
  least_is before after k (let P : List ℕ → Type 0 = λ js. IsStrictlyIncreasing js in subst P e rise),
)

places-read : (name prefix : List ℕ) (may : Bool) (names : List Name) (s : Scan) (ks rest : List ℕ) → NamesFit names → (ks ≢ [] → may ≡ true) → All (λ k. k < length names) ks → IsStrictlyIncreasing ks
    → behind (codes "    " ++ name ++ codes " = " ++ prefix) rest ≡ None → s.text ≡ flat_map (λ k. attribute name (prefix ++ name_at names k)) ks ++ rest
    → Gives (places_at (codes "    " ++ name ++ codes " = " ++ prefix) may names s) ks rest
unfolding places_at
places-read name prefix may names s ks rest named some within rise none e =
    let front = codes "    " ++ name ++ codes " = " ++ prefix in
    let text : ℕ → List ℕ = λ k. attribute name (prefix ++ name_at names k) in
    many-read (reference front) (place_at may names) (λ _ k. text k) (PlaceFits may names) (place-read name prefix may names named) ks (places_in_turn may names ks some within rise) rest
    (name_in-none front (codes ";\n") rest none) (length names + 1) [] ks s (omega (arith, few ks (length names) rise within)) refl (e ∙ ap (λ (w : List ℕ). w ++ rest) (sym (plain text 0 ks)))

pub used-read : (resources : List Name) (s : Scan) (ks rest : List ℕ) → NamesFit resources → All (λ k. k < length resources) ks → IsStrictlyIncreasing ks → behind (codes "    RESOURCE = r_") rest ≡ None
    → s.text ≡ flat_map (λ k. attribute (codes "RESOURCE") (codes "r_" ++ name_at resources k)) ks ++ rest → Gives (used_at resources s) ks rest
unfolding used_at
used-read resources s ks rest named within rise none e = places-read (codes "RESOURCE") (codes "r_") true resources s ks rest named (λ _. refl) within rise none e

pub waited-read : (may : Bool) (events : List Name) (s : Scan) (ks rest : List ℕ) → NamesFit events → (ks ≢ [] → may ≡ true) → All (λ k. k < length events) ks → IsStrictlyIncreasing ks
    → behind (codes "    EVENT = e_") rest ≡ None → s.text ≡ flat_map (λ k. attribute (codes "EVENT") (codes "e_" ++ name_at events k)) ks ++ rest → Gives (waited_at may events s) ks rest
unfolding waited_at
waited-read may events s ks rest named some within rise none e = places-read (codes "EVENT") (codes "e_") may events s ks rest named some within rise none e
