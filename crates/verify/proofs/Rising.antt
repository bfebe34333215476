-- Frames whose places rise, found by their places.
use Rattle.std.proofs.Common.{◌≡◌, ◌≢◌, ◌∙◌, ℕ, zero, suc, ◌+◌, ◌<◌, ◌≤◌, Bool, true, false, ◌&&◌, nat_le, ◌==◌, List, [], ◌∷◌, map, length, get_or, Option, Some, None, if◌then◌else◌, refl, sym, ap, subst, inl, inr, arith, Ok, Err}
use Rattle.std.specs.List.Sorted.{IsBinarySearchResult}
use Rattle.std.specs.Ordering.{nat_cmp}
use Rattle.std.proofs.lemmas.List.Sorted.{searched}
use Rattle.std.proofs.lemmas.Bool.{cases_lt, and_parts, and_from, leb-true, eqb-true, eq-eqb, ne_eqb}
use Rattle.jcode.specs.declared.op.Ins.{Ins}
use Rattle.jcode.specs.Decoded.{begins_at}
use Rattle.std.specs.List.{list_all}
use Rattle.stackmap.specs.declared.frame.Declared.{Declared}
use Rattle.type_states.specs.declared.state.TypeState.{TypeState}
use Rattle.type_states.specs.TypeStates.{state_of}
use Rattle.typing_rules.specs.Environment.{is_made}
use Rattle.verify.specs.Placing.{is_placed, first_unplaced, declared_at, rise_from}

abbrev pub places_of : List Declared → List ℕ
places_of maps = map (λ declared. declared.pc) maps

if_true : {X : Type 0} (b : Bool) (x y : X) → b ≡ true → (if b then x else y) ≡ x
if_true true x y e = refl
if_true false x y e = cc

if_false : {X : Type 0} (b : Bool) (x y : X) → b ≡ false → (if b then x else y) ≡ y
if_false true x y e = cc
if_false false x y e = refl

behind : (least : ℕ) (maps : List Declared) (j : ℕ) → rise_from least maps ≡ true → j < length maps → least ≤ get_or (places_of maps) j 0
behind least [] j rise lt = absurd (omega arith)
behind least (declared ∷ maps) zero rise lt = leb-true least declared.pc (and_parts (nat_le least declared.pc) (rise_from (declared.pc + 1) maps) rise).0
behind least (declared ∷ maps) (suc j) rise lt =
    let parts = and_parts (nat_le least declared.pc) (rise_from (declared.pc + 1) maps) rise in
    let le : least ≤ declared.pc = leb-true least declared.pc parts.0 in
    let less : j < length maps = omega arith in
    let more : declared.pc + 1 ≤ get_or (places_of maps) j 0 = behind (declared.pc + 1) maps j parts.1 less in
    omega arith

pub places_of-length : (maps : List Declared) → length (places_of maps) ≡ length maps
places_of-length [] = refl
places_of-length (declared ∷ maps) = ap suc (places_of-length maps)

pub rising : (least : ℕ) (maps : List Declared) → rise_from least maps ≡ true → (i j : ℕ) → i ≤ j → j < length (places_of maps) → get_or (places_of maps) i 0 ≤ get_or (places_of maps) j 0
rising least [] rise i j le lt = absurd (omega arith)
rising least (declared ∷ maps) rise zero zero le lt = omega arith
rising least (declared ∷ maps) rise zero (suc j) le lt =
    let parts = and_parts (nat_le least declared.pc) (rise_from (declared.pc + 1) maps) rise in
    let same : length (places_of maps) ≡ length maps = places_of-length maps in
    let less : j < length maps = omega arith in
    let more : declared.pc + 1 ≤ get_or (places_of maps) j 0 = behind (declared.pc + 1) maps j parts.1 less in
    omega arith
rising least (declared ∷ maps) rise (suc i) zero le lt = absurd (omega arith)
rising least (declared ∷ maps) rise (suc i) (suc j) le lt =
    let parts = and_parts (nat_le least declared.pc) (rise_from (declared.pc + 1) maps) rise in
    let le' : i ≤ j = omega arith in
    let lt' : j < length (places_of maps) = omega arith in
    rising (declared.pc + 1) maps parts.1 i j le' lt'

pub declared_at-found : (least : ℕ) (maps : List Declared) (i pc : ℕ) (declared : Declared) → rise_from least maps ≡ true → i < length maps → declared ≡ get_or maps i declared
    → get_or (places_of maps) i 0 ≡ pc → declared_at maps pc ≡ Some (state_of declared.frame)
declared_at-found least [] i pc declared rise lt is e = absurd (omega arith)
declared_at-found least (first ∷ maps) zero pc declared rise lt is e =
    if_true (first.pc == pc) (Some (state_of first.frame)) (declared_at maps pc) (eq-eqb first.pc pc e) ∙ ap (λ (d : Declared). Some (state_of d.frame)) (sym is)
declared_at-found least (first ∷ maps) (suc i) pc declared rise lt is e =
    let parts = and_parts (nat_le least first.pc) (rise_from (first.pc + 1) maps) rise in
    let less : i < length maps = omega arith in
    let above : first.pc + 1 ≤ get_or (places_of maps) i 0 = behind (first.pc + 1) maps i parts.1 less in
    let other : first.pc ≢ pc = omega arith in
    if_false (first.pc == pc) (Some (state_of first.frame)) (declared_at maps pc) (ne_eqb first.pc pc other) ∙ declared_at-found (first.pc + 1) maps i pc declared parts.1 less is e

pub declared_at-none : (maps : List Declared) (pc : ℕ) → ((k : ℕ) → k < length (places_of maps) → get_or (places_of maps) k 0 ≢ pc) → declared_at maps pc ≡ None
declared_at-none [] pc none = refl
declared_at-none (first ∷ maps) pc none =
    let here : 0 < length (places_of (first ∷ maps)) = omega arith in
    if_false (first.pc == pc) (Some (state_of first.frame)) (declared_at maps pc) (ne_eqb first.pc pc (none 0 here))
    ∙ declared_at-none maps pc (λ k lt. let more : suc k < length (places_of (first ∷ maps)) = omega arith in none (suc k) more)

rising-in : (maps : List Declared) (xs : List ℕ) → xs ≡ places_of maps → rise_from 0 maps ≡ true → (i j : ℕ) → i ≤ j → j < length xs → get_or xs i 0 ≤ get_or xs j 0
rising-in maps xs same rise = subst (λ (ys : List ℕ). (i j : ℕ) → i ≤ j → j < length ys → get_or ys i 0 ≤ get_or ys j 0) (sym same) (rising 0 maps rise)

-- what a search among the places finds
pub found-place : (maps : List Declared) (xs : List ℕ) (pc i : ℕ) (declared : Declared) → xs ≡ places_of maps → rise_from 0 maps ≡ true → IsBinarySearchResult (λ y. nat_cmp y pc) xs (Ok i)
    → declared ≡ get_or maps i declared → declared_at maps pc ≡ Some (state_of declared.frame)
found-place maps xs pc i declared same rise position is =
    let at : (i < length xs) × (get_or xs i 0 ≡ pc) = searched xs pc (Ok i) position (rising-in maps xs same rise) in
    let long : length xs ≡ length maps = ap length same ∙ places_of-length maps in
    let lt : i < length maps = omega arith in
    declared_at-found 0 maps i pc declared rise lt is (ap (λ (ys : List ℕ). get_or ys i 0) (sym same) ∙ at.1)

pub no-place : (maps : List Declared) (xs : List ℕ) (pc i : ℕ) → xs ≡ places_of maps → rise_from 0 maps ≡ true → IsBinarySearchResult (λ y. nat_cmp y pc) xs (Err i) → declared_at maps pc ≡ None
no-place maps xs pc i same rise position =
    let at : (i ≤ length xs) × ((k : ℕ) → k < i → get_or xs k 0 < pc) × ((k : ℕ) → i ≤ k → k < length xs → pc < get_or xs k 0) = searched xs pc (Err i) position (rising-in maps xs same rise) in
    declared_at-none maps pc (λ k lt e.
    let lt' : k < length xs = subst (λ (ys : List ℕ). k < length ys) (sym same) lt in
    let e' : get_or xs k 0 ≡ pc = ap (λ (ys : List ℕ). get_or ys k 0) same ∙ e in
    elim (cases_lt k i) [
      | inl below ↦ let less : get_or xs k 0 < pc = at.1 k below in omega arith
      | inr above ↦ let more : pc < get_or xs k 0 = at.2 k above lt' in omega arith
    ])

unless : {X : Type 0} (b : Bool) (x : X) (rest : Option X) → (if b then rest else Some x) ≡ None → (b ≡ true) × (rest ≡ None)
unless true x rest e = (refl, e)
unless false x rest e = cc

placed-parts : (code : List Ins) (least : ℕ) (declared : Declared) → is_placed code least declared ≡ true → (nat_le least declared.pc ≡ true) × (begins_at code declared.pc ≡ true)
placed-parts code least declared e =
    let first = nat_le least declared.pc in
    let second = begins_at code declared.pc in
    let third = list_all (is_made code) declared.frame.locals in
    let fourth = list_all (is_made code) declared.frame.stack in
    and_parts first second (and_parts (first && second) third (and_parts (first && second && third) fourth e).0).0

-- frames that are placed rise
pub placed-rise : (code : List Ins) (least : ℕ) (maps : List Declared) → first_unplaced code least maps ≡ None → rise_from least maps ≡ true
placed-rise code least [] e = refl
placed-rise code least (declared ∷ maps) e =
    let parts = unless (is_placed code least declared) declared.at (first_unplaced code (declared.pc + 1) maps) e in
    and_from (nat_le least declared.pc) (rise_from (declared.pc + 1) maps) (placed-parts code least declared parts.0).0 (placed-rise code (declared.pc + 1) maps parts.1)

begins-by : (code : List Ins) (first pc : ℕ) (b : Bool) (one state : TypeState) (rest : Option TypeState) → (first == pc) ≡ b → (if b then Some one else rest) ≡ Some state
    → begins_at code first ≡ true → (rest ≡ Some state → begins_at code pc ≡ true) → begins_at code pc ≡ true
begins-by code first pc true one state rest e is here there = ap (begins_at code) (sym (eqb-true first pc e)) ∙ here
begins-by code first pc false one state rest e is here there = there is

-- a frame that is placed stands at an instruction
pub placed-begins : (code : List Ins) (least : ℕ) (maps : List Declared) (pc : ℕ) (state : TypeState) → first_unplaced code least maps ≡ None → declared_at maps pc ≡ Some state → begins_at code pc ≡ true
placed-begins code least [] pc state e is = cc
placed-begins code least (declared ∷ maps) pc state e is =
    let parts = unless (is_placed code least declared) declared.at (first_unplaced code (declared.pc + 1) maps) e in
    begins-by code declared.pc pc (declared.pc == pc) (state_of declared.frame) state (declared_at maps pc) refl is (placed-parts code least declared parts.0).1
    (placed-begins code (declared.pc + 1) maps pc state parts.1)
