-- A way along a graph is found by a test that takes as many steps as there are numbers with an edge.
use Rattle.std.proofs.Common.{◌≡◌, ℕ, zero, suc, ◌<◌, ◌≤◌, true, false, ◌||◌, ◌==◌, List, [], ◌∷◌, length, Contains, ◌↔◌, eqb, refl, sym, ap, subst, ⊎_elim, arith, eqb-true, eq-eqb}
use Rattle.std.specs.List.{list_any, IsDistinct, AllByRecursion}
use Rattle.std.proofs.lemmas.Bool.{or_cases, or_left, or_right, cases_Bool, cases_lt, both_ways, or_parts}
use Rattle.std.proofs.lemmas.Map.Keys.{IsDistinct-cons, IsDistinct-tail}
use Rattle.std.proofs.lemmas.Map.Steps.{length-le_from_distinct_below}
use Rattle.jworld.specs.Ways.{Graph, Way, leads}
use Rattle.jworld.specs.Ways.Way.{Step, Further}
use Rattle.jworld.proofs.Among.{found, among, weaker}

-- ---- what the test finds is a way

Way-from_leads : (graph : Graph) (most from to : ℕ) → leads most graph from to ≡ true → Way graph from to
unfolding leads
Way-from_leads graph zero from to h = absurd (both_ways false refl h)
Way-from_leads graph (suc most) from to h =
    let (next, in', passes) = found (λ next. next == to || leads most graph next to) (graph from) h in
    ⊎_elim (λ e. Step from to (subst (λ (x : ℕ). Contains (graph from) x) (eqb-true next to e) in'))
    (λ further. Further from next to in' (Way-from_leads graph most next to further))
    (or_cases (next == to) (leads most graph next to) passes)

-- ---- a way by the numbers from which its steps lead, the first and the others

abbrev Along : Graph → ℕ → List ℕ → ℕ → Type 0
Along graph from [] to = Contains (graph from) to
Along graph from (next ∷ rest) to = Contains (graph from) next × Along graph next rest to

leads-from_along : (graph : Graph) (from : ℕ) (rest : List ℕ) (to : ℕ) → Along graph from rest to → leads (suc (length rest)) graph from to ≡ true
unfolding leads
leads-from_along graph from [] to step = among (λ next. next == to || leads 0 graph next to) (graph from) to step (or_left (to == to) _ (eq-eqb to to refl))
leads-from_along graph from (next ∷ rest) to (step, along) =
    among (λ n. n == to || leads (suc (length rest)) graph n to) (graph from) next step (or_right (next == to) _ (leads-from_along graph next rest to along))

leads-more : (graph : Graph) (most more from to : ℕ) → most ≤ more → leads most graph from to ≡ true → leads more graph from to ≡ true
unfolding leads
leads-more graph zero more from to le h = absurd (both_ways false refl h)
leads-more graph (suc most) zero from to le h = absurd (omega arith)
leads-more graph (suc most) (suc more) from to le h =
    weaker (λ n. n == to || leads most graph n to) (λ n. n == to || leads more graph n to) (graph from)
    (λ n passes. ⊎_elim (λ e. or_left (n == to) _ e) (λ further. or_right (n == to) _ (leads-more graph most more n to (omega arith) further)) (or_cases (n == to) _ passes))
    h

-- ---- no number needs to lead on twice

AllByRecursion-from_none : (x : ℕ) (xs : List ℕ) → list_any (eqb x) xs ≡ false → AllByRecursion (λ y. eqb x y ≡ false) xs
AllByRecursion-from_none x [] h = tt
AllByRecursion-from_none x (y ∷ ys) h = let (here, behind) = or_parts (eqb x y) (list_any (eqb x) ys) h in (here, AllByRecursion-from_none x ys behind)

abbrev Simple : Graph → ℕ → ℕ → Type 0
Simple graph from to = (rest : List ℕ) × (Along graph from rest to) × (IsDistinct eqb (from ∷ rest))

-- the part of a way that begins at a number on it
Simple-from_within : (graph : Graph) (from next : ℕ) (rest : List ℕ) (to : ℕ) → list_any (eqb from) (next ∷ rest) ≡ true → Along graph next rest to → IsDistinct eqb (next ∷ rest)
    → Simple graph from to
Simple-from_within graph from next [] to on along distinct =
    ⊎_elim (λ e. subst (λ (n : ℕ). Simple graph n to) (sym (eqb-true from next e)) ([], along, distinct)) (λ none. absurd (both_ways false refl none)) (or_cases (eqb from next) false on)
Simple-from_within graph from next (y ∷ ys) to on along distinct =
    ⊎_elim (λ e. subst (λ (n : ℕ). Simple graph n to) (sym (eqb-true from next e)) (y ∷ ys, along, distinct))
    (λ behind. Simple-from_within graph from y ys to behind along.1 (IsDistinct-tail eqb next (y ∷ ys) distinct))
    (or_cases (eqb from next) (list_any (eqb from) (y ∷ ys)) on)

Simple-from_further : (graph : Graph) (from next to : ℕ) → Contains (graph from) next → Simple graph next to → Simple graph from to
Simple-from_further graph from next to step (rest, along, distinct) =
    ⊎_elim (λ on. Simple-from_within graph from next rest to on along distinct)
    (λ apart. (next ∷ rest, (step, along), IsDistinct-cons eqb from (next ∷ rest) (AllByRecursion-from_none from (next ∷ rest) apart) distinct))
    (cases_Bool (list_any (eqb from) (next ∷ rest)))

Simple-from_way : (graph : Graph) (from to : ℕ) → Way graph from to → Simple graph from to
unfolding IsDistinct
Simple-from_way graph from to (Step from' to' step) = ([], step, (tt, tt))
Simple-from_way graph from to (Further from' next to' step way) = Simple-from_further graph from next to step (Simple-from_way graph next to way)

-- ---- each that leads on is below a bound, if from there on none does

module _ (graph : Graph) (bound : ℕ) (none : (n : ℕ) → bound ≤ n → graph n ≡ []) where
  below-from_edge : (from to : ℕ) → Contains (graph from) to → from < bound
  below-from_edge from to (k, within, is) =
      ⊎_elim (λ below. below) (λ past. let empty : length (graph from) ≡ 0 = ap length (none from past) in absurd (omega arith)) (cases_lt from bound)

  below-from_along : (from : ℕ) (rest : List ℕ) (to : ℕ) → Along graph from rest to → (q : ℕ) → list_any (eqb q) (from ∷ rest) ≡ true → q < bound
  below-from_along from [] to step q on =
      ⊎_elim (λ e. let is : q ≡ from = eqb-true q from e in rw is (below-from_edge from to step)) (λ none'. absurd (both_ways false refl none')) (or_cases (eqb q from) false on)
  below-from_along from (next ∷ rest) to (step, along) q on =
      ⊎_elim (λ e. let is : q ≡ from = eqb-true q from e in rw is (below-from_edge from next step)) (below-from_along next rest to along q) (or_cases (eqb q from) (list_any (eqb q) (next ∷ rest)) on)

  leads-from_simple : (from to : ℕ) → Simple graph from to → leads bound graph from to ≡ true
  leads-from_simple from to (rest, along, distinct) =
      let short : length (from ∷ rest) ≤ bound = length-le_from_distinct_below (from ∷ rest) bound distinct (below-from_along from rest to along) in
      leads-more graph (suc (length rest)) bound from to short (leads-from_along graph from rest to along)

  -- so both say the same
  pub Way-is_leads : (from to : ℕ) → Way graph from to ↔ (leads bound graph from to ≡ true)
  Way-is_leads from to = (λ way. leads-from_simple from to (Simple-from_way graph from to way), Way-from_leads graph bound from to)
