-- Where ranks rise along no edge, a call of pairs of lower ranks lies on no cycle.
use Rattle.std.proofs.Common.{◌≡◌, ⊎_elim, ℕ, zero, suc, ◌+◌, ◌<◌, ◌≤◌, Bool, true, false, List, [], ◌∷◌, Contains, nat_lt, nat_le, sym, ap, subst, ◌∙◌, arith, ltb-true, leb-true}
use Rattle.std.specs.List.{list_all}
use Rattle.std.proofs.lemmas.Bool.{and_parts, cases_Bool, cases_lt}
use Rattle.jworld.specs.Ways.{Way}
use Rattle.jworld.specs.Ways.Way.{Step, Further}
use Rattle.jworld.specs.Edges.{graph_of}
use Rattle.call_graph.specs.ReachedFrom.{is_reached_from}
use Rattle.call_graph.specs.Ranks.{rank, NeverRise}
use Rattle.call_graph.proofs.Meaning.{is_reached}

-- each of a list passes what all pass
pub passes : {A : Type 0} (p : A → Bool) (xs : List A) (x : A) → list_all p xs ≡ true → Contains xs x → p x ≡ true
passes p [] x all there = absurd (let lt = there.1 in omega (lt, arith))
passes p (y ∷ xs) x all (zero, lt, is) = ap p (sym is) ∙ (and_parts (p y) (list_all p xs) all).0
passes p (y ∷ xs) x all (suc k, lt, is) = passes p xs x (and_parts (p y) (list_all p xs) all).1 (k, omega (lt, arith), is)

-- one number more whose edges don't rise
pub one_more : (edges : List (List ℕ)) (ranks : List ℕ) (number : ℕ) → list_all (λ next. nat_le (rank ranks next) (rank ranks number)) (graph_of edges number) ≡ true
    → ((from to : ℕ) → from < number → Contains (graph_of edges from) to → rank ranks to ≤ rank ranks from)
    → (from to : ℕ) → from < number + 1 → Contains (graph_of edges from) to → rank ranks to ≤ rank ranks from
one_more edges ranks number all before from to low step =
    ⊎_elim (λ below. before from to below step)
    (λ past.
    let same : from ≡ number = omega (low, past, arith) in
    let here = subst (λ n. Contains (graph_of edges n) to) same step in
    let le = leb-true (rank ranks to) (rank ranks number) (passes (λ next. nat_le (rank ranks next) (rank ranks number)) (graph_of edges number) to all here) in
    subst (λ n. rank ranks to ≤ rank ranks n) (sym same) le)
    (cases_lt from number)

module _ (edges : List (List ℕ)) (ranks : List ℕ) (fall : NeverRise edges ranks) where
  along : (from to : ℕ) → Way (graph_of edges) from to → rank ranks to ≤ rank ranks from
  along from to (Step from' to' step) = fall from to step
  along from to (Further from' next to' step way) =
      let first = fall from next step in
      let rest = along next to way in
      omega (first, rest, arith)

  pub leads_nowhere_back : (targets : List ℕ) (pair : ℕ) → list_all (λ target. nat_lt (rank ranks target) (rank ranks pair)) targets ≡ true → is_reached_from edges targets pair ≡ false
  leads_nowhere_back targets pair lower = ⊎_elim (λ reached. absurd (never reached)) (λ apart. apart) (cases_Bool (is_reached_from edges targets pair))
    where
      below : (target : ℕ) → Contains targets target → rank ranks target < rank ranks pair
      below target there = ltb-true (rank ranks target) (rank ranks pair) (passes (λ target. nat_lt (rank ranks target) (rank ranks pair)) targets target lower there)

      never : is_reached_from edges targets pair ≡ true → ⊥
      never reached =
          let (within, (target, there, way)) = is_reached edges targets pair reached in
          let low = below target there in
          ⊎_elim (λ same. let e = ap (rank ranks) same in omega (low, e, arith)) (λ led. let le = along target pair led in omega (low, le, arith)) way
