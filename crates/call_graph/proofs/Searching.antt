-- What a search has found so far, and what it has found at its end.
use Rattle.std.proofs.Common.{◌≡◌, ◌⊎◌, inl, inr, ⊎_elim, ℕ, zero, suc, ◌+◌, ◌<◌, ◌≤◌, Bool, true, false, ◌==◌, List, [], ◌∷◌, length, Contains, slice_get, Some, None, refl, sym, ap, subst, ◌∙◌, arith, eqb, eqb-true, eq-eqb}
use Rattle.std.specs.List.{list_any}
use Rattle.std.proofs.lemmas.Bool.{cases_lt}
use Rattle.std.proofs.lemmas.Bool.Decides.{Decides-eqb}
use Rattle.std.proofs.lemmas.Option.{none-some, same_Some, slice_get_within, slice_get-get_or, get_or_from_slice_get}
use Rattle.std.proofs.lemmas.Map.Made.{IsDistinct-from_AllPairs}
use Rattle.std.proofs.lemmas.Map.Steps.{length-le_from_distinct_below}
use Rattle.jworld.specs.Ways.{Way}
use Rattle.jworld.specs.Ways.Way.{Step, Further}
use Rattle.jworld.specs.Edges.{graph_of}
use Rattle.jworld.proofs.Among.{found, among}
use Rattle.jworld.proofs.Supering.{graph_past}
use Rattle.reaching.proofs.Inserting.{Distinct, at_place, all_pairs}
use Rattle.call_graph.specs.ReachedFrom.{IsReachedFrom, is_reached_from}
use Rattle.call_graph.proofs.Filtering.{put_all, stays, are_there, were, behind, distinct_all}
use Rattle.call_graph.proofs.Meaning.{is_reached, tells}

-- tests of which each implies the other answer the same
same_answer : (a b : Bool) → (a ≡ true → b ≡ true) → (b ≡ true → a ≡ true) → a ≡ b
same_answer true b f g = sym (f refl)
same_answer false true f g = g refl
same_answer false false f g = refl

module _ (edges : List (List ℕ)) where
  -- a number with an edge is one of the graph's
  pub has_edges : (from to : ℕ) → Contains (graph_of edges from) to → from < length edges
  has_edges from to step =
      ⊎_elim (λ below. below) (λ past. let lt = step.1 in let none = ap length (graph_past edges from past) in absurd (omega (lt, none, arith))) (cases_lt from (length edges))

  -- a way goes on
  goes_on : (from to next : ℕ) → Way (graph_of edges) from to → Contains (graph_of edges to) next → Way (graph_of edges) from next
  goes_on from to next (Step from' to' step) more = Further from to next step (Step to next more)
  goes_on from to next (Further from' by to' step way) more = Further from by next step (goes_on by to next way more)

module _ (edges : List (List ℕ)) (roots : List ℕ) where
  abbrev IsReached : ℕ → Type 0
  IsReached = IsReachedFrom (graph_of edges) roots

  is_root : (x : ℕ) → Contains roots x → IsReached x
  is_root x there = (x, there, inl refl)

  leads_on : (x next : ℕ) → IsReached x → Contains (graph_of edges x) next → IsReached next
  leads_on x next (root, there, way) step =
      (root, there, inr (⊎_elim (λ same. Step root next (subst (λ from. Contains (graph_of edges from) next) (sym same) step)) (λ before. goes_on edges root x next before step) way))

  -- what holds while the numbers are looked at
  pub record SoFar (place : ℕ) (numbers : List ℕ) : Type 0 where
    roots_in : (x : ℕ) → Contains roots x → x < length edges → Contains numbers x
    are : (x : ℕ) → Contains numbers x → IsReached x
    below : (x : ℕ) → Contains numbers x → x < length edges
    closed : (k from : ℕ) → k < place → slice_get numbers k ≡ Some from → (x : ℕ) → Contains (graph_of edges from) x → x < length edges → Contains numbers x
    distinct : Distinct numbers

  pub at_first : SoFar 0 (put_all (length edges) [] roots)
  at_first = record {
    roots_in = λ x there within. are_there (length edges) roots [] x there within;
    are = λ x there. ⊎_elim (λ none. absurd (let lt = none.1 in omega (lt, arith))) (λ new. is_root x new.0) (were (length edges) roots [] x there);
    below = λ x there. ⊎_elim (λ none. absurd (let lt = none.1 in omega (lt, arith))) (λ new. new.1) (were (length edges) roots [] x there);
    closed = λ k from low is. absurd (omega (low, arith));
    distinct = distinct_all (length edges) roots [] tt;
  }

  pub one_more : (place : ℕ) (numbers : List ℕ) (number : ℕ) → SoFar place numbers → slice_get numbers place ≡ Some number
      → SoFar (place + 1) (put_all (length edges) numbers (graph_of edges number))
  one_more place numbers number so_far here = record {
    roots_in = λ x there within'. stays (length edges) nexts numbers x (so_far.roots_in x there within');
    are = λ x there. ⊎_elim (so_far.are x) (λ new. leads_on number x (so_far.are number at) new.0) (were (length edges) nexts numbers x there);
    below = λ x there. ⊎_elim (so_far.below x) (λ new. new.1) (were (length edges) nexts numbers x there);
    closed = closed;
    distinct = distinct_all (length edges) nexts numbers so_far.distinct;
  }
    where
      nexts : List ℕ
      nexts = graph_of edges number

      within : place < length numbers
      within = slice_get_within numbers place number here

      at : Contains numbers number
      at = (place, within, get_or_from_slice_get numbers place number number here)

      all : List ℕ
      all = put_all (length edges) numbers nexts

      old : (k : ℕ) → k < length numbers → slice_get all k ≡ slice_get numbers k
      old k lt = let (rest, e) = behind (length edges) nexts numbers in ap (λ xs. slice_get xs k) e ∙ at_place numbers rest k lt

      closed : (k from : ℕ) → k < place + 1 → slice_get all k ≡ Some from → (x : ℕ) → Contains (graph_of edges from) x → x < length edges → Contains all x
      closed k from low is x step below = by_place (cases_lt k place)
        where
          was : slice_get numbers k ≡ Some from
          was = sym (old k (omega (low, within, arith))) ∙ is

          by_place : (k < place) ⊎ (place ≤ k) → Contains all x
          by_place (inl before) = stays (length edges) nexts numbers x (so_far.closed k from before was x step below)
          by_place (inr at_least) =
              let same : k ≡ place = omega (low, at_least, arith) in
              let one : number ≡ from = same_Some number from (sym here ∙ ap (slice_get numbers) (sym same) ∙ was) in
              are_there (length edges) nexts numbers x (subst (λ n. Contains (graph_of edges n) x) (sym one) step) below

  -- ---- at the end

  none_past : (numbers : List ℕ) (place : ℕ) → slice_get numbers place ≡ None → length numbers ≤ place
  none_past [] place none = omega arith
  none_past (x ∷ xs) zero none = absurd (none-some x (sym none))
  none_past (x ∷ xs) (suc place) none = let le = none_past xs place none in omega (le, arith)

  module _ (place : ℕ) (numbers : List ℕ) (so_far : SoFar place numbers) (long : length numbers ≤ place) where
    next_is_there : (from x : ℕ) → Contains numbers from → Contains (graph_of edges from) x → x < length edges → Contains numbers x
    next_is_there from x (k, lt, at) step below =
        let here : slice_get numbers k ≡ Some from = slice_get-get_or numbers k from lt ∙ ap Some at in so_far.closed k from (omega (lt, long, arith)) here x step below

    along : (from x : ℕ) → Contains numbers from → Way (graph_of edges) from x → x < length edges → Contains numbers x
    along from x there (Step from' x' step) below = next_is_there from x there step below
    along from x there (Further from' by x' step way) below = along by x (next_is_there from by there step (starts_within by x way)) way below
      where
        starts_within : (by x : ℕ) → Way (graph_of edges) by x → by < length edges
        starts_within by x (Step by' x' step') = has_edges edges by x step'
        starts_within by x (Further by' next x' step' way') = has_edges edges by next step'

    root_within : (root x : ℕ) → Way (graph_of edges) root x → root < length edges
    root_within root x (Step root' x' step) = has_edges edges root x step
    root_within root x (Further root' next x' step way) = has_edges edges root next step

    all_are_there : (x : ℕ) → x < length edges → IsReached x → Contains numbers x
    all_are_there x below (root, there, way) =
        ⊎_elim (λ same. subst (Contains numbers) same (so_far.roots_in root there (subst (λ n. n < length edges) (sym same) below)))
        (λ led. along root x (so_far.roots_in root there (root_within root x led)) led below) way

    ends : (n : ℕ) → list_any (λ number. n == number) numbers ≡ is_reached_from edges roots n
    ends n =
        same_answer (list_any (λ number. n == number) numbers) (is_reached_from edges roots n)
        (λ any.
        let (x, there, same) = found (λ number. n == number) numbers any in
        let is = eqb-true n x same in
        tells edges roots n (subst (λ m. m < length edges) (sym is) (so_far.below x there)) (subst IsReached (sym is) (so_far.are x there)))
        (λ reached. let (below, way) = is_reached edges roots n reached in among (λ number. n == number) numbers n (all_are_there n below way) (eq-eqb n n refl))

  -- where nothing stands at the place that is looked at next
  pub ends_at_none : (place : ℕ) (numbers : List ℕ) → SoFar place numbers → slice_get numbers place ≡ None → (n : ℕ) → list_any (λ number. n == number) numbers ≡ is_reached_from edges roots n
  ends_at_none place numbers so_far none = ends place numbers so_far (none_past numbers place none)

  -- where as many were looked at as the graph has
  pub ends_at_last : (place : ℕ) (numbers : List ℕ) → SoFar place numbers → length edges ≤ place → (n : ℕ) → list_any (λ number. n == number) numbers ≡ is_reached_from edges roots n
  ends_at_last place numbers so_far last = ends place numbers so_far (omega (few, last, arith))
    where
      member : (q : ℕ) → list_any (eqb q) numbers ≡ true → q < length edges
      member q any = let (x, there, same) = found (eqb q) numbers any in subst (λ m. m < length edges) (sym (eqb-true q x same)) (so_far.below x there)

      few : length numbers ≤ length edges
      few = length-le_from_distinct_below numbers (length edges) (IsDistinct-from_AllPairs Decides-eqb numbers (all_pairs numbers so_far.distinct)) member
