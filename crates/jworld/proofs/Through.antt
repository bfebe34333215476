-- Ways whose inner numbers are all below a bound, round by round of Warshall's method.
use Rattle.std.proofs.Common.{◌≡◌, ℕ, ◌+◌, ◌<◌, true, ◌||◌, ◌&&◌, ◌==◌, List, [], ◌++◌, take, drop, length, All, Contains, slice_index_or, ◌⊎◌, ◌↔◌, refl, sym, ap, ◌∙◌, subst, inl, inr, ⊎_elim, arith, eqb-true, eq-eqb}
use Rattle.std.specs.List.{list_any}
use Rattle.std.proofs.lemmas.Bool.{or_cases, or_left, or_right, and_parts, and_from, cases_eq, cases_lt}
use Rattle.std.proofs.lemmas.List.{get_or_past, get_or_default}
use Rattle.std.proofs.lemmas.List.Elements.{All-get_or, All-contains}
use Rattle.std.proofs.Math.Seq.{take-append_seam}
use Rattle.jworld.specs.Ways.{Graph, Way}
use Rattle.jworld.specs.Ways.Way.{Step, Further}
use Rattle.jworld.specs.Edges.{graph_of, AreWithin, IsClosure}
use Rattle.jworld.specs.Row.{has_bit, reaches}
use Rattle.jworld.proofs.Among.{found, among}

pub data Through (graph : Graph) (bound : ℕ) : ℕ → ℕ → Type 0 where
  Straight : (from to : ℕ) → Contains (graph from) to → Through graph bound from to
  Onward : (from next to : ℕ) → Contains (graph from) next → next < bound → Through graph bound next to → Through graph bound from to

wider : (graph : Graph) (bound from to : ℕ) → Through graph bound from to → Through graph (bound + 1) from to
wider graph bound from to (Straight from' to' step) = Straight from to step
wider graph bound from to (Onward from' next to' step below way) = Onward from next to step (omega arith) (wider graph bound next to way)

-- two ways that meet below the bound
meeting : (graph : Graph) (bound from middle to : ℕ) → middle < bound → Through graph bound from middle → Through graph bound middle to → Through graph bound from to
meeting graph bound from middle to below (Straight from' middle' step) way = Onward from middle to step below way
meeting graph bound from middle to below (Onward from' next middle' step before first) way = Onward from next to step before (meeting graph bound next middle to below first way)

abbrev Split : Graph → ℕ → ℕ → ℕ → Type 0
Split graph bound from to = Through graph bound from to ⊎ (Through graph bound from bound × Through graph bound bound to)

-- one more step before a way that may have the bound among its inner numbers
onward : (graph : Graph) (bound from next to : ℕ) → Contains (graph from) next → next < bound + 1 → Split graph bound next to → Split graph bound from to
onward graph bound from next to step below split =
    ⊎_elim
    (λ at.
    let first : Through graph bound from bound = Straight from bound (subst (λ (x : ℕ). Contains (graph from) x) at step) in
    let rest : Through graph bound next to → Through graph bound bound to = λ way. subst (λ (x : ℕ). Through graph bound x to) at way in
    ⊎_elim (λ way. inr (first, rest way)) (λ ways. inr (first, ways.1)) split)
    (λ apart.
    let before : next < bound = omega arith in
    ⊎_elim (λ way. inl (Onward from next to step before way)) (λ ways. inr (Onward from next bound step before ways.0, ways.1)) split)
    (cases_eq next bound)

split_at : (graph : Graph) (bound from to : ℕ) → Through graph (bound + 1) from to → Split graph bound from to
split_at graph bound from to (Straight from' to' step) = inl (Straight from to step)
split_at graph bound from to (Onward from' next to' step below way) = onward graph bound from next to step below (split_at graph bound next to way)

joined : (graph : Graph) (bound from to : ℕ) → Split graph bound from to → Through graph (bound + 1) from to
joined graph bound from to split =
    ⊎_elim (wider graph bound from to)
    (λ ways. meeting graph (bound + 1) from bound to (omega arith) (wider graph bound from bound ways.0) (wider graph bound bound to ways.1))
    split

-- ---- at the start, after a round, and at the end

pub AreThrough : Graph → ℕ → List (List ℕ) → Type 0
AreThrough graph bound rows = (from to : ℕ) → Through graph bound from to ↔ (reaches rows from to ≡ true)

edge_of : (graph : Graph) (from to : ℕ) → Through graph 0 from to → list_any (λ number. to == number) (graph from) ≡ true
edge_of graph from to (Straight from' to' step) = among (λ n. to == n) (graph from) to step (eq-eqb to to refl)
edge_of graph from to (Onward from' next to' step below way) = absurd (omega arith)

pub AreThrough-zero : (graph : Graph) (rows : List (List ℕ)) → ((i j : ℕ) → reaches rows i j ≡ list_any (λ number. j == number) (graph i)) → AreThrough graph 0 rows
unfolding AreThrough
AreThrough-zero graph rows bits from to = (
  λ way. bits from to ∙ edge_of graph from to way,
  λ set. let (number, in', is) = found (λ n. to == n) (graph from) (sym (bits from to) ∙ set) in Straight from to (subst (λ (n : ℕ). Contains (graph from) n) (sym (eqb-true to number is)) in'),
)

pub AreThrough-more : (graph : Graph) (bound : ℕ) (rows after : List (List ℕ)) → ((i j : ℕ) → reaches after i j ≡ (reaches rows i j || (reaches rows i bound && reaches rows bound j)))
    → AreThrough graph bound rows → AreThrough graph (bound + 1) after
unfolding AreThrough
AreThrough-more graph bound rows after bits so_far from to = (
  λ way.
      ⊎_elim (λ short. bits from to ∙ or_left _ _ ((so_far from to).0 short))
      (λ ways. bits from to ∙ or_right (reaches rows from to) _ (and_from _ _ ((so_far from bound).0 ways.0) ((so_far bound to).0 ways.1)))
      (split_at graph bound from to way),
  λ set.
      joined graph bound from to
      (⊎_elim (λ short. inl ((so_far from to).1 short))
      (λ both. let (first, second) = and_parts (reaches rows from bound) (reaches rows bound to) both in inr ((so_far from bound).1 first, (so_far bound to).1 second))
      (or_cases (reaches rows from to) (reaches rows from bound && reaches rows bound to) (sym (bits from to) ∙ set))),
)

way_of : (graph : Graph) (bound from to : ℕ) → Through graph bound from to → Way graph from to
way_of graph bound from to (Straight from' to' step) = Step from to step
way_of graph bound from to (Onward from' next to' step below way) = Further from next to step (way_of graph bound next to way)

through_of : (graph : Graph) (bound from to : ℕ) → ((i j : ℕ) → Contains (graph i) j → j < bound) → Way graph from to → Through graph bound from to
through_of graph bound from to within (Step from' to' step) = Straight from to step
through_of graph bound from to within (Further from' next to' step way) = Onward from next to step (within from next step) (through_of graph bound next to within way)

edge_within : (edges : List (List ℕ)) → AreWithin edges → (i j : ℕ) → Contains (graph_of edges i) j → j < length edges
edge_within edges within i j (k, inside, is) =
    ⊎_elim
    (λ row. All-contains (λ next. next < length edges) (graph_of edges i) j (All-get_or (λ nexts. All (λ next. next < length edges) nexts) edges i [] row within) (k, inside, is))
    (λ past. let none : length (graph_of edges i) ≡ 0 = ap length (get_or_past edges i [] past) in absurd (omega arith))
    (cases_lt i (length edges))

pub IsClosure-from_through : (edges rows : List (List ℕ)) → AreWithin edges → AreThrough (graph_of edges) (length edges) rows → IsClosure (graph_of edges) (reaches rows)
unfolding AreThrough
IsClosure-from_through edges rows within all from to =
    (λ way. (all from to).0 (through_of (graph_of edges) (length edges) from to (edge_within edges within) way), λ set. way_of (graph_of edges) (length edges) from to ((all from to).1 set))

-- rows that were all written
pub written_whole : {A : Type 0} (n : ℕ) (new old : List A) → length new ≡ length old → n ≡ length old → take n (new ++ drop (length new) old) ≡ new
written_whole n new old same count = let e : n ≡ length new = omega arith in rw e (take-append_seam new (drop (length new) old))

-- a round in which each row that leads to the bound led to all to which the bound's row did
pub AreThrough-round : (graph : Graph) (bound : ℕ) (rows lent after : List (List ℕ)) (read row : List ℕ) → lent ≡ rows → read ≡ slice_index_or rows bound read → row ≡ read → bound < length rows
    → ((i j : ℕ) → reaches after i j ≡ (reaches lent i j || (reaches lent i bound && has_bit row j))) → AreThrough graph bound rows → AreThrough graph (bound + 1) after
AreThrough-round graph bound rows lent after read row same read_is row_is within bits so_far =
    let is : row ≡ slice_index_or rows bound [] = row_is ∙ read_is ∙ get_or_default rows bound read [] within in
    let Says : List (List ℕ) → List ℕ → Type 0 = λ from by. (i j : ℕ) → reaches after i j ≡ (reaches from i j || (reaches from i bound && has_bit by j)) in
    AreThrough-more graph bound rows after (subst (λ from. Says from (slice_index_or rows bound [])) same (subst (Says lent) is bits)) so_far
