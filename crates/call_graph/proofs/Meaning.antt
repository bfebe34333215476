-- What the test of what is reached says.
use Rattle.std.proofs.Common.{◌≡◌, inl, inr, ⊎_elim, ◌↔◌, ℕ, ◌<◌, true, ◌||◌, ◌==◌, List, length, nat_lt, ltb-true, lt-ltb, eqb-true, eq-eqb}
use Rattle.std.specs.List.{list_any}
use Rattle.std.proofs.lemmas.Bool.{or_cases, or_left, or_right, and_parts, and_from}
use Rattle.jworld.specs.Ways.{Way, leads}
use Rattle.jworld.specs.Edges.{graph_of}
use Rattle.jworld.proofs.Among.{found, among}
use Rattle.jworld.proofs.Supering.{graph_past}
use Rattle.jworld.proofs.Ways.{Way-is_leads}
use Rattle.call_graph.specs.ReachedFrom.{IsReachedFrom, is_reached_from, ReachedIsMeant}

abbrev pub way_is : (edges : List (List ℕ)) (from to : ℕ) → Way (graph_of edges) from to ↔ (leads (length edges) (graph_of edges) from to ≡ true)
way_is edges = Way-is_leads (graph_of edges) (length edges) (graph_past edges)

pub is_reached : (edges : List (List ℕ)) (roots : List ℕ) (number : ℕ) → is_reached_from edges roots number ≡ true → (number < length edges) × IsReachedFrom (graph_of edges) roots number
unfolding is_reached_from
is_reached edges roots number h =
    let (below, any) = and_parts (nat_lt number (length edges)) (list_any (λ root. root == number || leads (length edges) (graph_of edges) root number) roots) h in
    let (root, there, passes) = found (λ root. root == number || leads (length edges) (graph_of edges) root number) roots any in (
      ltb-true number (length edges) below,
      (
        root,
        there,
        ⊎_elim (λ same. inl (eqb-true root number same)) (λ leads'. inr ((way_is edges root number).1 leads')) (or_cases (root == number) (leads (length edges) (graph_of edges) root number) passes),
      ),
    )

pub tells : (edges : List (List ℕ)) (roots : List ℕ) (number : ℕ) → number < length edges → IsReachedFrom (graph_of edges) roots number → is_reached_from edges roots number ≡ true
unfolding is_reached_from
tells edges roots number below (root, there, way) =
    and_from (nat_lt number (length edges)) (list_any (λ root. root == number || leads (length edges) (graph_of edges) root number) roots)
    (lt-ltb number (length edges) below)
    (among (λ root. root == number || leads (length edges) (graph_of edges) root number) roots root there
    (⊎_elim (λ same. or_left (root == number) (leads (length edges) (graph_of edges) root number) (eq-eqb root number same))
    (λ leads'. or_right (root == number) (leads (length edges) (graph_of edges) root number) ((way_is edges root number).0 leads')) way))

pub reached_is_meant : ReachedIsMeant
reached_is_meant edges roots number below = (tells edges roots number below, λ h. (is_reached edges roots number h).1)
