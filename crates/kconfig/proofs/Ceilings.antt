-- The ceilings of the tables are those of the lines.
use Rattle.std.proofs.Common.{◌≡◌, ◌<◌, ◌≤◌, ℕ, ◌&&◌, max, Bool, true, List, [], ◌∷◌, map, length, get_or, eqb, Option, Some, ◌⊎◌, inl, inr, refl, sym, ap, subst, ◌∙◌, arith}
use Rattle.std.specs.Prelude.{All, Contains, filter, fold, slice_get}
use Rattle.std.specs.List.{list_any, range_with_len, Any}
use Rattle.std.proofs.lemmas.Bool.{eqb-true, eq-eqb, cases_lt}
use Rattle.std.proofs.lemmas.Option.{get_or_from_slice_get, slice_get_within}
use Rattle.std.proofs.lemmas.List.Elements.{All-nil, All-cons, All-head, All-tail, All-filter, All-contains, filter_passes}
use Rattle.std.proofs.lemmas.List.Folds.{Any-from_list_any, list_any-from_Any, list_any_at}
use Rattle.osek_core.specs.declared.tables.TaskRow.{TaskRow}
use Rattle.osek_core.specs.Kernel.Rules.{ceiling}
use Rattle.kconfig.specs.declared.config.Config.{Config}
use Rattle.kconfig.specs.declared.config.TaskLine.{TaskLine}
use Rattle.kconfig.specs.declared.config.UseLine.{UseLine}
use Rattle.kconfig.specs.Tasks.{use_stands}
use Rattle.kconfig.specs.Sound.{IsSound}
use Rattle.kconfig.specs.Tables.{places_where, task_row, task_rows}
use Rattle.kconfig.specs.Ceilings.{IsUsedAt, IsCeiling}
use Rattle.kconfig.proofs.Inversion.{both_true}
use Rattle.kconfig.proofs.Rows.{rows_numbered, all_rows, in_range, contains_filtered}

-- the greatest of a number and those of a list
least_of : {X : Type 0} (f : X → ℕ) (a : ℕ) (xs : List X) → a ≤ fold max a (map f xs)
least_of f a [] = omega arith
least_of f a (x ∷ xs) = let more = least_of f (max a (f x)) xs in omega (arith, more)

each_of : {X : Type 0} (f : X → ℕ) (a : ℕ) (xs : List X) → All (λ x. f x ≤ fold max a (map f xs)) xs
each_of f a [] = All-nil (λ x. f x ≤ a)
each_of f a (x ∷ xs) =
    let more = least_of f (max a (f x)) xs in
    All-cons (λ y. f y ≤ fold max (max a (f x)) (map f xs)) x xs (omega (arith, more)) (each_of f (max a (f x)) xs)

one_of : (P : ℕ → Type 0) (a b : ℕ) → P a → P b → P (max a b)
one_of P a b first second = by (cases_lt a b) where
  by : (a < b) ⊎ (b ≤ a) → P (max a b)
  by (inl less) = let is : b ≡ max a b = omega (arith, less) in subst P is second
  by (inr most) = let is : a ≡ max a b = omega (arith, most) in subst P is first

kept_by : {X : Type 0} (P : ℕ → Type 0) (f : X → ℕ) (a : ℕ) (xs : List X) → P a → All (λ x. P (f x)) xs → P (fold max a (map f xs))
kept_by P f a [] first each = first
kept_by P f a (x ∷ xs) first each =
    kept_by P f (max a (f x)) xs (one_of P a (f x) first (All-head (λ x. P (f x)) x xs each)) (All-tail (λ x. P (f x)) x xs each)

-- a row that has the resource is that of a task with a line
record IsRow (c : Config) (row : TaskRow) : Type 0 where
  place : ℕ
  task : TaskLine
  is_task : slice_get c.tasks place ≡ Some task
  row_is : row ≡ task_row c place task

used_by : (c : Config) (resource place : ℕ) (task : TaskLine) → slice_get c.tasks place ≡ Some task → list_any (eqb resource) (places_where (use_stands c.uses place) (length c.resources)) ≡ true
    → Any (IsUsedAt c resource task.prio) c.uses
used_by c resource place task is has =
    let found = Any-from_list_any (eqb resource) (places_where (use_stands c.uses place) (length c.resources)) has in
    let P : ℕ → Type 0 = λ resource. use_stands c.uses place resource ≡ true in
    let stands : P found.1 = All-contains P (places_where (use_stands c.uses place) (length c.resources)) found.1 (filter_passes (use_stands c.uses place) (range_with_len 0 (length c.resources))) (found.0, found.2, found.3) in
    let line = Any-from_list_any (λ (x : UseLine). eqb x.task place && eqb x.resource found.1) c.uses stands in
    let both = both_true (eqb line.1.task place) (eqb line.1.resource found.1) line.4 in
    let same : resource ≡ found.1 = eqb-true _ _ found.4 in
    let at : ℕ → Option TaskLine = slice_get c.tasks in
    let here : IsUsedAt c resource task.prio line.1 = record { resource_is = eqb-true _ _ both.1 ∙ sym same; task = task; is_task = ap at (eqb-true _ _ both.0) ∙ is; priority_is = refl } in
    (line.0, line.1, line.2, line.3, here)

used_row : (c : Config) (resource : ℕ) (row : TaskRow) → IsRow c row → list_any (eqb resource) row.resources ≡ true → Any (IsUsedAt c resource row.rule.priority) c.uses
used_row c resource row is has =
    let P : TaskRow → Type 0 = λ row. list_any (eqb resource) row.resources ≡ true → Any (IsUsedAt c resource row.rule.priority) c.uses in
    subst P (sym is.row_is) (used_by c resource is.place is.task is.is_task) has

-- a task with a line has a row that has the resource
row_of_line : (c : Config) → IsSound c → (resource k : ℕ) (d : UseLine) → k < length c.uses → (priority : ℕ) → (used : IsUsedAt c resource priority (get_or c.uses k d))
    → Contains (filter (λ row. list_any (eqb resource) row.resources) (task_rows c)) (task_row c (get_or c.uses k d).task used.task)
row_of_line c s resource k d within priority used =
    let x = get_or c.uses k d in
    let row = task_row c x.task used.task in
    let there = (rows_numbered (λ x. task_row c x.0 x.1) c.tasks).at x.task used.task used.is_task in
    let less : resource < length c.resources = rw (← used.resource_is) (s.each_use k d within).resource in
    let stands : use_stands c.uses x.task resource ≡ true =
    list_any_at (λ (y : UseLine). eqb y.task x.task && eqb y.resource resource) c.uses k d within (rw (eq-eqb x.task x.task refl) (eq-eqb x.resource resource used.resource_is)) in
    let place = contains_filtered (use_stands c.uses x.task) (range_with_len 0 (length c.resources)) resource (in_range (length c.resources) resource less) stands in
    let has : list_any (eqb resource) row.resources ≡ true = list_any-from_Any (eqb resource) row.resources (place.0, resource, place.1, place.2, eq-eqb resource resource refl) in
    contains_filtered (λ row. list_any (eqb resource) row.resources) (task_rows c) row (x.task, slice_get_within (task_rows c) x.task row there, get_or_from_slice_get (task_rows c) x.task row row there) has

pub ceilings : (c : Config) → IsSound c → (resource : ℕ) → IsCeiling c resource (ceiling (task_rows c) resource)
ceilings c s resource =
    let test : TaskRow → Bool = λ row. list_any (eqb resource) row.resources in
    let rows = filter test (task_rows c) in
    let priority : TaskRow → ℕ = λ row. row.rule.priority in
    let P : ℕ → Type 0 = λ priority. (priority ≡ 0) ⊎ Any (IsUsedAt c resource priority) c.uses in
    let all : All (IsRow c) (task_rows c) =
    all_rows (IsRow c) (λ i x. task_row c i x) c.tasks (task_rows c) (rows_numbered (λ x. task_row c x.0 x.1) c.tasks) (λ i x is. record { place = i; task = x; is_task = is; row_is = refl }) in
    let kept : All (IsRow c) rows = All-filter test (IsRow c) (task_rows c) all in
    let passes : All (λ row. test row ≡ true) rows = filter_passes test (task_rows c) in
    record {
      greatest = λ k d within at used.
          let row = task_row c (get_or c.uses k d).task used.task in
          let most : used.task.prio ≤ fold max 0 (map priority rows) = All-contains (λ row. priority row ≤ fold max 0 (map priority rows)) rows row (each_of priority 0 rows) (row_of_line c s resource k d within at used) in
          rw (← used.priority_is) most;
      reached = kept_by P priority 0 rows (inl refl) (λ k d within. inr (used_row c resource (get_or rows k d) (kept k d within) (passes k d within)));
    }
