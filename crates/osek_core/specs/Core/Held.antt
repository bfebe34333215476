-- The resources that are held as `Core` keeps them: one list, those taken last first.
use Rattle.std.specs.Prelude.{ℕ, max, List, map, filter, fold, reverse, nat_eq, slice_index}
use Rattle.osek_core.specs.declared.scheduler.Holding.{Holding}
use Rattle.osek_core.specs.Core.Queue.{without}

-- the resources that the task holds, of all that are held, those taken last first
abbrev pub taken_by : List Holding → ℕ → List ℕ
taken_by holdings task = map (λ holding. holding.resource) (filter (λ holding. nat_eq holding.task task) holdings)

-- the same in the order taken
abbrev pub resources_of : List Holding → ℕ → List ℕ
resources_of holdings task = reverse (taken_by holdings task)

-- all but the one that the task took last
abbrev pub without_last_taken : List Holding → ℕ → List Holding
without_last_taken holdings task = without (λ holding. nat_eq holding.task task) holdings

-- the greatest of a priority and the ceilings of the resources that the task holds
abbrev pub highest_of : ℕ → List ℕ → List Holding → ℕ → ℕ
highest_of own ceilings holdings task = fold max own (map (slice_index ceilings) (taken_by holdings task))
