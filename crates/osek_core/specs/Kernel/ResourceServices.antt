-- OSEK/VDX OS 2.2.3, section 13.4.3: the services of resource management, under the priority ceiling of section 8.5.
-- A job whose current priority changes becomes the first of its new priority.
use Rattle.std.specs.Prelude.{ℕ, ◌-◌, Bool, ◌||◌, not, List, [], ◌∷◌, ◌++◌, length, take, slice_set, nat_eq, nat_lt, if◌then◌else◌}
use Rattle.std.specs.List.{list_any, ends_with}
use Rattle.osek_core.specs.Kernel.Status.{Answered, done, refused, e_os_access, e_os_nofunc}
use Rattle.osek_core.specs.Kernel.Rules.{Rules, rule_of, ceiling_of}
use Rattle.osek_core.specs.Kernel.Scheduler.{Scheduler, held_by, current_priority, move_first}

-- some task holds the resource
abbrev pub is_held : Scheduler → ℕ → Bool
is_held s resource = list_any (list_any (nat_eq resource)) s.held

-- the ceiling of a resource that this task has no `use` of may be too low for it
abbrev pub is_ceiling_below : Rules → ℕ → ℕ → Bool
is_ceiling_below rules resource task = nat_lt (ceiling_of rules resource) (rule_of rules task).priority

-- the task holds these resources from now on
abbrev pub hold : Rules → Scheduler → ℕ → List ℕ → Scheduler
hold rules s task resources =
    let next : Scheduler = record s { held = slice_set s.held task resources } in
    move_first next (current_priority rules s task) (current_priority rules next task) task

abbrev pub get_resource : Rules → Scheduler → ℕ → ℕ → Answered Scheduler
get_resource rules s caller resource =
    if is_held s resource || is_ceiling_below rules resource caller then refused s e_os_access
    else done (hold rules s caller (held_by s caller ++ resource ∷ []))

abbrev pub release_resource : Rules → Scheduler → ℕ → ℕ → Answered Scheduler
release_resource rules s caller resource =
    if is_ceiling_below rules resource caller then refused s e_os_access
    else (if not (ends_with nat_eq (held_by s caller) (resource ∷ [])) then refused s e_os_nofunc
    else done (hold rules s caller (take (length (held_by s caller) - 1) (held_by s caller))))
