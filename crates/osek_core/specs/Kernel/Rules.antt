-- What the scheduler knows of an application's tables: each task's rule, and each resource's ceiling.
use Rattle.std.specs.Prelude.{ℕ, max, true, false, List, map, length, slice_index, slice_index_or, nat_eq, fold, filter}
use Rattle.std.specs.List.{list_any, range_with_len}
use Rattle.osek_core.specs.declared.tables.TaskRule.{TaskRule}
use Rattle.osek_core.specs.declared.tables.TaskRow.{TaskRow}
use Rattle.osek_core.specs.declared.tables.Tables.{Tables}

pub record Rules : Type 0 where
  pub tasks : List TaskRule
  pub ceilings : List ℕ

-- the rule of a task that isn't there
abbrev pub no_task : TaskRule
no_task = record { priority = 0; activations = 0; preemptable = true; extended = false }

abbrev pub rule_of : Rules → ℕ → TaskRule
rule_of rules task = slice_index_or rules.tasks task no_task

abbrev pub ceiling_of : Rules → ℕ → ℕ
ceiling_of rules resource = slice_index rules.ceilings resource

-- OSEK/VDX OS 2.2.3, section 8.5: the greatest priority of the tasks that use the resource, and 0 where none does
abbrev pub ceiling : List TaskRow → ℕ → ℕ
ceiling tasks resource =
    fold max 0 (map (λ row. row.rule.priority) (filter (λ row. list_any (nat_eq resource) row.resources) tasks))

abbrev pub rules_of : Tables → Rules
rules_of tables =
    record {
      tasks = map (λ row. row.rule) tables.tasks;
      ceilings = map (ceiling tables.tasks) (range_with_len 0 (length tables.resources));
    }
