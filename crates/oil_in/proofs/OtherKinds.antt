-- Behind the objects of one kind stand those of the kinds that follow, or the last line.
use Rattle.std.proofs.Common.{◌≡◌, ℕ, ◌++◌, List, codes, flat_map, None, refl}
use Rattle.osek_core.specs.declared.tables.Tables.{Tables}
use Rattle.oil_out.specs.OilText.{header, resource_text, counter_text, task_text, alarm_text}
use Rattle.oil_in.specs.Pieces.{behind}
use Rattle.oil_in.proofs.PieceLemmas.{none-front}

-- the text from the objects of a kind on
abbrev pub alarms_on : Tables → List ℕ
alarms_on tables = flat_map (alarm_text tables) tables.alarms ++ codes "};\n"

abbrev pub tasks_on : Tables → List ℕ
tasks_on tables = flat_map (task_text tables) tables.tasks ++ alarms_on tables

abbrev pub counters_on : Tables → List ℕ
counters_on tables = flat_map counter_text tables.counters ++ tasks_on tables

abbrev pub resources_on : Tables → List ℕ
resources_on tables = flat_map resource_text tables.resources ++ counters_on tables

pub no_event : (tables : Tables) → behind (codes "  EVENT e_") (resources_on tables) ≡ None
unfolding behind header resource_text counter_text task_text alarm_text
no_event tables =
    let front = codes "  EVENT e_" in
    let alarms = none-front front (alarm_text tables) tables.alarms (codes "};\n") (λ x more. refl) refl in
    let tasks = none-front front (task_text tables) tables.tasks (alarms_on tables) (λ x more. refl) alarms in
    let counters = none-front front counter_text tables.counters (tasks_on tables) (λ x more. refl) tasks in
    none-front front resource_text tables.resources (counters_on tables) (λ x more. refl) counters

pub no_resource : (tables : Tables) → behind (codes "  RESOURCE r_") (counters_on tables) ≡ None
unfolding behind header counter_text task_text alarm_text
no_resource tables =
    let front = codes "  RESOURCE r_" in
    let alarms = none-front front (alarm_text tables) tables.alarms (codes "};\n") (λ x more. refl) refl in
    let tasks = none-front front (task_text tables) tables.tasks (alarms_on tables) (λ x more. refl) alarms in
    none-front front counter_text tables.counters (tasks_on tables) (λ x more. refl) tasks

pub no_counter : (tables : Tables) → behind (codes "  COUNTER c_") (tasks_on tables) ≡ None
unfolding behind header task_text alarm_text
no_counter tables =
    let front = codes "  COUNTER c_" in
    let alarms = none-front front (alarm_text tables) tables.alarms (codes "};\n") (λ x more. refl) refl in
    none-front front (task_text tables) tables.tasks (alarms_on tables) (λ x more. refl) alarms

pub no_task : (tables : Tables) → behind (codes "  TASK t_") (alarms_on tables) ≡ None
unfolding behind header alarm_text
no_task tables = none-front (codes "  TASK t_") (alarm_text tables) tables.alarms (codes "};\n") (λ x more. refl) refl

pub no_alarm : behind (codes "  ALARM a_") (codes "};\n") ≡ None
unfolding behind
no_alarm = refl
