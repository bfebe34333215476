-- The lines of tasks, and of their resources and events. Each takes the words behind the first.
use Rattle.std.specs.Prelude.{ℕ, ◌==◌, nat_lt, nat_le, Bool, true, ◌&&◌, not, is_none, List, [], ◌∷◌, length, codes, Option, Some, None, Result, Ok, bytes_eq, slice_get}
use Rattle.std.specs.List.{list_any}
use Rattle.std.specs.Option.{option_and_then}
use Rattle.kes_text.specs.declared.refusal.Stop.{Stop}
use Rattle.kes_text.specs.declared.refusal.Kind.TheVariants as kind
use Rattle.kconfig.specs.declared.config.TaskLine.{TaskLine}
use Rattle.kconfig.specs.declared.config.UseLine.{UseLine}
use Rattle.kconfig.specs.declared.config.WaitLine.{WaitLine}
use Rattle.kconfig.specs.declared.config.Config.{Config}
use Rattle.text_words.specs.Said.{◌>>=◌, refused, check, known}
use Rattle.text_words.specs.declared.number.Number.{Number}
use Rattle.text_words.specs.Numbers.{number_of, is_number, within, value}
use Rattle.text_words.specs.Words.{is_either}
use Rattle.kconfig.specs.Words.{is_name, is_entry}
use Rattle.kconfig.specs.Config.{Before}
use Rattle.kconfig.specs.Names.{named, domain_named, task_named}

abbrev pub are_task_words : List ℕ → List ℕ → List ℕ → Bool
are_task_words domain prio acts = (bytes_eq domain (codes "domain") && bytes_eq prio (codes "prio")) && bytes_eq acts (codes "acts")

abbrev pub are_choice_words : List ℕ → List ℕ → List ℕ → Bool
are_choice_words auto sched entry = (bytes_eq auto (codes "auto") && bytes_eq sched (codes "sched")) && bytes_eq entry (codes "entry")

abbrev pub task_form : List ℕ → Number → Number → List ℕ → List ℕ → List ℕ → Bool
task_form name prio acts auto sched entry =
    ((((is_name name && is_number prio) && is_number acts) && is_either (codes "yes") (codes "no") auto)
    && is_either (codes "full") (codes "non") sched) && is_entry entry

abbrev pub task_fits : Number → Number → Bool
task_fits prio acts = within 0 63 prio && within 1 15 acts

unfoldable pub task_said : Before → ℕ → List ℕ → List ℕ → Number → Number → List ℕ → List ℕ → List ℕ → Result TaskLine Stop
task_said before n name domain prio acts auto sched entry = do
  _ ← check (task_form name prio acts auto sched entry) kind.Syntax n
  _ ← check (task_fits prio acts) kind.Range n
  _ ← check (nat_lt (length before.config.tasks) 64) kind.Room n
  _ ← check (is_none (task_named before.config name)) kind.Twice n
  place ← known (domain_named before.config domain) kind.Unknown n
  Ok (record {
    line = n;
    name = name;
    domain = place;
    prio = value prio;
    acts = value acts;
    auto = bytes_eq auto (codes "yes");
    full = bytes_eq sched (codes "full");
    entry = entry;
  })

-- .. auto yes|no sched full|non entry CLASS.NAME
unfoldable pub task_choices : Before → ℕ → List ℕ → List ℕ → Number → Number → List (List ℕ) → Result TaskLine Stop
task_choices before n name domain prio acts (auto_word ∷ auto ∷ sched_word ∷ sched ∷ entry_word ∷ entry ∷ []) = do
  _ ← check (are_choice_words auto_word sched_word entry_word) kind.Syntax n
  task_said before n name domain prio acts auto sched entry
task_choices before n name domain prio acts _ = refused kind.Syntax n

-- task T domain D prio N acts N auto yes|no sched full|non entry CLASS.NAME
abbrev pub task_line : Before → ℕ → List (List ℕ) → Result TaskLine Stop
task_line before n (name ∷ domain_word ∷ domain ∷ prio_word ∷ prio ∷ acts_word ∷ acts ∷ others) = do
  _ ← check (are_task_words domain_word prio_word acts_word) kind.Syntax n
  task_choices before n name domain (number_of prio) (number_of acts) others
task_line before n _ = refused kind.Syntax n

-- a line says that the task uses the resource
abbrev pub use_stands : List UseLine → ℕ → ℕ → Bool
use_stands lines task resource = list_any (λ x. x.task == task && x.resource == resource) lines

-- use T R. A pair that names something undeclared doesn't stand already, so that Unknown may be asked before Twice.
unfoldable pub use_said : Before → ℕ → List ℕ → List ℕ → Result UseLine Stop
use_said before n task resource = do
  t ← known (task_named before.config task) kind.Unknown n
  r ← known (named before.config.resources resource) kind.Unknown n
  _ ← check (not (use_stands before.config.uses t r)) kind.Twice n
  Ok (record { line = n; task = t; resource = r })

abbrev pub use_line : Before → ℕ → List (List ℕ) → Result UseLine Stop
use_line before n (task ∷ resource ∷ []) = use_said before n task resource
use_line before n _ = refused kind.Syntax n

-- a task that is declared has one activation
abbrev pub acts_once : Option TaskLine → Bool
acts_once None = true
acts_once (Some task) = nat_le task.acts 1

abbrev pub may_wait : Config → Option ℕ → Bool
may_wait c place = acts_once (option_and_then (slice_get c.tasks) place)

-- a line says that the task waits for the event
abbrev pub wait_stands : List WaitLine → ℕ → ℕ → Bool
wait_stands lines task event = list_any (λ x. x.task == task && x.event == event) lines

-- wait T E: the task has one activation. As with `use`, Unknown may be asked before Twice.
unfoldable pub wait_said : Before → ℕ → List ℕ → List ℕ → Result WaitLine Stop
wait_said before n task event = do
  _ ← check (may_wait before.config (task_named before.config task)) kind.Range n
  t ← known (task_named before.config task) kind.Unknown n
  e ← known (named before.config.events event) kind.Unknown n
  _ ← check (not (wait_stands before.config.waits t e)) kind.Twice n
  Ok (record { line = n; task = t; event = e })

abbrev pub wait_line : Before → ℕ → List (List ℕ) → Result WaitLine Stop
wait_line before n (task ∷ event ∷ []) = wait_said before n task event
wait_line before n _ = refused kind.Syntax n
