-- What the reader keeps beside the configuration, with one line more.
use Rattle.std.proofs.Common.{◌≡◌, ℕ, ◌||◌, Bool, true, false, List, [], ◌∷◌, ◌++◌, bytes_eq, refl, sym, ap, ◌∙◌, arith, length-append}
use Rattle.std.specs.List.{list_any}
use Rattle.std.proofs.lemmas.List.Folds.{list_any-append}
use Rattle.std.proofs.lemmas.List.Elements.{All-push}
use Rattle.kconfig.specs.declared.config.Config.{Config}
use Rattle.kconfig.specs.declared.config.Line.{Line}
use Rattle.kconfig.specs.declared.config.Line.TheVariants as line
use Rattle.kconfig.specs.Config.{with_line}
use Rattle.kconfig.specs.Names.{is_bound, has_cell, binds, places}
use Rattle.kconfig.specs.Limits.{IsSmall, Fits, IsTaskSmall, IsCounterSmall}
use Rattle.kconfig.specs.Kept.{Keeps}

small : (c : Config) (x : Line) → IsSmall c → Fits c x → IsSmall (with_line c x)
small c (line.Devices x) s f = record {
  domains = s.domains;
  counters = s.counters;
  events = s.events;
  resources = s.resources;
  tasks = s.tasks;
  alarms = s.alarms;
  objects = s.objects;
  portals = s.portals;
  each_task = s.each_task;
  each_counter = s.each_counter;
}
small c (line.Domain x) s f = record {
  domains = rw (length-append c.domains (x ∷ [])) (omega (arith, f));
  counters = s.counters;
  events = s.events;
  resources = s.resources;
  tasks = s.tasks;
  alarms = s.alarms;
  objects = s.objects;
  portals = s.portals;
  each_task = s.each_task;
  each_counter = s.each_counter;
}
small c (line.Counter x) s f = record {
  domains = s.domains;
  counters = rw (length-append c.counters (x ∷ [])) (omega (arith, f.0));
  events = s.events;
  resources = s.resources;
  tasks = s.tasks;
  alarms = s.alarms;
  objects = s.objects;
  portals = s.portals;
  each_task = s.each_task;
  each_counter = All-push IsCounterSmall c.counters x s.each_counter f.1;
}
small c (line.Event x) s f = record {
  domains = s.domains;
  counters = s.counters;
  events = rw (length-append c.events (x ∷ [])) (omega (arith, f));
  resources = s.resources;
  tasks = s.tasks;
  alarms = s.alarms;
  objects = s.objects;
  portals = s.portals;
  each_task = s.each_task;
  each_counter = s.each_counter;
}
small c (line.Resource x) s f = record {
  domains = s.domains;
  counters = s.counters;
  events = s.events;
  resources = rw (length-append c.resources (x ∷ [])) (omega (arith, f));
  tasks = s.tasks;
  alarms = s.alarms;
  objects = s.objects;
  portals = s.portals;
  each_task = s.each_task;
  each_counter = s.each_counter;
}
small c (line.Task x) s f = record {
  domains = s.domains;
  counters = s.counters;
  events = s.events;
  resources = s.resources;
  tasks = rw (length-append c.tasks (x ∷ [])) (omega (arith, f.0));
  alarms = s.alarms;
  objects = s.objects;
  portals = s.portals;
  each_task = All-push IsTaskSmall c.tasks x s.each_task f.1;
  each_counter = s.each_counter;
}
small c (line.Use x) s f = record {
  domains = s.domains;
  counters = s.counters;
  events = s.events;
  resources = s.resources;
  tasks = s.tasks;
  alarms = s.alarms;
  objects = s.objects;
  portals = s.portals;
  each_task = s.each_task;
  each_counter = s.each_counter;
}
small c (line.Wait x) s f = record {
  domains = s.domains;
  counters = s.counters;
  events = s.events;
  resources = s.resources;
  tasks = s.tasks;
  alarms = s.alarms;
  objects = s.objects;
  portals = s.portals;
  each_task = s.each_task;
  each_counter = s.each_counter;
}
small c (line.Alarm x) s f = record {
  domains = s.domains;
  counters = s.counters;
  events = s.events;
  resources = s.resources;
  tasks = s.tasks;
  alarms = rw (length-append c.alarms (x ∷ [])) (omega (arith, f));
  objects = s.objects;
  portals = s.portals;
  each_task = s.each_task;
  each_counter = s.each_counter;
}
small c (line.Start x) s f = record {
  domains = s.domains;
  counters = s.counters;
  events = s.events;
  resources = s.resources;
  tasks = s.tasks;
  alarms = s.alarms;
  objects = s.objects;
  portals = s.portals;
  each_task = s.each_task;
  each_counter = s.each_counter;
}
small c (line.Native x) s f = record {
  domains = s.domains;
  counters = s.counters;
  events = s.events;
  resources = s.resources;
  tasks = s.tasks;
  alarms = s.alarms;
  objects = s.objects;
  portals = s.portals;
  each_task = s.each_task;
  each_counter = s.each_counter;
}
small c (line.Cell x) s f = record {
  domains = s.domains;
  counters = s.counters;
  events = s.events;
  resources = s.resources;
  tasks = s.tasks;
  alarms = s.alarms;
  objects = s.objects;
  portals = s.portals;
  each_task = s.each_task;
  each_counter = s.each_counter;
}
small c (line.Object x) s f = record {
  domains = s.domains;
  counters = s.counters;
  events = s.events;
  resources = s.resources;
  tasks = s.tasks;
  alarms = s.alarms;
  objects = rw (length-append c.objects (x ∷ [])) (omega (arith, f));
  portals = s.portals;
  each_task = s.each_task;
  each_counter = s.each_counter;
}
small c (line.Device x) s f = record {
  domains = s.domains;
  counters = s.counters;
  events = s.events;
  resources = s.resources;
  tasks = s.tasks;
  alarms = s.alarms;
  objects = s.objects;
  portals = s.portals;
  each_task = s.each_task;
  each_counter = s.each_counter;
}
small c (line.Portal x) s f = record {
  domains = s.domains;
  counters = s.counters;
  events = s.events;
  resources = s.resources;
  tasks = s.tasks;
  alarms = s.alarms;
  objects = s.objects;
  portals = rw (length-append c.portals (x ∷ [])) (omega (arith, f));
  each_task = s.each_task;
  each_counter = s.each_counter;
}

-- a test of a list with one element more
pushed : {A : Type 0} (test : A → Bool) (xs : List A) (x : A) → list_any test (xs ++ x ∷ []) ≡ (test x || list_any test xs)
pushed test xs x = rw (list_any-append test xs (x ∷ [])) (swap (list_any test xs) (test x)) where
  swap : (a b : Bool) → (a || (b || false)) ≡ (b || a)
  swap true true = refl
  swap true false = refl
  swap false true = refl
  swap false false = refl

first : (a n d p : Bool) → (((a || n) || d) || p) ≡ (a || ((n || d) || p))
first true n d p = refl
first false n d p = refl

middle : (a n d p : Bool) → ((n || (a || d)) || p) ≡ (a || ((n || d) || p))
middle true true d p = refl
middle true false d p = refl
middle false n d p = refl

last : (a n p : Bool) → (n || (a || p)) ≡ (a || (n || p))
last true true p = refl
last true false p = refl
last false n p = refl

bound : (c : Config) (x : Line) (key : List ℕ) → is_bound (with_line c x) key ≡ (binds x key || is_bound c key)
bound c (line.Devices x) key = refl
bound c (line.Domain x) key = refl
bound c (line.Counter x) key = refl
bound c (line.Event x) key = refl
bound c (line.Resource x) key = refl
bound c (line.Task x) key = refl
bound c (line.Use x) key = refl
bound c (line.Wait x) key = refl
bound c (line.Alarm x) key = refl
bound c (line.Start x) key = refl
bound c (line.Native x) key = rw (pushed (λ y. bytes_eq key y.method) c.natives x) (first (bytes_eq key x.method) _ _ _)
bound c (line.Cell x) key = refl
bound c (line.Object x) key = refl
bound c (line.Device x) key = rw (pushed (λ y. bytes_eq key y.method) c.device_methods x) (middle (bytes_eq key x.method) _ _ _)
bound c (line.Portal x) key = rw (pushed (λ y. bytes_eq key y.method) c.portals x) (last (bytes_eq key x.method) _ _)

placed : (c : Config) (x : Line) (key : List ℕ) → has_cell (with_line c x) key ≡ (places x key || has_cell c key)
placed c (line.Devices x) key = refl
placed c (line.Domain x) key = refl
placed c (line.Counter x) key = refl
placed c (line.Event x) key = refl
placed c (line.Resource x) key = refl
placed c (line.Task x) key = refl
placed c (line.Use x) key = refl
placed c (line.Wait x) key = refl
placed c (line.Alarm x) key = refl
placed c (line.Start x) key = refl
placed c (line.Native x) key = refl
placed c (line.Cell x) key = pushed (λ y. bytes_eq key y.field) c.cells x
placed c (line.Object x) key = refl
placed c (line.Device x) key = refl
placed c (line.Portal x) key = refl

pub keeps : (c : Config) (x : Line) (methods fields more_methods more_fields : List (List ℕ)) → Keeps c methods fields → Fits c x
    → ((key : List ℕ) → list_any (bytes_eq key) more_methods ≡ (binds x key || list_any (bytes_eq key) methods))
    → ((key : List ℕ) → list_any (bytes_eq key) more_fields ≡ (places x key || list_any (bytes_eq key) fields))
    → Keeps (with_line c x) more_methods more_fields
keeps c x methods fields more_methods more_fields k fits bind place = record {
  small = small c x k.small fits;
  methods = λ key. bind key ∙ ap (λ (b : Bool). binds x key || b) (k.methods key) ∙ sym (bound c x key);
  fields = λ key. place key ∙ ap (λ (b : Bool). places x key || b) (k.fields key) ∙ sym (placed c x key);
}
