-- The application that an input is: the methods that are reached in it, by their numbers in an event, and the initialisers in
-- the order in which they run.
use Rattle.std.specs.Prelude.{ℕ, List, filter_map, map, slice_get}
use Rattle.osek_core.specs.Event.Text.{Names}
use Rattle.jworld.specs.Classes.{World}
use Rattle.kbind.specs.declared.bound.Bound.{Bound}
use Rattle.method_code.specs.Method.{method_of}
use Rattle.method_typing.specs.declared.method.Typed.{Typed}
use Rattle.reach.specs.declared.reached.Reached.{Reached}
use Rattle.run_names.specs.Methods.{method_name}
use Rattle.run_names.specs.Objects.{names_of}
use Rattle.script.specs.Names.{event_names}
use Rattle.b_machine.specs.Application.{Application}

abbrev pub application_of : World → Bound → Reached → Application
application_of classes bound reached = record {
  files = classes;
  bound = bound;
  methods = map (method_of (record { files = classes; bound = bound })) reached.typed;
  initialisers = filter_map (slice_get reached.pairs) reached.starts;
}

abbrev pub shown_methods : World → List Typed → List (List ℕ)
shown_methods classes typed = map (method_name classes) (map (λ one. one.method) typed)

-- the names by which an application's events are shown: those of its objects, and its methods
abbrev pub shown_names : Application → Names
shown_names app = record (event_names (names_of app.bound.config)) { methods = map (λ method. method_name app.files method.id) app.methods }
