-- The methods of the reached pairs, each once, in the order of their first pair, with their instructions and frames.
use Rattle.std.specs.Prelude.{List, [], ◌∷◌, ◌++◌, map, filter_map, Option, Some, None, Result, Ok, Err}
use Rattle.std.specs.Result.{result_ok}
use Rattle.kes_text.specs.declared.refusal.Stop.{Stop}
use Rattle.jworld.specs.Classes.{World}
use Rattle.method_typing.specs.declared.method.Typed.{Typed}
use Rattle.method_typing.specs.Method.{method_typed}
use Rattle.reaching.specs.declared.pair.Pair.{Pair}
use Rattle.reaching.specs.Order.{add, add_all}

-- the same method for each domain
abbrev pub in_any_domain : Pair → Pair
in_any_domain pair = record { domain = 0; method = pair.method }

abbrev pub with_method : List Pair → Option Pair → List Pair
with_method methods None = methods
with_method methods (Some pair) = add methods (in_any_domain pair)

abbrev pub methods_of : List Pair → List Pair
methods_of pairs = add_all [] (map in_any_domain pairs)

-- behind others, if it is well typed
abbrev pub with_typing : List Typed → Result Typed Stop → List Typed
with_typing typed (Ok one) = typed ++ one ∷ []
with_typing typed (Err stop) = typed

abbrev pub typings_of : World → List Pair → List Typed
typings_of files pairs = filter_map (λ pair. result_ok (method_typed files pair.method)) (methods_of pairs)
