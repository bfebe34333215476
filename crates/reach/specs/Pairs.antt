-- The pairs of a domain and a method that are reached in an application: from the entries of its tasks on.
use Rattle.std.specs.Prelude.{List, [], map, zip, Result}
use Rattle.kes_text.specs.declared.refusal.Stop.{Stop}
use Rattle.jworld.specs.declared.ids.MethodId.{MethodId}
use Rattle.kconfig.specs.declared.config.TaskLine.{TaskLine}
use Rattle.reaching.specs.declared.pair.Pair.{Pair}
use Rattle.reaching.specs.Order.{add_all}
use Rattle.reaching.specs.Reached.{reached}
use Rattle.mentions.specs.Setting.{Setting}
use Rattle.reach.specs.Methods.{mentions_of, too_large}

-- the entry of each task in its domain
abbrev pub entry : TaskLine × MethodId → Pair
entry task = record { domain = task.0.domain; method = task.1 }

abbrev pub entries_of : List TaskLine → List MethodId → List Pair
entries_of tasks entries = map entry (zip tasks entries)

abbrev pub roots : Setting → List Pair
roots s = entries_of s.bound.config.tasks s.bound.entries

-- each of them once
abbrev pub entries : Setting → List Pair
entries s = add_all [] (roots s)

unfoldable pub pairs_of : Setting → Result (List Pair) Stop
pairs_of s = reached (mentions_of s (entries s)) (too_large s) (roots s)
