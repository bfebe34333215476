use Rattle.std.proofs.Common.{◌≡◌, drop}
use Rattle.std.specs.List.{list_any}
use Rattle.type_states.specs.Uninit.{is_same_uninit}
use Rattle.type_states.proofs.uninit.is_among.Given as goal

abbrev pub invariant-loop-one : goal.invariant-loop-one
invariant-loop-one l = list_any (is_same_uninit l.given) (drop l.one-index l.types) ≡ list_any (is_same_uninit l.given) l.types
