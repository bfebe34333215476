use Rattle.std.proofs.Common.{◌≡◌, drop}
use Rattle.std.specs.List.{list_any}
use Rattle.typing_rules.specs.Rules.Members.{is_declared_as}
use Rattle.typing_rules.proofs.members.declares.Given as goal

abbrev pub invariant-loop-field : goal.invariant-loop-field
invariant-loop-field l = list_any (is_declared_as l.named) (drop l.field-index l.fields) ≡ list_any (is_declared_as l.named) l.fields
