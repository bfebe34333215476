-- Falls: a function's run would pass its last statement: that one may go on behind it, or a jump names a label behind it.
-- A function without statements shows it at 0.
use Rattle.std.specs.Prelude.{ℕ, ◌+◌, Bool, false, ◌&&◌, ◌||◌, length, nat_eq, Option, Some, None}
use Rattle.std.specs.List.{list_any}
use Rattle.csubset.specs.declared.program.CFunction.{CFunction}
use Rattle.csubset.specs.Machine.Application.{label_place}
use Rattle.csubset.specs.Form.Jump.{at_form, targets_at, falls_through}

abbrev pub is_end : CFunction → Option ℕ → Bool
is_end function None = false
is_end function (Some place) = nat_eq place (length function.statements)

abbrev pub falls_fault : CFunction → ℕ → Bool
falls_fault function place =
    (nat_eq place 0 && nat_eq (length function.statements) 0)
    || (nat_eq (place + 1) (length function.statements) && at_form function place false falls_through)
    || list_any (λ label. is_end function (label_place function label)) (targets_at function place)
