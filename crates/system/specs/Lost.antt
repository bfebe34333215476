-- A set of alarms, as a tick gives those whose action was lost.
use Rattle.std.specs.Prelude.{ℕ, ◌^◌, Bool, not, List, filter, nat_eq, bit_and}
use Rattle.std.specs.List.{range_with_len}

-- bit k stands for alarm k
abbrev pub is_in : ℕ → ℕ → Bool
is_in set alarm = not (nat_eq (bit_and set (2 ^ alarm)) 0)

-- the alarms of a set in their order
unfoldable pub lost_alarms : ℕ → List ℕ
lost_alarms set = filter (is_in set) (range_with_len 0 64)
