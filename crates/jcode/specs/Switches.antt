-- tableswitch and lookupswitch (JVMS 6.5): their tables begin at a place that is a multiple of 4, and what is before
-- isn't looked at.
use Rattle.std.specs.Prelude.{ℕ, zero, suc, ◌+◌, ◌-◌, ◌%◌, ℤ, pos, ◌+ℤ◌, ◌-ℤ◌, unsigned_abs, int_lt, Bool, List, [], ◌∷◌, drop, Result, Ok, Err, if◌then◌else◌}
use Rattle.std.specs.Int.{w32}
use Rattle.std.specs.List.{list_all, zip}
use Rattle.jcode.specs.declared.op.Op.{Op}
use Rattle.jcode.specs.declared.op.Op.TheVariants.{Switch}
use Rattle.jcode.specs.declared.fault.Fault.{Fault}
use Rattle.jcode.specs.declared.fault.Fault.TheVariants as faults
use Rattle.jcode.specs.Reading.{◌>>=◌, signed_at, behind}
use Rattle.jcode.specs.Targets.{target}

-- how many bytes stand between the opcode at a place and the next multiple of 4
abbrev pub padding : ℕ → ℕ
padding pc = 3 - pc % 4

-- a key's target
unfoldable pub case_at : ℕ → ℤ → List ℕ → Result ((ℤ × ℕ) × List ℕ) Fault
case_at pc key bytes = do
  far ← signed_at w32 bytes
  Ok ((key, target pc far.0), far.1)

-- the targets of so many keys that follow one another, from a key on
unfoldable pub table_at : ℕ → ℕ → ℤ → List ℕ → Result (List (ℤ × ℕ) × List ℕ) Fault
table_at pc zero key bytes = Ok ([], bytes)
table_at pc (suc count) key bytes = do
  one ← case_at pc key bytes
  more ← table_at pc count (key +ℤ pos 1) one.1
  Ok (one.0 ∷ more.0, more.1)

-- how many keys there are from low to high
abbrev pub key_count : ℤ → ℤ → ℕ
key_count low high = unsigned_abs (high -ℤ low) + 1

-- the targets of the keys from low to high
unfoldable pub bounded_table_at : ℕ → ℤ → ℤ → List ℕ → Result (List (ℤ × ℕ) × List ℕ) Fault
bounded_table_at pc low high bytes =
    if int_lt high low then Err faults.SwitchTable else table_at pc (key_count low high) low bytes

-- low, high and the targets
unfoldable pub keys_at : ℕ → List ℕ → Result (List (ℤ × ℕ) × List ℕ) Fault
keys_at pc bytes = do
  low ← signed_at w32 bytes
  high ← signed_at w32 low.1
  bounded_table_at pc low.0 high.0 high.1

unfoldable pub table_switch_at : ℕ → List ℕ → Result (Op × List ℕ) Fault
table_switch_at pc bytes = do
  table ← behind (padding pc) bytes
  other ← signed_at w32 table
  cases ← keys_at pc other.1
  Ok (Switch cases.0 (target pc other.0), cases.1)

-- a key and its target
unfoldable pub pair_at : ℕ → List ℕ → Result ((ℤ × ℕ) × List ℕ) Fault
pair_at pc bytes = do
  key ← signed_at w32 bytes
  case_at pc key.0 key.1

unfoldable pub pairs_at : ℕ → ℕ → List ℕ → Result (List (ℤ × ℕ) × List ℕ) Fault
pairs_at pc zero bytes = Ok ([], bytes)
pairs_at pc (suc count) bytes = do
  one ← pair_at pc bytes
  more ← pairs_at pc count one.1
  Ok (one.0 ∷ more.0, more.1)

-- each key is below the next
abbrev pub keys_rise : List (ℤ × ℕ) → Bool
keys_rise cases = list_all (λ pair. int_lt pair.0.0 pair.1.0) (zip cases (drop 1 cases))

-- so many pairs, whose keys rise
unfoldable pub rising_pairs_at : ℕ → ℤ → List ℕ → Result (List (ℤ × ℕ) × List ℕ) Fault
rising_pairs_at pc count bytes = do
  cases ← if int_lt count (pos 0) then Err faults.SwitchTable else pairs_at pc (unsigned_abs count) bytes
  if keys_rise cases.0 then Ok cases else Err faults.SwitchTable

unfoldable pub lookup_switch_at : ℕ → List ℕ → Result (Op × List ℕ) Fault
lookup_switch_at pc bytes = do
  table ← behind (padding pc) bytes
  other ← signed_at w32 table
  count ← signed_at w32 other.1
  cases ← rising_pairs_at pc count.0 count.1
  Ok (Switch cases.0 (target pc other.0), cases.1)
