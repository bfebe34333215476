-- Where a jump goes: so far behind the place of its opcode (JVMS 6.5).
use Rattle.std.specs.Prelude.{ℕ, ℤ, pos, negsuc, ◌+ℤ◌, min}

-- A place of the code. No instruction begins at 65535, since a code has at most 65535 bytes (JVMS 4.7.3): it stands for
-- each place that no code has.
abbrev pub place : ℤ → ℕ
place (pos n) = min n 65535
place (negsuc n) = 65535

abbrev pub target : ℕ → ℤ → ℕ
target pc far = place (pos pc +ℤ far)
