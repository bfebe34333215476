-- Reading a StackMapTable from the front (JVMS SE 8, 4.7.4): a piece answers its value and the bytes behind it, or the
-- first fault.
use Rattle.std.specs.Prelude.{ℕ, ◌+◌, ◌-◌, ◌^◌, min, List, [], length, take, drop, Result, Ok, Err, nat_lt, if◌then◌else◌}
use Rattle.std.specs.Int.{Width, byte_len, from_be_bytes}
use Rattle.kes_text.specs.declared.refusal.Kind.{Kind}
use Rattle.kes_text.specs.declared.refusal.Kind.TheVariants as kind
use Rattle.kes_text.specs.declared.refusal.Stop.{Stop}
use Rattle.kes_text.specs.declared.refusal.Stop.TheVariants.{Refused}
use Rattle.classfile.specs.ClassFile.{ClassInfo}

-- a table: where its first byte stands in the class file, how many bytes it has, and the class
pub record Table : Type 0 where
  pub base : ℕ
  pub size : ℕ
  pub class : ClassInfo

-- where in the class file the bytes begin that are left; a number of 64 bits stands still at its end
abbrev pub place : Table → List ℕ → ℕ
place t rest = min (t.base + (t.size - length rest)) (2 ^ 64 - 1)

-- the table is refused where these bytes begin
abbrev pub refused : {A : Type 0} → Table → Kind → List ℕ → Result A Stop
refused t kind rest = Err (Refused (record { file = 0; kind = kind; at = place t rest }))

-- the table doesn't end where its frames do
abbrev pub unended : {A : Type 0} → Table → Result A Stop
unended t = refused t kind.FrameEnd []

-- a number of this width, the highest byte first (4)
abbrev pub number_at : Table → Width → List ℕ → Result (ℕ × List ℕ) Stop
number_at t w bytes =
    if nat_lt (length bytes) (byte_len w) then unended t else Ok (from_be_bytes w (take (byte_len w) bytes), drop (byte_len w) bytes)
