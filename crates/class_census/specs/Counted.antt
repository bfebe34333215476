-- What is counted of a class file (JVMS SE 8, 4.1): its fields, its methods, and the instructions of their codes.
use Rattle.std.specs.Prelude.{◌≡◌, ◌⊎◌, ℕ, ◌+◌, ◌-◌, ◌^◌, min, List, [], ◌∷◌, ◌++◌, length, Option, Some, None, Result, Ok, Err, codes, decimal}
use Rattle.classfile.specs.ClassFile.{ClassInfo, CodeInfo, MethodInfo}
use Rattle.classfile.specs.Reading.{class_file}
use Rattle.classfile.specs.Scan.{◌>>=◌}
use Rattle.jcode.specs.Decoded.{decoded}
use Rattle.jcode.specs.PoolOf.{pool_of}
use Rattle.kes_text.specs.Complaints.{refusal_text, cannot_read_text}
use Rattle.kes_text.specs.declared.refusal.Stop.{Stop}
use Rattle.kes_text.specs.declared.refusal.Stop.TheVariants.{Refused, NoMemory}
use Rattle.class_census.specs.declared.census.Census.{Census}

-- how many instructions a code has; a method without a code has none
abbrev pub instructions_of : ClassInfo → Option CodeInfo → Result ℕ Stop
instructions_of class None = Ok 0
instructions_of class (Some code) = do
  found ← decoded (pool_of class) code.at code.bytes
  Ok (length found)

-- how many they have in all, or the first refusal
abbrev pub all_instructions : ClassInfo → List MethodInfo → Result ℕ Stop
all_instructions class [] = Ok 0
all_instructions class (method ∷ methods) = do
  here ← instructions_of class method.code
  others ← all_instructions class methods
  Ok (here + others)

-- a count that passes the last number of 64 bits stands still there
abbrev pub standing_still : Result ℕ Stop → Result ℕ Stop
standing_still count = do
  n ← count
  Ok (min n (2 ^ 64 - 1))

abbrev pub counted : List ℕ → Result Census Stop
counted bytes = do
  class ← class_file bytes
  instructions ← standing_still (all_instructions class class.methods)
  Ok (record { fields = length class.fields; methods = length class.methods; instructions = instructions })

-- the line of a file of this name: its counts, or why it is refused
abbrev pub line_text : List ℕ → Result Census Stop → List ℕ
line_text name (Ok census) =
    name ++ codes ": " ++ decimal census.fields ++ codes " fields, " ++ decimal census.methods ++ codes " methods, " ++ decimal census.instructions ++ codes " instructions\n"
line_text name (Err (Refused refusal)) = refusal_text refusal name
line_text name (Err NoMemory) = []

-- what is told of a file of this name that holds these bytes: its line, or that it can't be read
abbrev pub IsTold : List ℕ → List ℕ → List ℕ → Type 0
IsTold name bytes line = (line ≡ line_text name (counted bytes)) ⊎ (line ≡ cannot_read_text name)
