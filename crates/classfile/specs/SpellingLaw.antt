-- The law that reading keeps: what is accepted is spelled so, what is spelled so is accepted, and bytes spell one class
-- file at most.
use Rattle.std.specs.Prelude.{◌≡◌, ℕ, List, Ok}
use Rattle.classfile.specs.ClassFile.{ClassInfo}
use Rattle.classfile.specs.Reading.{class_file}
use Rattle.classfile.specs.Spelled.{IsSpelled}

abbrev pub AcceptedIsSpelled : Type 0
AcceptedIsSpelled = (bytes : List ℕ) (class : ClassInfo) → class_file bytes ≡ Ok class → IsSpelled class bytes

abbrev pub SpelledIsAccepted : Type 0
SpelledIsAccepted = (bytes : List ℕ) (class : ClassInfo) → IsSpelled class bytes → class_file bytes ≡ Ok class

abbrev pub SpelledOnce : Type 0
SpelledOnce = (bytes : List ℕ) (one other : ClassInfo) → IsSpelled one bytes → IsSpelled other bytes → one ≡ other
