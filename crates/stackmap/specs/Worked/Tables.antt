-- A class, a start frame and tables for worked examples.
use Rattle.std.specs.Prelude.{◌≡◌, ℕ, List, [], ◌∷◌, codes, Ok, Err}
use Rattle.kes_text.specs.declared.refusal.Kind.{Kind}
use Rattle.kes_text.specs.declared.refusal.Stop.TheVariants as stop
use Rattle.classfile.specs.declared.pool.Entry.TheVariants as entry
use Rattle.classfile.specs.ClassFile.{ClassInfo}
use Rattle.stackmap.specs.declared.frame.Declared.{Declared}
use Rattle.stackmap.specs.declared.frame.Frame.{Frame}
use Rattle.stackmap.specs.declared.vtype.VType.{VType}
use Rattle.stackmap.specs.declared.vtype.VType.TheVariants.{Integer, Long}
use Rattle.stackmap.specs.Frames.{frames_of}

-- entry 1 of its constant pool is a text, and entry 2 the class C
abbrev pub class : ClassInfo
class = record { version = 52; flags = 0x0021; name = codes "C"; super_name = codes "java/lang/Object"; super_at = 20; interfaces = []; fields = []; methods = []; pool = entry.Utf8 (codes "C") ∷ entry.Class 1 ∷ [] }

-- an int and a long
abbrev pub start : Frame
start = record { locals = Integer ∷ Long ∷ []; stack = [] }

abbrev pub declared : ℕ → ℕ → List VType → List VType → Declared
declared at pc locals stack = record { at = at; pc = pc; frame = record { locals = locals; stack = stack } }

-- a table of this start frame, whose first byte stands at 100 and its first tag at 102, says these frames
abbrev pub Says : List ℕ → List Declared → Type 0
Says bytes frames = frames_of class 100 start bytes ≡ Ok frames

abbrev pub HasFault : List ℕ → Kind → ℕ → Type 0
HasFault bytes kind at = frames_of class 100 start bytes ≡ Err (stop.Refused (record { file = 0; kind = kind; at = at }))
