-- The typing of a method of a world (JVMS SE 8, 4.10.1.6): its code is decoded, the frames of its StackMapTable are read, and
-- both are checked.
use Rattle.std.specs.Prelude.{ℕ, List, [], Option, Some, None, Result, Ok, Err, slice_get}
use Rattle.kes_text.specs.declared.refusal.Kind.TheVariants.{Typing}
use Rattle.kes_text.specs.declared.refusal.Stop.{Stop}
use Rattle.kes_text.specs.declared.refusal.Stop.TheVariants.{Refused}
use Rattle.kes_text.specs.Answers.{◌>>=◌}
use Rattle.classfile.specs.ClassFile.{ClassInfo, MethodInfo, CodeInfo}
use Rattle.jcode.specs.declared.op.Ins.{Ins}
use Rattle.jcode.specs.Decoded.{decoded}
use Rattle.jcode.specs.PoolOf.{pool_of}
use Rattle.jworld.specs.declared.ids.MethodId.{MethodId}
use Rattle.jworld.specs.Classes.{World, file_of}
use Rattle.stackmap.specs.declared.frame.Declared.{Declared}
use Rattle.stackmap.specs.Frames.{frames_of}
use Rattle.stackmap.specs.Start.{start_of}
use Rattle.verify.specs.Typing.{typed}
use Rattle.method_typing.specs.declared.method.Typed.{Typed}

-- the frames that a code declares: none without a StackMapTable (4.7.4)
abbrev pub frames_by : ClassInfo → MethodInfo → Option (ℕ × List ℕ) → Result (List Declared) Stop
frames_by class method None = Ok []
frames_by class method (Some (base, table)) = frames_of class base (start_of class method) table

abbrev pub declared_frames : ClassInfo → MethodInfo → CodeInfo → Result (List Declared) Stop
declared_frames class method code = frames_by class method code.maps

abbrev pub instructions_in : ClassInfo → CodeInfo → Result (List Ins) Stop
instructions_in class code = decoded (pool_of class) code.at code.bytes

unfoldable pub code_typed : World → MethodId → ClassInfo → MethodInfo → CodeInfo → Result Typed Stop
code_typed files id class method code = do
  instructions ← instructions_in class code
  declared ← declared_frames class method code
  frames ← typed files id instructions declared
  Ok (record { method = id; code = instructions; frames = frames })

-- a method that isn't there, or has no code, is refused at 0
abbrev pub untyped : {A : Type 0} → Result A Stop
untyped = Err (Refused (record { file = 0; kind = Typing; at = 0 }))

abbrev pub typed_by : World → MethodId → ClassInfo → MethodInfo → Option CodeInfo → Result Typed Stop
typed_by files id class method None = untyped
typed_by files id class method (Some code) = code_typed files id class method code

abbrev pub typed_of : World → MethodId → ClassInfo → Option MethodInfo → Result Typed Stop
typed_of files id class None = untyped
typed_of files id class (Some method) = typed_by files id class method method.code

abbrev pub typed_in : World → MethodId → Option ClassInfo → Result Typed Stop
typed_in files id None = untyped
typed_in files id (Some class) = typed_of files id class (slice_get class.methods id.n)

-- a method with its instructions and the frame before each of them, or its first fault
unfoldable pub method_typed : World → MethodId → Result Typed Stop
method_typed files id = typed_in files id (file_of files id.class.n)
