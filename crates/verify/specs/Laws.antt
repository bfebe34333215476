-- What is found is what is well-typed (JVMS SE 8, 4.10.1.6), and what follows of it.
use Rattle.std.specs.Prelude.{◌≡◌, ℕ, ◌≤◌, List, length, map, Some, Ok, IsTrue}
use Rattle.std.specs.List.{All}
use Rattle.jcode.specs.declared.op.Ins.{Ins}
use Rattle.jcode.specs.Decoded.{targets, begins_at}
use Rattle.jworld.specs.declared.ids.MethodId.{MethodId}
use Rattle.jworld.specs.Classes.{World}
use Rattle.stackmap.specs.declared.frame.Declared.{Declared}
use Rattle.stackmap.specs.declared.frame.Frame.{Frame}
use Rattle.type_states.specs.declared.state.TypeState.{TypeState}
use Rattle.typing_rules.specs.Environment.{Environment, environment_of}
use Rattle.type_states.specs.TypeStates.{frame_of, places}
use Rattle.verify.specs.Typing.{typed}
use Rattle.verify.specs.WellTyped.{IsWellTyped}

-- the frames of states with which a method is well-typed
pub record AreFrames (files : World) (method : MethodId) (code : List Ins) (maps : List Declared) (frames : List Frame) : Type 0 where
  pub checked : Environment
  pub states : List TypeState
  pub checked_is : environment_of files method code ≡ Some checked
  pub well_typed : IsWellTyped checked maps states
  pub frames_are : frames ≡ map frame_of states

abbrev pub FoundIsWellTyped : Type 0
FoundIsWellTyped = (files : World) (method : MethodId) (code : List Ins) (maps : List Declared) (frames : List Frame) → typed files method code maps ≡ Ok frames → AreFrames files method code maps frames

abbrev pub WellTypedIsFound : Type 0
WellTypedIsFound = (files : World) (method : MethodId) (code : List Ins) (maps : List Declared) (frames : List Frame) → AreFrames files method code maps frames → typed files method code maps ≡ Ok frames

-- a method is well-typed with one list of states at most
abbrev pub StatesAreUnique : Type 0
StatesAreUnique = (e : Environment) (maps : List Declared) (one other : List TypeState) → IsWellTyped e maps one → IsWellTyped e maps other → one ≡ other

-- a frame keeps max_stack and max_locals (4.7.3)
pub record IsWithin (max_stack max_locals : ℕ) (frame : Frame) : Type 0 where
  pub stack : places frame.stack ≤ max_stack
  pub locals : length frame.locals ≤ max_locals

abbrev pub FramesAreWithin : Type 0
FramesAreWithin = (files : World) (method : MethodId) (code : List Ins) (maps : List Declared) (frames : List Frame) (e : Environment) → typed files method code maps ≡ Ok frames → environment_of files method code ≡ Some e → All (IsWithin e.code.max_stack e.code.max_locals) frames

-- each branch target is the start of an instruction
abbrev pub JumpsLand : Type 0
JumpsLand = (files : World) (method : MethodId) (code : List Ins) (maps : List Declared) (frames : List Frame) → typed files method code maps ≡ Ok frames → All (λ ins. All (λ pc. IsTrue (begins_at code pc)) (targets ins.op)) code
