-- The frame before each instruction, one after the other, and the first instruction whose rule fails (JVMS SE 8, 4.10.1.6).
use Rattle.std.specs.Prelude.{ℕ, ◌+◌, ◌-◌, ◌^◌, min, List, [], ◌∷◌, map, Option, Some, None, Result, Ok, Err}
use Rattle.kes_text.specs.declared.refusal.Kind.{Kind}
use Rattle.kes_text.specs.declared.refusal.Kind.TheVariants as kind
use Rattle.kes_text.specs.declared.refusal.Stop.{Stop}
use Rattle.kes_text.specs.declared.refusal.Stop.TheVariants.{Refused}
use Rattle.kes_text.specs.Answers.{◌>>=◌}
use Rattle.jcode.specs.declared.op.Ins.{Ins}
use Rattle.jworld.specs.declared.ids.MethodId.{MethodId}
use Rattle.jworld.specs.Classes.{World}
use Rattle.stackmap.specs.declared.frame.Declared.{Declared}
use Rattle.stackmap.specs.declared.frame.Frame.{Frame}
use Rattle.stackmap.specs.Start.{start_of}
use Rattle.type_states.specs.declared.state.TypeState.{TypeState}
use Rattle.typing_rules.specs.Environment.{Environment, environment_of}
use Rattle.verify.specs.Placing.{first_unplaced, declared_at}
use Rattle.verify.specs.Steps.{passed, coming, entered}
use Rattle.type_states.specs.TypeStates.{state_of, frame_of}

-- the file is refused at a place; a number of 64 bits stands still at its end
abbrev pub refused : {A : Type 0} → Kind → ℕ → Result A Stop
refused kind place = Err (Refused (record { file = 0; kind = kind; at = min place (2 ^ 64 - 1) }))

-- what is there, or else the method is refused at an instruction
abbrev pub or_untyped : {A : Type 0} → Environment → ℕ → Option A → Result A Stop
or_untyped e pc (Some x) = Ok x
or_untyped e pc None = refused kind.Typing (e.code.at + pc)

-- what was found, at the end of a code behind an instruction at this place: nothing may come to the end
abbrev pub ended : {A : Type 0} → Environment → ℕ → Option TypeState → A → Result A Stop
ended e before None found = Ok found
ended e before (Some state) found = refused kind.Typing (e.code.at + before)

-- the states from an instruction on, behind one at this place, where a state comes to the first or none does
abbrev pub states_from : Environment → List Declared → ℕ → Option TypeState → List Ins → Result (List TypeState) Stop
states_from e maps before comes [] = ended e before comes []
states_from e maps before comes (ins ∷ code) = do
  state ← or_untyped e before (entered e comes (declared_at maps ins.pc))
  after ← or_untyped e ins.pc (passed e maps state ins)
  behind ← states_from e maps ins.pc (coming ins after) code
  Ok (state ∷ behind)

abbrev pub start_state : Environment → TypeState
start_state e = state_of (start_of e.class e.method)

-- the states of a code: the start's comes to the first
abbrev pub states : Environment → List Declared → List Ins → Result (List TypeState) Stop
states e maps [] = Ok []
states e maps (ins ∷ code) = states_from e maps ins.pc (Some (start_state e)) (ins ∷ code)

abbrev pub framed : Result (List TypeState) Stop → Result (List Frame) Stop
framed found = found >>= λ states. Ok (map frame_of states)

-- a method that isn't there, or has no code, is refused at 0
abbrev pub typed_in : List Declared → Option Environment → Result (List Frame) Stop
typed_in maps None = refused kind.Typing 0
typed_in maps (Some e) = framed (states e maps e.instructions)

abbrev pub typed_where : List Declared → Option Environment → Option ℕ → Result (List Frame) Stop
typed_where maps e (Some at) = refused kind.FramePlace at
typed_where maps e None = typed_in maps e

-- the frame before each instruction, or the first fault: a frame that isn't placed comes before each rule
unfoldable pub typed : World → MethodId → List Ins → List Declared → Result (List Frame) Stop
typed files method code maps = typed_where maps (environment_of files method code) (first_unplaced code 0 maps)
