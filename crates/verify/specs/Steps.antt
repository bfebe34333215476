-- From one instruction to the next (JVMS SE 8, 4.10.1.6).
use Rattle.std.specs.Prelude.{ℕ, Bool, false, List, Option, Some, None, ◌&&◌, if◌then◌else◌}
use Rattle.std.specs.List.{list_all}
use Rattle.classfile.specs.Pool.{◌>>=◌}
use Rattle.jcode.specs.declared.op.Ins.{Ins}
use Rattle.jcode.specs.Decoded.{targets}
use Rattle.stackmap.specs.declared.frame.Declared.{Declared}
use Rattle.type_states.specs.declared.state.TypeState.{TypeState}
use Rattle.type_states.specs.Assignable.{is_state_assignable}
use Rattle.typing_rules.specs.Environment.{Environment}
use Rattle.typing_rules.specs.Outcome.{outcome, falls_through}
use Rattle.verify.specs.Placing.{declared_at}
use Rattle.type_states.specs.TypeStates.{is_within}

-- a state keeps max_stack and max_locals
abbrev pub is_bounded : Environment → TypeState → Bool
is_bounded e state = is_within e.code.max_stack e.code.max_locals state

abbrev pub if_bounded : Environment → TypeState → TypeState → Option TypeState
if_bounded e state after = if is_bounded e state && is_bounded e after then Some after else None

-- what an instruction leaves, where its rule holds on a state and both keep the bounds
abbrev pub left : Environment → TypeState → Ins → Option TypeState
left e state ins = do
  after ← outcome e ins.pc ins.op state
  if_bounded e state after

-- whether a state may come to where this one is declared, or none is
abbrev pub may_enter : Environment → TypeState → Option TypeState → Bool
may_enter e state None = false
may_enter e state (Some declared) = is_state_assignable e.files state declared

-- whether a state may come to a place by a jump: a frame is declared there, to which it is assignable
abbrev pub may_come : Environment → List Declared → TypeState → ℕ → Bool
may_come e maps state pc = may_enter e state (declared_at maps pc)

-- what an instruction leaves, where that may come to each target of its jumps
abbrev pub passed : Environment → List Declared → TypeState → Ins → Option TypeState
passed e maps state ins = do
  after ← left e state ins
  if list_all (may_come e maps after) (targets ins.op) then Some after else None

-- what comes to the next instruction
abbrev pub coming : Ins → TypeState → Option TypeState
coming ins state = if falls_through ins.op then Some state else None

-- the state at an instruction, to which another one comes or none does: the declared one where one stands
abbrev pub entered : Environment → Option TypeState → Option TypeState → Option TypeState
entered e coming None = coming
entered e None (Some declared) = Some declared
entered e (Some state) (Some declared) = if is_state_assignable e.files state declared then Some declared else None
