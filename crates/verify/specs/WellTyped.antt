-- Well-typed code (JVMS SE 8, 4.10.1.6), as a relation between a method's code, its declared frames and the frame before each instruction.
use Rattle.std.specs.Prelude.{◌≡◌, ℕ, zero, suc, true, false, List, Contains, length, slice_get, Option, Some, None}
use Rattle.jcode.specs.declared.op.Ins.{Ins}
use Rattle.jcode.specs.Decoded.{targets}
use Rattle.stackmap.specs.declared.frame.Declared.{Declared}
use Rattle.type_states.specs.declared.state.TypeState.{TypeState}
use Rattle.type_states.specs.Assignable.{is_state_assignable}
use Rattle.typing_rules.specs.Environment.{Environment}
use Rattle.typing_rules.specs.Outcome.{falls_through}
use Rattle.verify.specs.Placing.{first_unplaced, declared_at}
use Rattle.verify.specs.Steps.{left}
use Rattle.verify.specs.Typing.{start_state}

-- a state is what the instruction of this number leaves, which falls through
pub record IsLeftBy (e : Environment) (states : List TypeState) (j : ℕ) (state : TypeState) : Type 0 where
  pub ins : Ins
  pub before : TypeState
  pub ins_is : slice_get e.instructions j ≡ Some ins
  pub before_is : slice_get states j ≡ Some before
  pub falls : falls_through ins.op ≡ true
  pub leaves : left e before ins ≡ Some state

-- the state at an instruction is the declared one where one stands, else the start's at the first, and elsewhere what the one before leaves
abbrev pub StandsAt : Environment → List TypeState → ℕ → TypeState → Option TypeState → Type 0
StandsAt e states k state (Some declared) = state ≡ declared
StandsAt e states zero state None = state ≡ start_state e
StandsAt e states (suc j) state None = IsLeftBy e states j state

-- a state flows to a place: a frame is declared there, to which it is assignable
pub record FlowsTo (e : Environment) (maps : List Declared) (state : TypeState) (pc : ℕ) : Type 0 where
  pub declared : TypeState
  pub declared_is : declared_at maps pc ≡ Some declared
  pub assignable : is_state_assignable e.files state declared ≡ true

-- the rule of an instruction holds on a state
pub record RuleHolds (e : Environment) (maps : List Declared) (k : ℕ) (ins : Ins) (state : TypeState) : Type 0 where
  pub after : TypeState
  pub leaves : left e state ins ≡ Some after
  -- to each branch target
  pub jumps : (pc : ℕ) → Contains (targets ins.op) pc → FlowsTo e maps after pc
  -- where it falls through an instruction follows
  pub next_is_there : falls_through ins.op ≡ true → (next : Ins) × (slice_get e.instructions (suc k) ≡ Some next)
  -- and what it leaves is assignable to a frame that is declared there
  pub next_flows : falls_through ins.op ≡ true → (next : Ins) (declared : TypeState) → slice_get e.instructions (suc k) ≡ Some next → declared_at maps next.pc ≡ Some declared → is_state_assignable e.files after declared ≡ true
  -- where it doesn't, a frame is declared at the one that follows, if one does
  pub next_declared : falls_through ins.op ≡ false → (next : Ins) → slice_get e.instructions (suc k) ≡ Some next → (declared : TypeState) × (declared_at maps next.pc ≡ Some declared)

pub record IsWellTyped (e : Environment) (maps : List Declared) (states : List TypeState) : Type 0 where
  -- each declared frame stands at an instruction, behind the one before, and names a new with each Uninit
  pub placed : first_unplaced e.instructions 0 maps ≡ None
  -- each instruction has one state
  pub one_each : length states ≡ length e.instructions
  pub stands : (k : ℕ) (ins : Ins) (state : TypeState) → slice_get e.instructions k ≡ Some ins → slice_get states k ≡ Some state → StandsAt e states k state (declared_at maps ins.pc)
  -- the start's is assignable to the one that is declared at the first
  pub starts : (ins : Ins) (declared : TypeState) → slice_get e.instructions 0 ≡ Some ins → declared_at maps ins.pc ≡ Some declared → is_state_assignable e.files (start_state e) declared ≡ true
  pub holds : (k : ℕ) (ins : Ins) (state : TypeState) → slice_get e.instructions k ≡ Some ins → slice_get states k ≡ Some state → RuleHolds e maps k ins state
