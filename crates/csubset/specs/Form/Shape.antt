-- The shape of a program as its text can have it: the bounds of numbers, and what the types say of their fields.
use Rattle.std.specs.Prelude.{◌≡◌, ◌≢◌, ◌≤◌, ◌<◌, ◌^◌, ◌%◌, ◌-◌, ℕ, ◌+◌, max, Bool, true, ◌&&◌, List, [], map, length, All, nat_le, bytes_eq, slice_index, ⊤}
use Rattle.std.specs.List.{list_any, list_all}
use Rattle.std.specs.List.Sorted.{IsStrictlyIncreasing}
use Rattle.csubset.specs.declared.expression.Expr.{Expr, fold-Expr}
use Rattle.csubset.specs.declared.expression.Expr.TheOpen.{Expr-F}
use Rattle.csubset.specs.declared.statement.CService.{CService}
use Rattle.csubset.specs.declared.statement.CService.TheVariants.{ActivateTask, TerminateTask, ChainTask, Schedule, GetResource, ReleaseResource, SetEvent, ClearEvent, GetEvent, WaitEvent, SetRelAlarm, SetAbsAlarm, CancelAlarm, GetAlarm}
use Rattle.csubset.specs.declared.statement.Form.{Form}
use Rattle.csubset.specs.declared.statement.Form.TheVariants.{Assign, Load, Store, DeviceLoad, DeviceStore, Goto, If, Switch, Call, Return, Service, Fail, Suspend, Resume}
use Rattle.csubset.specs.declared.program.CRegion.{CRegion}
use Rattle.csubset.specs.declared.program.CFunction.{CFunction}
use Rattle.csubset.specs.declared.program.CProgram.{CProgram}
use Rattle.csubset.specs.Machine.Memory.{is_width}
use Rattle.csubset.specs.Form.Callee.{last_calls}

-- how deep operators stand in one another: an atom has depth 0
abbrev pub operator_depth : Expr-F ℕ → ℕ
operator_depth (Expr-F.Atom atom) = 0
operator_depth (Expr-F.One op a) = a + 1
operator_depth (Expr-F.Two op a b) = max a b + 1

abbrev pub depth : Expr → ℕ
depth = fold-Expr ℕ operator_depth

abbrev pub among : List (List ℕ) → List ℕ → Bool
among names name = list_any (bytes_eq name) names

-- at least one event, each declared
abbrev pub are_events : CProgram → List (List ℕ) → Bool
are_events program events = nat_le 1 (length events) && list_all (among program.events) events

-- a service names declared objects
abbrev pub is_declared : CProgram → CService → Bool
is_declared program (ActivateTask task) = among program.tasks task
is_declared program TerminateTask = true
is_declared program (ChainTask task) = among program.tasks task
is_declared program Schedule = true
is_declared program (GetResource resource) = among program.resources resource
is_declared program (ReleaseResource resource) = among program.resources resource
is_declared program (SetEvent task events) = among program.tasks task && are_events program events
is_declared program (ClearEvent events) = are_events program events
is_declared program (GetEvent task) = among program.tasks task
is_declared program (WaitEvent events) = are_events program events
is_declared program (SetRelAlarm alarm first cycle) = among program.alarms alarm
is_declared program (SetAbsAlarm alarm first cycle) = among program.alarms alarm
is_declared program (CancelAlarm alarm) = among program.alarms alarm
is_declared program (GetAlarm alarm) = among program.alarms alarm

-- the largest depth of an expression
abbrev pub most_depth : ℕ
most_depth = 32

abbrev pub IsShapedForm : CProgram → Form → Type 0
IsShapedForm program (Assign to value) = depth value ≤ most_depth
IsShapedForm program (Load to width region at) = is_width width ≡ true
IsShapedForm program (Store width region at value) = is_width width ≡ true
IsShapedForm program (DeviceLoad to width at) = is_width width ≡ true
IsShapedForm program (DeviceStore width at value) = is_width width ≡ true
IsShapedForm program (Goto label) = ⊤
IsShapedForm program (If test label) = depth test ≤ most_depth
IsShapedForm program (Switch on cases other) = IsStrictlyIncreasing (map (λ c. c.0) cases)
IsShapedForm program (Call to function arguments) = ⊤
IsShapedForm program (Return value) = ⊤
IsShapedForm program (Service to service) = is_declared program service ≡ true
IsShapedForm program (Fail number) = ⊤
IsShapedForm program Suspend = ⊤
IsShapedForm program Resume = ⊤

-- a region's line has its words up to the last that isn't 0
pub record IsShapedRegion (region : CRegion) : Type 0 where
  pub words_at_least : 1 ≤ region.words
  pub words_at_most : region.words ≤ 268435456
  pub first_at_most : length region.first ≤ region.words
  pub last : region.first ≢ [] → 1 ≤ slice_index region.first (length region.first - 1)

pub record IsShapedFunction (program : CProgram) (function : CFunction) : Type 0 where
  pub words : function.parameters + function.further ≤ 2 ^ 32
  pub statements : length function.statements < 2 ^ 32
  pub forms : All (λ statement. IsShapedForm program statement.form) function.statements

-- a region's number is below 2 ^ 32, and a function's below 2 ^ 32 - 1
pub record IsShaped (program : CProgram) : Type 0 where
  pub base : program.device_base % 8 ≡ 0
  pub regions_at_most : length program.regions ≤ 2 ^ 32
  pub functions_at_most : length program.functions ≤ 2 ^ 32 - 1
  pub last_calls_at_most : length (last_calls program) < 2 ^ 32
  pub regions : All IsShapedRegion program.regions
  pub functions : All (IsShapedFunction program) program.functions
