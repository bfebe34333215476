-- Where a statement goes: to the labels that it names, or on to the one behind it (ISO C99, 6.8.6 and 6.8.4.2).
use Rattle.std.specs.Prelude.{ℕ, Bool, true, false, List, [], ◌∷◌, ◌++◌, map, Option, Some, None}
use Rattle.csubset.specs.declared.statement.Form.{Form}
use Rattle.csubset.specs.declared.statement.Form.TheVariants.{Assign, Load, Store, DeviceLoad, DeviceStore, Goto, If, Switch, Call, Return, Service, Fail, Suspend, Resume}
use Rattle.csubset.specs.declared.program.CFunction.{CFunction}
use Rattle.csubset.specs.Machine.Application.{form_in}

-- the labels that it may jump to
abbrev pub targets : Form → List ℕ
targets (Assign to value) = []
targets (Load to width region at) = []
targets (Store width region at value) = []
targets (DeviceLoad to width at) = []
targets (DeviceStore width at value) = []
targets (Goto label) = label ∷ []
targets (If test label) = label ∷ []
targets (Switch on cases other) = map (λ c. c.1) cases ++ other ∷ []
targets (Call to function arguments) = []
targets (Return value) = []
targets (Service to service) = []
targets (Fail number) = []
targets Suspend = []
targets Resume = []

-- it may go on to the statement behind it
abbrev pub falls_through : Form → Bool
falls_through (Assign to value) = true
falls_through (Load to width region at) = true
falls_through (Store width region at value) = true
falls_through (DeviceLoad to width at) = true
falls_through (DeviceStore width at value) = true
falls_through (Goto label) = false
falls_through (If test label) = true
falls_through (Switch on cases other) = false
falls_through (Call to function arguments) = true
falls_through (Return value) = false
falls_through (Service to service) = true
falls_through (Fail number) = false
falls_through Suspend = true
falls_through Resume = true

-- what is said of the statement at a place, where one stands there
abbrev pub at_form : {A : Type 0} → CFunction → ℕ → A → (Form → A) → A
at_form {A} function place without with_form = said (form_in function place)
  where
    said : Option Form → A
    said None = without
    said (Some form) = with_form form

abbrev pub targets_at : CFunction → ℕ → List ℕ
targets_at function place = at_form function place [] targets
