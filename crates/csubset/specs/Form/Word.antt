-- Word: a word that the function doesn't declare, neither as a parameter nor as a further word.
use Rattle.std.specs.Prelude.{ℕ, ◌+◌, Bool, List, [], ◌∷◌, ◌++◌, flat_map, nat_le}
use Rattle.std.specs.List.{list_any}
use Rattle.csubset.specs.declared.expression.Atom.{Atom}
use Rattle.csubset.specs.declared.expression.Atom.TheVariants.{Word, Number}
use Rattle.csubset.specs.declared.expression.Expr.{Expr, fold-Expr}
use Rattle.csubset.specs.declared.expression.Expr.TheOpen.{Expr-F}
use Rattle.csubset.specs.declared.statement.CService.{CService}
use Rattle.csubset.specs.declared.statement.CService.TheVariants.{ActivateTask, TerminateTask, ChainTask, Schedule, GetResource, ReleaseResource, SetEvent, ClearEvent, GetEvent, WaitEvent, SetRelAlarm, SetAbsAlarm, CancelAlarm, GetAlarm}
use Rattle.csubset.specs.declared.statement.Form.{Form}
use Rattle.csubset.specs.declared.statement.Form.TheVariants.{Assign, Load, Store, DeviceLoad, DeviceStore, Goto, If, Switch, Call, Return, Service, Fail, Suspend, Resume}
use Rattle.csubset.specs.declared.program.CFunction.{CFunction}
use Rattle.csubset.specs.Form.Jump.{at_form}

abbrev pub atom_words : Atom → List ℕ
atom_words (Word n) = n ∷ []
atom_words (Number n) = []

abbrev pub operator_words : Expr-F (List ℕ) → List ℕ
operator_words (Expr-F.Atom atom) = atom_words atom
operator_words (Expr-F.One op a) = a
operator_words (Expr-F.Two op a b) = a ++ b

abbrev pub expression_words : Expr → List ℕ
expression_words = fold-Expr (List ℕ) operator_words

abbrev pub service_words : CService → List ℕ
service_words (ActivateTask task) = []
service_words TerminateTask = []
service_words (ChainTask task) = []
service_words Schedule = []
service_words (GetResource resource) = []
service_words (ReleaseResource resource) = []
service_words (SetEvent task events) = []
service_words (ClearEvent events) = []
service_words (GetEvent task) = []
service_words (WaitEvent events) = []
service_words (SetRelAlarm alarm first cycle) = atom_words first ++ atom_words cycle
service_words (SetAbsAlarm alarm first cycle) = atom_words first ++ atom_words cycle
service_words (CancelAlarm alarm) = []
service_words (GetAlarm alarm) = []

-- the words that a statement reads or sets
abbrev pub words_of : Form → List ℕ
words_of (Assign to value) = to ∷ expression_words value
words_of (Load to width region at) = to ∷ atom_words at
words_of (Store width region at value) = atom_words at ++ atom_words value
words_of (DeviceLoad to width at) = to ∷ atom_words at
words_of (DeviceStore width at value) = atom_words at ++ atom_words value
words_of (Goto label) = []
words_of (If test label) = expression_words test
words_of (Switch on cases other) = atom_words on
words_of (Call to function arguments) = to ∷ flat_map atom_words arguments
words_of (Return value) = atom_words value
words_of (Service to service) = to ∷ service_words service
words_of (Fail number) = []
words_of Suspend = []
words_of Resume = []

abbrev pub word_fault : CFunction → ℕ → Bool
word_fault function place =
    list_any (nat_le (function.parameters + function.further)) (at_form function place [] words_of)
