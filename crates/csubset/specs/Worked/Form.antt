-- The faults of a form, each in a small function with one word, beside two regions and two functions.
use Rattle.std.specs.Prelude.{◌≡◌, ℕ, Bool, true, false, List, [], ◌∷◌, map}
use Rattle.std.specs.List.{range_with_len}
use Rattle.csubset.specs.declared.expression.Atom.TheVariants.{Word, Number}
use Rattle.csubset.specs.declared.statement.Form.{Form}
use Rattle.csubset.specs.declared.statement.Form.TheVariants.{Load, DeviceLoad, Goto, Switch, Call, Return, Fail, Suspend, Resume}
use Rattle.csubset.specs.declared.statement.Stmt.{Stmt}
use Rattle.csubset.specs.declared.program.CFunction.{CFunction}
use Rattle.csubset.specs.declared.program.CProgram.{CProgram}
use Rattle.csubset.specs.Form.Label.{label_fault}
use Rattle.csubset.specs.Form.Word.{word_fault}
use Rattle.csubset.specs.Form.Callee.{callee_fault, last_callee_fault}
use Rattle.csubset.specs.Form.Region.{region_fault}
use Rattle.csubset.specs.Form.Section.{section_fault}
use Rattle.csubset.specs.Form.Falls.{falls_fault}
use Rattle.csubset.specs.Form.Cycle.{CycleFault}

-- a statement behind these labels
abbrev pub at : List ℕ → Form → Stmt
at labels form = record { labels = labels; form = form }

abbrev pub function_of : List Stmt → List ℕ → CFunction
function_of statements end_labels = record { parameters = 0; further = 1; statements = statements; end_labels = end_labels }

abbrev pub plain : List Form → CFunction
plain forms = function_of (map (at []) forms) []

-- the first function calls the second, which calls the first
abbrev pub circle : CProgram
circle = record {
  device_base = 0;
  tasks = [];
  resources = [];
  events = [];
  alarms = [];
  regions = record { words = 1; first = [] } ∷ record { words = 1; first = [] } ∷ [];
  functions = plain (Call 0 1 [] ∷ Return (Word 0) ∷ []) ∷ plain (Call 0 0 [] ∷ Return (Word 0) ∷ []) ∷ [];
  starts = 1 ∷ 2 ∷ [];
  task_lines = [];
}

-- the places at which a function with this many statements shows a fault
abbrev pub shown_at : (ℕ → Bool) → ℕ → List Bool
shown_at fault statements = map fault (range_with_len 0 statements)

pub record FormFaults : Type 0 where
  pub no_label : label_fault (plain (Goto 3 ∷ Return (Number 0) ∷ [])) 0 ≡ true
  pub label_twice : shown_at (label_fault (function_of (at (1 ∷ []) Suspend ∷ at [] Resume ∷ at (1 ∷ []) (Goto 1) ∷ []) [])) 3
      ≡ false ∷ false ∷ true ∷ []
  pub label_twice_at_the_end : shown_at (label_fault (function_of (at (1 ∷ []) (Goto 1) ∷ []) (1 ∷ []))) 2 ≡ false ∷ true ∷ []
  pub no_word : shown_at (word_fault (plain (Return (Word 0) ∷ Return (Word 1) ∷ []))) 2 ≡ false ∷ true ∷ []
  pub no_callee : callee_fault circle (plain (Call 0 2 [] ∷ [])) 0 ≡ true
  pub other_arguments : callee_fault circle (plain (Call 0 1 (Word 0 ∷ []) ∷ [])) 0 ≡ true
  pub callee : callee_fault circle (plain (Call 0 1 [] ∷ [])) 0 ≡ false
  pub no_initialiser : shown_at (last_callee_fault circle) 2 ≡ false ∷ true ∷ []
  pub no_region : shown_at (region_fault circle (plain (Load 0 1 1 (Number 0) ∷ Load 0 1 2 (Number 0) ∷ []))) 2 ≡ false ∷ true ∷ []
  pub cycle : CycleFault circle 0 0

-- a section from its SUSPEND to its RESUME, which jump 2 within it leads to
abbrev pub section : CFunction
section = function_of (at (1 ∷ []) Suspend ∷ at [] (Switch (Word 0) [] 2) ∷ at [] (Fail 1) ∷ at (2 ∷ []) Resume ∷ at [] (Goto 1) ∷ []) []

-- a section that jumps enter and leave
abbrev pub broken : CFunction
broken = function_of (at (1 ∷ []) Suspend ∷ at [] (Goto 1) ∷ at [] (DeviceLoad 0 1 (Number 0)) ∷ at [] (Call 0 1 []) ∷ at [] (Return (Number 0))
    ∷ at [] Suspend ∷ at (2 ∷ []) Resume ∷ at [] (Goto 2) ∷ at [] Suspend ∷ []) []

pub record SectionFaults : Type 0 where
  pub lawful : shown_at (section_fault section) 5 ≡ false ∷ false ∷ false ∷ false ∷ false ∷ []
  pub unlawful : shown_at (section_fault broken) 9 ≡ false ∷ true ∷ true ∷ true ∷ true ∷ true ∷ false ∷ true ∷ true ∷ []

pub record FallsFaults : Type 0 where
  pub empty : falls_fault (plain []) 0 ≡ true
  pub last : shown_at (falls_fault (plain (Suspend ∷ Resume ∷ []))) 2 ≡ false ∷ true ∷ []
  pub jump_behind : shown_at (falls_fault (function_of (at [] (Goto 1) ∷ at [] (Return (Number 0)) ∷ []) (1 ∷ []))) 2 ≡ true ∷ false ∷ []
  pub none : shown_at (falls_fault section) 5 ≡ false ∷ false ∷ false ∷ false ∷ false ∷ []
