-- Which calls a written function has. A call of the bytecode, and an instruction that allocates, is a site: the functions
-- of the C that its call statements name. With two or more it is a switch on the receiver's class.
use Rattle.std.specs.Prelude.{◌≡◌, ℕ, ◌+◌, Bool, true, false, List, [], ◌∷◌, map, flat_map, filter, count_by, length, take, drop, nat_le, Some, All, Any, Contains}
use Rattle.std.specs.List.{enumerate_from}
use Rattle.csubset.specs.declared.expression.Atom.{Atom}
use Rattle.csubset.specs.declared.statement.Form.{Form}
use Rattle.csubset.specs.declared.statement.Form.TheVariants.{Switch, Call}
use Rattle.csubset.specs.declared.program.CFunction.{CFunction}
use Rattle.csubset.specs.Machine.Application.{form_in, label_place}
use Rattle.csubset.specs.Form.Jump.{targets, falls_through}

abbrev pub callee : Form → List ℕ
callee (Call to function arguments) = function ∷ []
callee form = []

abbrev pub is_switch : Form → Bool
is_switch (Switch on cases other) = true
is_switch form = false

-- the functions that its call statements name, in the order of the text
abbrev pub callees : CFunction → List ℕ
callees function = flat_map (λ statement. callee statement.form) function.statements

-- the places of its call statements
abbrev pub call_places : CFunction → List ℕ
call_places function =
    flat_map (λ numbered. map (λ n. numbered.0) (callee numbered.1.form)) (enumerate_from 0 function.statements)

-- the places of each site's call statements
abbrev pub parted : List ℕ → List (List ℕ) → List (List ℕ)
parted places [] = []
parted places (site ∷ more) = take (length site) places ∷ parted (drop (length site) places) more

abbrev pub has_several : List ℕ → Bool
has_several site = nat_le 2 (length site)

-- a run may come from one place of the function to another
pub data Flows (function : CFunction) : ℕ → ℕ → Type 0 where
  Stays : (place : ℕ) → Flows function place place
  Falls : (place end : ℕ) (form : Form) → form_in function place ≡ Some form → falls_through form ≡ true → Flows function (place + 1) end → Flows function place end
  Jumps : (place label target end : ℕ) (form : Form) → form_in function place ≡ Some form → Contains (targets form) label
      → label_place function label ≡ Some target → Flows function target end → Flows function place end

-- a case of the switch leads to this place
pub record CaseLeads (function : CFunction) (case : ℕ × ℕ) (place : ℕ) : Type 0 where
  pub first : ℕ
  pub label : label_place function case.1 ≡ Some first
  pub flows : Flows function first place

-- one switch, from whose cases these places are reached
pub record IsSwitched (function : CFunction) (places : List ℕ) : Type 0 where
  pub at : ℕ
  pub on : Atom
  pub cases : List (ℕ × ℕ)
  pub other : ℕ
  pub stands : form_in function at ≡ Some (Switch on cases other)
  pub reached : All (λ place. Any (λ case. CaseLeads function case place) cases) places

-- The sites in the order of the instructions. Beside the switches of the method's own instructions there is one for each
-- site with several functions, and none for another one.
pub record HasCalls (function : CFunction) (sites : List (List ℕ)) (own_switches : ℕ) : Type 0 where
  pub in_order : callees function ≡ flat_map (λ site. site) sites
  pub switches : count_by (λ statement. is_switch statement.form) function.statements ≡ own_switches + count_by has_several sites
  pub switched : All (IsSwitched function) (filter has_several (parted (call_places function) sites))

-- a copier has one call statement, of its server's function
abbrev pub CallsServer : CFunction → ℕ → Type 0
CallsServer function server = callees function ≡ server ∷ []
