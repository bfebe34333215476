-- The text of a statement: the label lines before it, at the start of their lines, and its own
-- line, two blanks further in.
use Rattle.std.specs.Prelude.{ℕ, List, ◌++◌, codes, decimal, flat_map}
use Rattle.std.specs.List.{join_by}
use Rattle.csubset.specs.declared.statement.Form.{Form}
use Rattle.csubset.specs.declared.statement.Form.TheVariants.{Assign, Load, Store, DeviceLoad, DeviceStore, Goto, If, Switch, Call, Return, Service, Fail, Suspend, Resume}
use Rattle.csubset.specs.declared.statement.Stmt.{Stmt}
use Rattle.csubset.specs.Text.Line.{line}
use Rattle.csubset.specs.Text.Names.{word_name, label_name, region_name, function_name, number_text}
use Rattle.csubset.specs.Text.Expressions.{atom_text, expression_text}
use Rattle.csubset.specs.Text.Services.{service_text}

-- what a switch does at one number
abbrev pub case_text : ℕ × ℕ → List ℕ
case_text c = codes "case " ++ number_text c.0 ++ codes ": goto " ++ label_name c.1 ++ codes "; "

-- where the answer of a statement goes
abbrev pub target_text : ℕ → List ℕ
target_text to = word_name to ++ codes " = "

abbrev pub form_text : Form → List ℕ
form_text (Assign to value) = target_text to ++ expression_text value ++ codes ";"
form_text (Load to bytes region at) =
    target_text to ++ codes "LD" ++ decimal bytes
    ++ codes "(" ++ region_name region ++ codes ", " ++ atom_text at ++ codes ");"
form_text (Store bytes region at value) =
    codes "ST" ++ decimal bytes
    ++ codes "(" ++ region_name region ++ codes ", " ++ atom_text at ++ codes ", " ++ atom_text value ++ codes ");"
form_text (DeviceLoad to bytes at) =
    target_text to ++ codes "DLD" ++ decimal bytes ++ codes "(" ++ atom_text at ++ codes ");"
form_text (DeviceStore bytes at value) =
    codes "DST" ++ decimal bytes ++ codes "(" ++ atom_text at ++ codes ", " ++ atom_text value ++ codes ");"
form_text (Goto label) = codes "goto " ++ label_name label ++ codes ";"
form_text (If test label) =
    codes "if (" ++ expression_text test ++ codes ") goto " ++ label_name label ++ codes ";"
form_text (Switch on cases other) =
    codes "switch (" ++ atom_text on ++ codes ") { "
    ++ flat_map case_text cases ++ codes "default: goto " ++ label_name other ++ codes "; }"
form_text (Call to function arguments) =
    target_text to ++ function_name function
    ++ codes "(" ++ join_by atom_text (codes ", ") arguments ++ codes ");"
form_text (Return value) = codes "return " ++ atom_text value ++ codes ";"
form_text (Service to service) = target_text to ++ service_text service ++ codes ";"
form_text (Fail number) = codes "FAIL(" ++ decimal number ++ codes ");"
form_text Suspend = codes "SUSPEND;"
form_text Resume = codes "RESUME;"

abbrev pub label_line : ℕ → List ℕ
label_line label = line (label_name label ++ codes ":")

abbrev pub statement_text : Stmt → List ℕ
statement_text statement =
    flat_map label_line statement.labels
    ++ line (codes "  " ++ form_text statement.form)
