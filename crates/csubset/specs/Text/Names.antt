-- How the C text names things. Words, labels, regions and functions go by their numbers in decimal;
-- the objects of the kernel have their name of the configuration behind a prefix for their kind.
use Rattle.std.specs.Prelude.{ℕ, List, ◌++◌, codes, decimal}

-- a word of a function: wN
abbrev pub word_name : ℕ → List ℕ
word_name n = codes "w" ++ decimal n

-- a label: LN
abbrev pub label_name : ℕ → List ℕ
label_name n = codes "L" ++ decimal n

-- a region: rN
abbrev pub region_name : ℕ → List ℕ
region_name n = codes "r" ++ decimal n

-- a function: fN
abbrev pub function_name : ℕ → List ℕ
function_name n = codes "f" ++ decimal n

-- a number of 64 bits: Null
abbrev pub number_text : ℕ → List ℕ
number_text n = decimal n ++ codes "ull"

abbrev pub task_name : List ℕ → List ℕ
task_name name = codes "t_" ++ name

abbrev pub resource_name : List ℕ → List ℕ
resource_name name = codes "r_" ++ name

abbrev pub event_name : List ℕ → List ℕ
event_name name = codes "e_" ++ name

abbrev pub alarm_name : List ℕ → List ℕ
alarm_name name = codes "a_" ++ name
