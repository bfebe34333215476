-- The text of a map. Each line ends with one line feed, its words are parted by one space, and all numbers are decimal.
-- The lines of each form are numbered from 0, those of failures from 1.
use Rattle.std.specs.Prelude.{ℕ, Bool, true, false, List, ◌++◌, codes, decimal, flat_map}
use Rattle.csubset.specs.declared.map.RegionRow.{RegionRow}
use Rattle.csubset.specs.declared.map.RegionRow.TheVariants as region
use Rattle.csubset.specs.declared.map.FunctionKind.{FunctionKind}
use Rattle.csubset.specs.declared.map.FunctionKind.TheVariants as function
use Rattle.csubset.specs.declared.map.FunctionRow.{FunctionRow}
use Rattle.csubset.specs.declared.map.FailRow.{FailRow}
use Rattle.csubset.specs.declared.map.Map.{Map}
use Rattle.osek_core.specs.Event.Text.{kind_text}
use Rattle.kes_text.specs.Numbered.{numbered}

-- a number behind a space
abbrev pub number_word : ℕ → List ℕ
number_word n = codes " " ++ decimal n

-- the order of a number's bytes, by the byte that comes first
abbrev pub order_text : Bool → List ℕ
order_text true = codes "big"
order_text false = codes "little"

unfoldable pub method_line : ℕ → List ℕ → List ℕ
method_line n name = codes "method" ++ number_word n ++ codes " " ++ name ++ codes "\n"

abbrev pub region_text : RegionRow → List ℕ
region_text (region.Heap domain) = codes "heap" ++ number_word domain
region_text (region.Statics domain) = codes "statics" ++ number_word domain
region_text region.Scratch = codes "scratch"

unfoldable pub region_line : ℕ → RegionRow → List ℕ
region_line n row = codes "region" ++ number_word n ++ codes " " ++ region_text row ++ codes "\n"

abbrev pub function_text : FunctionKind → List ℕ
function_text (function.Method method) = codes "method" ++ number_word method
function_text function.Alloc = codes "alloc"
function_text (function.Copy portal) = codes "copy" ++ number_word portal

-- a function's line, and the line of its statements' weights
unfoldable pub function_lines : ℕ → FunctionRow → List ℕ
function_lines n row =
    codes "function" ++ number_word n ++ number_word row.domain ++ codes " " ++ function_text row.kind ++ codes "\n"
    ++ codes "weights" ++ flat_map number_word row.weights ++ codes "\n"

unfoldable pub fail_line : ℕ → FailRow → List ℕ
fail_line n row =
    codes "fail" ++ number_word n ++ codes " " ++ kind_text row.kind
    ++ number_word row.place.method ++ number_word row.place.pc ++ codes "\n"

abbrev pub map_text : Map → List ℕ
map_text map =
    codes "keso map 1\n"
    ++ codes "order " ++ order_text map.big ++ codes "\n"
    ++ codes "devices" ++ number_word map.devices ++ codes "\n"
    ++ codes "domains" ++ number_word map.domains ++ codes "\n"
    ++ numbered method_line 0 map.methods
    ++ numbered region_line 0 map.regions
    ++ numbered function_lines 0 map.functions
    ++ numbered fail_line 1 map.fails
