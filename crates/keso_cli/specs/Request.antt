-- The words of the program's commands.
use Rattle.std.specs.Prelude.{ℕ, ◌-◌, Bool, false, not, nat_eq, nat_le, ◌&&◌, List, [], ◌∷◌, length, take, drop, codes, Option, Some, None, if◌then◌else◌}
use Rattle.std.specs.List.{list_all}
use Rattle.std.specs.Option.{option_or}
use Rattle.std.specs.Str.{bytes_eq}

-- what the words of a command ask for
pub data Request : Type 0 where
  Build : (config : List ℕ) → (classes : List (List ℕ)) → (base : List ℕ) → Request
  Trace : (config : List ℕ) → (script : List ℕ) → (classes : List (List ℕ)) → Request

-- A name has at least one byte, and its first byte isn't a hyphen.
abbrev pub is_name : List ℕ → Bool
is_name [] = false
is_name (first ∷ _) = not (nat_eq first 45)

-- the most class files that a command takes
abbrev pub most_classes : ℕ
most_classes = 2048

abbrev pub are_classes : List (List ℕ) → Bool
are_classes classes = nat_le 1 (length classes) && nat_le (length classes) most_classes && list_all is_name classes

-- build CONFIG CLASS.. -o BASE
abbrev pub is_build : List ℕ → List ℕ → List (List ℕ) → List ℕ → List ℕ → Bool
is_build build config classes option base =
    bytes_eq build (codes "build") && is_name config && are_classes classes && bytes_eq option (codes "-o") && is_name base

-- what stands behind the classes has to be -o BASE
abbrev pub request_ending : List ℕ → List ℕ → List (List ℕ) → List (List ℕ) → Option Request
request_ending build config classes (option ∷ base ∷ []) = if is_build build config classes option base then Some (Build config classes base) else None
request_ending build config classes _ = None

-- all words between CONFIG and the last two are classes
abbrev pub build_of : List (List ℕ) → Option Request
build_of (build ∷ config ∷ rest) = request_ending build config (take (length rest - 2) rest) (drop (length rest - 2) rest)
build_of _ = None

-- trace CONFIG SCRIPT CLASS..
abbrev pub is_trace : List ℕ → List ℕ → List ℕ → List (List ℕ) → Bool
is_trace trace config script classes = bytes_eq trace (codes "trace") && is_name config && is_name script && are_classes classes

abbrev pub trace_of : List (List ℕ) → Option Request
trace_of (trace ∷ config ∷ script ∷ classes) = if is_trace trace config script classes then Some (Trace config script classes) else None
trace_of _ = None

-- what the words ask for, or None where they are no command
abbrev pub request_of : List (List ℕ) → Option Request
request_of words = option_or (build_of words) (trace_of words)
