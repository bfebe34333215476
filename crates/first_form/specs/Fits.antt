-- A configuration and a class of the first form that belong together.
use Rattle.std.specs.Prelude.{ℕ, Bool, not, ◌&&◌, List, [], ◌∷◌, ◌++◌, codes, Option, Some, None, ◌==◌, if◌then◌else◌}
use Rattle.std.specs.List.{list_any}
use Rattle.std.specs.Result.{result_ok}
use Rattle.std.specs.Str.{bytes_eq}
use Rattle.classfile.specs.ClassFile.{ClassInfo}
use Rattle.classfile.specs.Pool.{◌>>=◌}
use Rattle.classfile.specs.Reading.{class_file}
use Rattle.first_form.specs.Configuration.{configuration}
use Rattle.kes_text.specs.Shown.{shown}
use Rattle.first_form.specs.declared.config.FirstConfig.{FirstConfig}
use Rattle.first_form.specs.declared.first_class.FirstClass.{FirstClass}
use Rattle.first_form.specs.Config.{config_of}
use Rattle.first_form.specs.Class.{is_empty, class_of}

-- a method as it is shown: Class/Name.method(desc)ret
abbrev pub method_text : List ℕ → List ℕ → List ℕ → List ℕ
method_text class method descriptor = shown class ++ codes "." ++ shown method ++ descriptor

-- in CLASS.NAME the last dot parts the two
abbrev pub has_dot : List ℕ → Bool
has_dot name = list_any (λ byte. byte == 46) name

-- The class has a name, the task's entry is its method with code, and the native line names its native method.
abbrev pub fits : FirstConfig → FirstClass → Bool
fits config class =
    not (is_empty class.name) && not (has_dot class.entry)
    && bytes_eq config.entry (method_text class.name class.entry [])
    && bytes_eq config.method (method_text class.name class.native (codes "()I"))

abbrev pub if_they_fit : Option FirstConfig → Option FirstClass → Option (FirstConfig × FirstClass)
if_they_fit (Some config) (Some class) = if fits config class then Some (config, class) else None
if_they_fit _ _ = None

-- the configuration of the first form that a text is
abbrev pub config_in : List ℕ → Option FirstConfig
config_in text = do
  config ← result_ok (configuration text)
  config_of config

-- the class of the first form that the bytes of a class file are
abbrev pub class_in : List ℕ → Option FirstClass
class_in bytes = do
  class ← result_ok (class_file bytes)
  class_of class

-- the class of the first form that class files are: there is one
abbrev pub only_class : List ClassInfo → Option FirstClass
only_class (class ∷ []) = class_of class
only_class _ = None

-- what a configuration and one class of the first form say
abbrev pub first_form : List ℕ → List (List ℕ) → Option (FirstConfig × FirstClass)
first_form text (class ∷ []) = if_they_fit (config_in text) (class_in class)
first_form _ _ = None
