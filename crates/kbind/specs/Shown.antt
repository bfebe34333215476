-- Members as a configuration writes them: names in shown form.
use Rattle.std.specs.Prelude.{ℕ, Bool, List, ◌∷◌, ◌++◌, Option, position, bytes_eq}
use Rattle.kes_text.specs.Shown.{shown}
use Rattle.classfile.specs.ClassFile.{ClassInfo, MethodInfo}
use Rattle.jworld.specs.Classes.{World, names}

-- whether a name is shown by this word
abbrev pub is_shown_by : List ℕ → List ℕ → Bool
is_shown_by word name = bytes_eq word (shown name)

-- METHOD: the name of the class, a `.`, the name of the method and its descriptor
abbrev pub method_word : ClassInfo → MethodInfo → List ℕ
method_word file method = (shown file.name ++ 46 ∷ shown method.name) ++ shown method.descriptor

-- the class that a CLASS names
abbrev pub class_shown : World → List ℕ → Option ℕ
class_shown files word = position (is_shown_by word) (names files)
