-- Faults of three forms of lines, one behind the other.
use Rattle.std.proofs.Common.{◌≡◌, List, ◌++◌, ap, ◌∙◌, append_assoc}

pub three : {A : Type 0} (f0 f1 f2 f3 a b d : List A) → f1 ≡ f0 ++ a → f2 ≡ f1 ++ b → f3 ≡ f2 ++ d → f3 ≡ f0 ++ ((a ++ b) ++ d)
three {A} f0 f1 f2 f3 a b d e1 e2 e3 =
    e3 ∙ ap (λ (f : List A). f ++ d) (e2 ∙ ap (λ (f : List A). f ++ b) e1 ∙ append_assoc f0 a b) ∙ append_assoc f0 (a ++ b) d
