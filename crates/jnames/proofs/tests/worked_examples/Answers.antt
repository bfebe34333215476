use Rattle.std.proofs.Common.{◌≡◌, List, ℕ, Some, None, refl, sym, ◌∙◌}
use Rattle.jnames.specs.Descriptors.{parameters_at, method_slots, Signature, signature_of}
use Rattle.jnames.specs.Spelled.{Spells}
use Rattle.jnames.proofs.DescriptorSpellings.{reads}
use Rattle.jnames.proofs.tests.worked_examples.Goals as goal

pub returns-clause-method : goal.returns-clause-method
unfolding parameters_at method_slots signature_of
returns-clause-method c = (refl, refl)

pub returns-clause-field : goal.returns-clause-field
unfolding parameters_at method_slots signature_of
returns-clause-field c = refl

pub returns-clause-faults : goal.returns-clause-faults
unfolding parameters_at method_slots signature_of
returns-clause-faults c = (refl, refl, refl, refl, refl)

pub returns-clause-spelled_method : goal.returns-clause-spelled_method
unfolding parameters_at method_slots signature_of
returns-clause-spelled_method c = (reads _ _).0 refl

pub returns-clause-spelled_field : goal.returns-clause-spelled_field
unfolding parameters_at method_slots signature_of
returns-clause-spelled_field c = (reads _ _).0 refl

unread : (text : List ℕ) (descriptor : Signature) → signature_of text ≡ None → ¬ Spells text descriptor
unread text descriptor none h = let both : None ≡ Some descriptor = sym none ∙ (reads text descriptor).1 h in absurd cc

pub returns-clause-spelled_nothing : goal.returns-clause-spelled_nothing
unfolding parameters_at method_slots signature_of
returns-clause-spelled_nothing c = λ descriptor. (unread _ descriptor refl, unread _ descriptor refl, unread _ descriptor refl)
