-- What a contract sees of a sink at one moment.
use Rattle.std.specs.Prelude.{◌≡◌, ℕ, ◌++◌, List, take, Option, Some, IfSome}

pub record SinkSeen : Type 0 where
  pub taken : Option (List ℕ)
  pub faults : ℕ

abbrev pub sink_seen : {S : Type 0} → (S → Option (List ℕ)) → (S → ℕ) → S → SinkSeen
sink_seen taken faults sink = record { taken = taken sink; faults = faults sink }

-- The sink has taken these bytes more, all of them.
abbrev pub Takes : List ℕ → SinkSeen → SinkSeen → Type 0
Takes bytes before after = IfSome before.taken (λ taken. after.taken ≡ Some (taken ++ bytes))

-- It has taken some first bytes of these, and no more.
abbrev pub TakesPrefix : List ℕ → SinkSeen → SinkSeen → Type 0
TakesPrefix bytes before after = IfSome before.taken (λ taken. (n : ℕ) × (after.taken ≡ Some (taken ++ take n bytes)))
