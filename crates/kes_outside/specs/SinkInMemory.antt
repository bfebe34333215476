-- What a sink in memory has taken.
use Rattle.std.specs.Prelude.{ℕ, List, refl}
use Rattle.std.specs.Coded.{Coded, code_by, coded×, coded_list, coded_ℕ}
use Rattle.kes_outside.specs.CallCounts.{CallCounts, call_counts_code}

pub record SinkInMemory : Type 0 where
  pub taken : List ℕ
  pub calls : CallCounts

abbrev pub sink_in_memory_code : Coded SinkInMemory
sink_in_memory_code = code_by (List ℕ × CallCounts) (coded× (coded_list coded_ℕ) call_counts_code) (λ s. (s.taken, s.calls)) (λ t. record { taken = t.0; calls = t.1 }) (λ _. refl)
