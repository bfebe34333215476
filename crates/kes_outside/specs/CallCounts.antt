-- The calls of a file system or a sink in memory, which fails where it is told to.
use Rattle.std.specs.Prelude.{ℕ, ◌==◌, Bool, List, if◌then◌else◌, refl}
use Rattle.std.specs.List.{list_any}
use Rattle.std.specs.Coded.{Coded, code_by, coded×, coded_list, coded_ℕ}
use Rattle.kes_outside.specs.Count.{one_more}

pub record CallCounts : Type 0 where
  -- the numbers of the calls that fail, counted from 0
  pub failing : List ℕ
  -- the number of the next call
  pub next : ℕ
  -- how many calls have failed
  pub faults : ℕ

-- The next call fails exactly where its number is in the list.
abbrev pub fails : CallCounts → Bool
fails calls = list_any (λ number. number == calls.next) calls.failing

-- The counts after one call.
abbrev pub after_call : CallCounts → CallCounts
after_call calls = record calls {
  next = one_more calls.next;
  faults = if fails calls then one_more calls.faults else calls.faults;
}

-- Before any call.
abbrev pub no_calls : List ℕ → CallCounts
no_calls numbers = record { failing = numbers; next = 0; faults = 0 }

abbrev pub call_counts_code : Coded CallCounts
call_counts_code =
    code_by (List ℕ × (ℕ × ℕ)) (coded× (coded_list coded_ℕ) (coded× coded_ℕ coded_ℕ))
    (λ calls. (calls.failing, (calls.next, calls.faults)))
    (λ parts. record { failing = parts.0; next = parts.1.0; faults = parts.1.1 })
    (λ _. refl)
