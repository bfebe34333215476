-- What a file system in memory holds.
use Rattle.std.specs.Prelude.{ℕ, List, map, refl, String, Vec, string_bytes}
use Rattle.std.specs.declared.alloc.Global.{Global}
use Rattle.std.specs.FinMap as finite
use Rattle.std.specs.Coded.{Coded, code_by, coded×, coded_list, coded_ℕ}
use Rattle.kes_outside.specs.Contents.{Contents}
use Rattle.kes_outside.specs.CallCounts.{CallCounts, call_counts_code}

pub record FilesInMemory : Type 0 where
  pub contents : Contents
  pub calls : CallCounts

-- Where a name stands in several pairs, the first of them is that file.
abbrev pub contents_of : List (String Global × Vec ℕ Global) → Contents
contents_of pairs = finite.from_entries (map (λ pair. (string_bytes pair.0, pair.1.items)) pairs)

abbrev pub files_in_memory_code : Coded FilesInMemory
files_in_memory_code = code_by (Contents × CallCounts) (coded× (finite.code (coded_list coded_ℕ) (coded_list coded_ℕ)) call_counts_code) (λ f. (f.contents, f.calls)) (λ t. record { contents = t.0; calls = t.1 }) (λ _. refl)
