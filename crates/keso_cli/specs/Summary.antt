-- The four lines that a build puts on the output.
use Rattle.std.specs.Prelude.{ℕ, List, ◌++◌, codes, decimal}
use Rattle.first_form.specs.declared.counts.Summary.{Summary}

abbrev pub count_line : List ℕ → ℕ → List ℕ
count_line what number = what ++ decimal number ++ codes "\n"

abbrev pub summary_text : Summary → List ℕ
summary_text s =
    count_line (codes "methods ") s.methods
    ++ count_line (codes "checks kept ") s.checks_kept
    ++ count_line (codes "checks removed ") s.checks_removed
    ++ count_line (codes "direct calls ") s.direct_calls
