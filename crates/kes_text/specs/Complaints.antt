-- The lines that the program puts on standard error.
use Rattle.std.specs.Prelude.{ℕ, List, ◌++◌, codes, decimal}
use Rattle.kes_text.specs.declared.refusal.Refusal.{Refusal}
use Rattle.kes_text.specs.declared.complaint.Complaint.{Complaint}
use Rattle.kes_text.specs.declared.complaint.Complaint.TheVariants as complaint
use Rattle.kes_text.specs.KindName.{kind_name}

abbrev pub refusal_text : Refusal → List ℕ → List ℕ
refusal_text r name =
    codes "keso: " ++ name ++ codes ": " ++ kind_name r.kind ++ codes " at " ++ decimal r.at ++ codes "\n"

abbrev pub usage_text : List ℕ
usage_text = codes "keso: the words are not a command\n"

abbrev pub cannot_read_text : List ℕ → List ℕ
cannot_read_text name = codes "keso: cannot read " ++ name ++ codes "\n"

abbrev pub cannot_write_text : List ℕ → List ℕ
cannot_write_text name = codes "keso: cannot write " ++ name ++ codes "\n"

abbrev pub no_output_text : List ℕ
no_output_text = codes "keso: cannot write the output\n"

abbrev pub no_memory_text : List ℕ
no_memory_text = codes "keso: out of memory\n"

-- the line of each complaint
abbrev pub complaint_text : Complaint → List ℕ
complaint_text (complaint.Refused r name) = refusal_text r name.now
complaint_text complaint.Usage = usage_text
complaint_text (complaint.CannotRead name) = cannot_read_text name.now
complaint_text (complaint.CannotWrite name) = cannot_write_text name.now
complaint_text complaint.CannotWriteOutput = no_output_text
complaint_text complaint.NoMemory = no_memory_text
