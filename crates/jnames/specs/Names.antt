-- Names of classes (JVMS SE 8, 4.2.1 and 4.2.2).
use Rattle.std.specs.Prelude.{ℕ, List, length, Bool, not, ◌&&◌, ◌||◌, ◌==◌}
use Rattle.std.specs.List.{list_all, slice_split}

-- a byte that is none of . ; [ /
abbrev pub is_name_byte : ℕ → Bool
is_name_byte b = not ((b == 46) || (b == 59) || (b == 91) || (b == 47))

-- at least one byte, and only such bytes (4.2.2)
abbrev pub is_unqualified_name : List ℕ → Bool
is_unqualified_name bytes = not (length bytes == 0) && list_all is_name_byte bytes

-- unqualified names with a / between each and the next (4.2.1)
abbrev pub is_class_name : List ℕ → Bool
is_class_name bytes = list_all is_unqualified_name (slice_split (λ b. b == 47) bytes)
