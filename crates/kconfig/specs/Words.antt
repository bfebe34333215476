-- The forms of the words of a configuration.
use Rattle.std.specs.Prelude.{ℕ, ◌-◌, ◌==◌, nat_le, Bool, false, ◌&&◌, ◌||◌, List, [], ◌∷◌, reverse, take, drop, length, Option, Some, None}
use Rattle.std.specs.List.{list_all, list_any, position}

abbrev pub is_letter : ℕ → Bool
is_letter c = (nat_le 65 c && nat_le c 90) || (nat_le 97 c && nat_le c 122)

abbrev pub is_digit : ℕ → Bool
is_digit c = nat_le 48 c && nat_le c 57

abbrev pub is_name_byte : ℕ → Bool
is_name_byte c = (is_letter c || is_digit c) || c == 95

-- a name that a line declares: a letter and then letters, digits or `_`, at most 32 bytes in all
abbrev pub is_name : List ℕ → Bool
is_name [] = false
is_name (first ∷ others) = (is_letter first && list_all is_name_byte others) && nat_le (length others) 31

-- a byte that shows itself: 0x21 to 0x7E
abbrev pub is_shown : ℕ → Bool
is_shown c = nat_le 0x21 c && nat_le c 0x7E

-- the shown name of a class or of a field
abbrev pub is_shown_name : List ℕ → Bool
is_shown_name [] = false
is_shown_name (first ∷ others) = list_all is_shown (first ∷ others)

abbrev pub is_dot : ℕ → Bool
is_dot c = c == 46

-- what stands before the last `.`, of which so many bytes stand behind, and those
abbrev pub parted_at : List ℕ → Option ℕ → Option (List ℕ × List ℕ)
parted_at word None = None
parted_at word (Some behind) = Some (take (length word - behind - 1) word, drop (length word - behind) word)

-- the two parts of CLASS.NAME or CLASS.FIELD: the last `.`, the first from the end, parts them
abbrev pub parts : List ℕ → Option (List ℕ × List ℕ)
parts word = parted_at word (position is_dot (reverse word))

abbrev pub is_class_and : (List ℕ → Bool) → Option (List ℕ × List ℕ) → Bool
is_class_and is_member None = false
is_class_and is_member (Some both) = is_shown_name both.0 && is_member both.1

-- CLASS.NAME
abbrev pub is_entry : List ℕ → Bool
is_entry word = is_class_and is_name (parts word)

-- CLASS.FIELD
abbrev pub is_field : List ℕ → Bool
is_field word = is_class_and is_shown_name (parts word)

-- somewhere behind a `.` there is a `(`
abbrev pub has_call : List ℕ → Bool
has_call [] = false
has_call (c ∷ cs) = (is_dot c && list_any (λ d. d == 40) cs) || has_call cs

-- METHOD, in the way of `Class/Name.method(desc)ret`
abbrev pub is_method : List ℕ → Bool
is_method word = list_all is_shown word && has_call word
