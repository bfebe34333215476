-- Words with one blank between them: the first, and each other behind a blank.
use Rattle.std.specs.Prelude.{ℕ, ◌^◌, not, Bool, List, [], ◌∷◌, ◌++◌, nat_eq, bit_and, codes, decimal}
use Rattle.osek_core.specs.declared.event.Event.{Event}
use Rattle.osek_core.specs.declared.event.Event.TheVariants.{Service, DevRead, DevWrite, Fail, Lost, Stuck}
use Rattle.osek_core.specs.Event.Text.{Names, name_at, signed, who_text, call_words, kind_text, place_words}

abbrev pub spaced : List ℕ → List ℕ
spaced word = 32 ∷ word

-- an event is in a mask
abbrev pub is_in : ℕ → ℕ → Bool
is_in mask event = not (nat_eq (bit_and mask (2 ^ event)) 0)

abbrev pub first_word : Names → Event → List ℕ
first_word names (Service who call answer) = who_text names who
first_word names (DevRead who at width value) = who_text names who
first_word names (DevWrite who at width value) = who_text names who
first_word names (Fail who kind place) = who_text names who
first_word names (Lost alarm) = codes "lost"
first_word names (Stuck who) = who_text names who

abbrev pub other_words : Names → Event → List (List ℕ)
other_words names (Service who call answer) = call_words names call ++ signed answer ∷ []
other_words names (DevRead who at width value) = codes "read" ∷ decimal at ∷ decimal width ∷ decimal value ∷ []
other_words names (DevWrite who at width value) = codes "write" ∷ decimal at ∷ decimal width ∷ decimal value ∷ []
other_words names (Fail who kind place) = (codes "fail" ∷ kind_text kind ∷ []) ++ place_words names place
other_words names (Lost alarm) = name_at names.alarms alarm ∷ []
other_words names (Stuck who) = codes "stuck" ∷ []
