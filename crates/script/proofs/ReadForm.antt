-- The lines that a text says are in form.
use Rattle.std.proofs.Common.{◌≡◌, nat_le, ℕ, ◌+◌, ◌*◌, ◌/◌, ◌%◌, ◌<◌, ◌≤◌, ◌^◌, true, true≢false, List, [], ◌∷◌, length, drop, map, get_or, All, Option, Some, None, Ok, codes, refl, sym, subst, ◌∙◌, arith, leb-true, lit<, lit≤}
use Rattle.std.specs.Prelude.{◌&&◌, ◌==◌}
use Rattle.std.specs.List.{position, range_with_len, slice_get, list_all}
use Rattle.std.specs.Str.{bytes_eq}
use Rattle.std.proofs.lemmas.Bool.{eqb-true}
use Rattle.std.proofs.lemmas.Bool.Decides.{nat_tests}
use Rattle.std.proofs.lemmas.List.{length-drop, get_or-drop}
use Rattle.std.proofs.lemmas.List.Elements.{All-nil, All-push, All-map, All-from_get_or}
use Rattle.std.proofs.lemmas.List.FromFn.{get_or-map-range_with_len}
use Rattle.std.proofs.lemmas.List.Quantifiers.{position-Some}
use Rattle.std.proofs.lemmas.Option.{slice_get_past}
use Rattle.kes_text.specs.declared.refusal.Kind.TheVariants as kind
use Rattle.text_words.specs.declared.number.Number.{Number}
use Rattle.text_words.specs.declared.number.Number.TheVariants.{Malformed, Large, Value}
use Rattle.text_words.specs.Numbers.{digit, is_number, within, value, number_of}
use Rattle.text_words.specs.Said.{check, known}
use Rattle.text_words.specs.TextLines.{words, spoken_lines}
use Rattle.script.specs.declared.line.Line.{Line}
use Rattle.script.specs.declared.names.Names.{Names}
use Rattle.script.specs.Hex.{is_digit, is_hex, or_zero, digit_of, digit_at, byte_at, poke_bytes}
use Rattle.script.specs.InTurn.{in_turn}
use Rattle.script.specs.Reading.{counted, times_of, run_line, tick_line, ends_within, poked, poke_line, line_of, Said, next_said}
use Rattle.script.specs.InForm.{IsPoked, IsLine}
use Rattle.script.specs.ReadsInForm.{ReadsInForm}
use Rattle.script.proofs.Inversion.{err-ok, same_Ok, bind_ok, check_ok, known_ok, both_true, by_if}

-- so many moves as a line may have
abbrev IsCount : ℕ → Type 0
IsCount times = (1 ≤ times) × (times ≤ 10 ^ 18)

value_within : (number : Number) → within 1 (10 ^ 18) number ≡ true → IsCount (value number)
value_within Malformed h = absurd (true≢false (sym h))
value_within Large h = absurd (true≢false (sym h))
value_within (Value n) h =
    let both = both_true (nat_le 1 n) (nat_le n (10 ^ 18)) h in
    (leb-true 1 n both.0, leb-true n (10 ^ 18) both.1)

counted_ok : (n : ℕ) (number : Number) (times : ℕ) → counted n number ≡ Ok times → IsCount times
counted_ok n number times h =
    let form = bind_ok (check (is_number number) kind.Syntax n) _ times h in
    let range = bind_ok (check (within 1 (10 ^ 18) number) kind.Range n) _ times form.2 in
    subst IsCount (same_Ok (value number) times range.2) (value_within number (check_ok (within 1 (10 ^ 18) number) kind.Range n range.0 range.1))

times_ok : (n : ℕ) (others : List (List ℕ)) (times : ℕ) → times_of n others ≡ Ok times → IsCount times
times_ok n [] times h = subst IsCount (same_Ok 1 times h) (omega arith, omega arith)
times_ok n (word ∷ []) times h = counted_ok n (number_of word) times h
times_ok n (word ∷ more ∷ others) times h = absurd (err-ok _ times h)

run_ok : (names : Names) (n : ℕ) (others : List (List ℕ)) (line : Line) → run_line n others ≡ Ok line → IsLine names line
run_ok names n others line h =
    let times = bind_ok (times_of n others) _ line h in
    let count = times_ok n others times.0 times.1 in
    subst (IsLine names) (same_Ok _ line times.2) (record { at_least = count.0; at_most = count.1; moves = tt })

tick_ok : (names : Names) (n : ℕ) (others : List (List ℕ)) (line : Line) → tick_line names n others ≡ Ok line → IsLine names line
tick_ok names n [] line h = absurd (err-ok _ line h)
tick_ok names n (counter ∷ others) line h =
    let times = bind_ok (times_of n others) _ line h in
    let count = times_ok n others times.0 times.1 in
    let place = bind_ok (known (position (bytes_eq counter) names.counters) kind.Unknown n) _ line times.2 in
    let there = position-Some (bytes_eq counter) names.counters place.0 [] (known_ok (position (bytes_eq counter) names.counters) kind.Unknown n place.0 place.1) in
    subst (IsLine names) (same_Ok _ line place.2) (record { at_least = count.0; at_most = count.1; moves = there.0 })

-- a digit says less than 16, and none says 0
digit_small : (c : ℕ) → or_zero (digit 16 c) < 16
digit_small c = grind (arith, nat_tests)

digit_of_small : (c : Option ℕ) → digit_of c < 16
digit_of_small None = lit< tt
digit_of_small (Some c) = digit_small c

digit_at_small : (word : List ℕ) (place : ℕ) → digit_at word place < 16
digit_at_small word place = digit_of_small (slice_get word place)

digit_at_past : (word : List ℕ) (place : ℕ) → length word ≤ place → digit_at word place ≡ 0
digit_at_past word place past = rw (slice_get_past word place past) refl

byte_small : (word : List ℕ) (pair : ℕ) → byte_at word pair < 2 ^ 8
byte_small word pair = omega (arith, digit_at_small word (2 * pair), digit_at_small word (2 * pair + 1))

byte_past : (word : List ℕ) (pair : ℕ) → length word ≤ 2 * pair → byte_at word pair ≡ 0
byte_past word pair past = rw (digit_at_past word (2 * pair) past, digit_at_past word (2 * pair + 1) (omega arith)) refl

hex_form : (word : List ℕ) → is_hex word ≡ true → IsPoked (poke_bytes word)
hex_form word h =
    let size = length word in
    let parts = both_true ((nat_le 1 size && nat_le size 16) && (size % 2 == 0)) (list_all is_digit word) h in
    let pairs = both_true (nat_le 1 size && nat_le size 16) (size % 2 == 0) parts.0 in
    let range = both_true (nat_le 1 size) (nat_le size 16) pairs.0 in
    let low = leb-true 1 size range.0 in
    let high = leb-true size 16 range.1 in
    let even = eqb-true (size % 2) 0 pairs.1 in
    let bytes : List ℕ = map (byte_at word) (range_with_len 0 8) in
    record {
      at_least = omega (arith, low, even);
      at_most = omega (arith, high);
      all = refl;
      each = All-map (λ byte. byte < 2 ^ 8) (byte_at word) (range_with_len 0 8) (λ k d before. byte_small word (get_or (range_with_len 0 8) k d));
      zeros = All-from_get_or (λ byte. byte ≡ 0) (drop (size / 2) bytes) 0 (λ k before.
          let inside : size / 2 + k < 8 = omega (arith, before, length-drop (size / 2) bytes) in
          let past : size ≤ 2 * (size / 2 + k) = omega (arith, even) in
          get_or-drop (size / 2) bytes k 0 ∙ get_or-map-range_with_len (byte_at word) 0 8 (size / 2 + k) (size / 2 + k) 0 inside (omega arith) ∙ byte_past word (size / 2 + k) past);
    }

poked_ok : (names : Names) (n : ℕ) (at : Number) (hex : List ℕ) (line : Line) → poked names n at hex ≡ Ok line → IsLine names line
poked_ok names n at hex line h =
    let form = bind_ok (check (is_number at && is_hex hex) kind.Syntax n) _ line h in
    let range = bind_ok (check (ends_within names.devices at (poke_bytes hex).len) kind.Range n) _ line form.2 in
    let pairs = both_true (is_number at) (is_hex hex) (check_ok (is_number at && is_hex hex) kind.Syntax n form.0 form.1) in
    let fits = both_true (within 0 names.devices at) (nat_le (value at + (poke_bytes hex).len) names.devices) (check_ok (ends_within names.devices at (poke_bytes hex).len) kind.Range n range.0 range.1) in
    let ends = leb-true (value at + (poke_bytes hex).len) names.devices fits.1 in
    subst (IsLine names) (same_Ok _ line range.2)
    (record { at_least = lit≤ tt; at_most = lit≤ tt; moves = record { once = refl; within = ends; bytes = hex_form hex pairs.1 } })

poke_ok : (names : Names) (n : ℕ) (others : List (List ℕ)) (line : Line) → poke_line names n others ≡ Ok line → IsLine names line
poke_ok names n [] line h = absurd (err-ok _ line h)
poke_ok names n (at ∷ []) line h = absurd (err-ok _ line h)
poke_ok names n (at ∷ hex ∷ []) line h = poked_ok names n (number_of at) hex line h
poke_ok names n (at ∷ hex ∷ more ∷ others) line h = absurd (err-ok _ line h)

line_ok : (names : Names) (n : ℕ) (said : List (List ℕ)) (line : Line) → line_of names n said ≡ Ok line → IsLine names line
unfolding line_of
line_ok names n [] line h = absurd (err-ok _ line h)
line_ok names n (first ∷ others) line h =
    by_if (bytes_eq first (codes "run")) _ _ line h (run_ok names n others line) (λ tick.
    by_if (bytes_eq first (codes "tick")) _ _ line tick (tick_ok names n others line) (λ poke.
    by_if (bytes_eq first (codes "poke")) _ _ line poke (poke_ok names n others line) (λ none. absurd (err-ok _ line none))))

next_ok : (names : Names) (most : ℕ) (said next : Said) (text : ℕ × List ℕ) → All (IsLine names) said.lines → next_said names most said text ≡ Ok next → All (IsLine names) next.lines
next_ok names most said next text each h =
    let line = bind_ok (line_of names text.0 (words text.1)) _ next h in
    by_if (nat_le (said.moves + line.0.times) most) _ _ next line.2
    (λ more. subst (λ (s : Said). All (IsLine names) s.lines) (same_Ok _ next more) (All-push (IsLine names) said.lines line.0 each (line_ok names text.0 (words text.1) line.0 line.1)))
    (λ none. absurd (err-ok _ next none))

turn_ok : (names : Names) (most : ℕ) (said last : Said) (texts : List (ℕ × List ℕ)) → All (IsLine names) said.lines → in_turn (next_said names most) said texts ≡ Ok last → All (IsLine names) last.lines
unfolding in_turn
turn_ok names most said last [] each h = subst (λ (s : Said). All (IsLine names) s.lines) (same_Ok said last h) each
turn_ok names most said last (text ∷ texts) each h =
    let one = bind_ok (next_said names most said text) _ last h in
    turn_ok names most one.0 last texts (next_ok names most said one.0 text each one.1) one.2

pub in_form : ReadsInForm
in_form names most text lines h =
    let last = bind_ok (in_turn (next_said names most) (record { lines = []; moves = 0 }) (spoken_lines text)) _ lines h in
    subst (All (IsLine names)) (same_Ok last.0.lines lines last.2) (turn_ok names most (record { lines = []; moves = 0 }) last.0 (spoken_lines text) (All-nil (IsLine names)) last.1)
