-- A line that is written is read as the line that it was.
use Rattle.std.proofs.Common.{◌≡◌, ◌≢◌, ℕ, ◌+◌, ◌<◌, ◌≤◌, ◌^◌, Bool, true, false, List, [], ◌∷◌, ◌++◌, length, get_or, AllPairs, Result, Ok, Some, codes, decimal, append_assoc, refl, sym, ap, ◌∙◌, arith, le-leb, lt-ltb}
use Rattle.std.specs.List.{position, position_or_len}
use Rattle.std.specs.Str.{bytes_eq}
use Rattle.std.proofs.lemmas.List.Elements.{All-get_or}
use Rattle.std.proofs.lemmas.List.Sums.{position_or_len_is}
use Rattle.std.proofs.lemmas.Slice.Eq.{bytes_eq-Decides}
use Rattle.kes_text.specs.declared.refusal.Stop.{Stop}
use Rattle.osek_core.specs.declared.moves.Move.{Move}
use Rattle.osek_core.specs.declared.moves.Move.TheVariants.{Run, Tick, Poke}
use Rattle.osek_core.specs.declared.moves.PokeBytes.{PokeBytes}
use Rattle.osek_core.specs.Event.Text.{name_at}
use Rattle.text_words.specs.Numbers.{number_of}
use Rattle.text_words.specs.declared.number.Number.{Number}
use Rattle.text_words.specs.declared.number.Number.TheVariants.{Value}
use Rattle.kes_text.specs.declared.refusal.Kind.TheVariants as kind
use Rattle.text_words.specs.TextLines.{words}
use Rattle.text_words.specs.Said.{◌>>=◌, check}
use Rattle.script.specs.declared.line.Line.{Line}
use Rattle.script.specs.declared.names.Names.{Names}
use Rattle.script.specs.Hex.{poke_bytes}
use Rattle.script.specs.Reading.{counted, ends_within, poked, line_of}
use Rattle.script.specs.Writing.{step_text}
use Rattle.script.specs.InForm.{IsWord, AreNames, AreMoves, IsPoked, IsPoke, IsLine}
use Rattle.script.proofs.WordLemmas.{word_first, word_last}
use Rattle.script.proofs.NumberLemmas.{decimal_is_word, decimal_says}
use Rattle.script.proofs.HexLemmas.{hex_text, hex_is_word, hex_has_form, hex_says}

two_words : (first second : List ℕ) → IsWord first → IsWord second → words (first ++ codes " " ++ second) ≡ first ∷ second ∷ []
two_words first second one other =
    ap words (append_assoc first (codes " ") second) ∙ word_first first second one ∙ ap (λ (ws : List (List ℕ)). first ∷ ws) (word_last second other)

counted_says : (n times : ℕ) → 1 ≤ times → times ≤ 10 ^ 18 → counted n (number_of (decimal times)) ≡ Ok times
counted_says n times low high =
    let small : times < 2 ^ 64 = omega arith in
    rw (decimal_says times small, le-leb 1 times low, le-leb times (10 ^ 18) high) refl

not_true : (b : Bool) → (b ≡ true → ⊥) → b ≡ false
not_true true h = absurd (h refl)
not_true false h = refl

-- the first name that is the one at a place stands at this place, where all differ
place_says : (names : List (List ℕ)) (k : ℕ) → AllPairs (λ first second. first ≢ second) names → k < length names → position (bytes_eq (name_at names k)) names ≡ Some k
place_says names k differ within =
    let name = get_or names k [] in
    let first : position_or_len (bytes_eq name) names ≡ k = position_or_len_is (bytes_eq name) names k [] (omega arith)
    (λ j before. not_true (bytes_eq name (get_or names j [])) (λ same. differ j k [] before within (sym ((bytes_eq-Decides name (get_or names j [])).0 same))))
    (λ _. (bytes_eq-Decides name name).1 refl) in
    rw (first, lt-ltb k (length names) within) refl

run_says : (names : Names) (times n : ℕ) → 1 ≤ times → times ≤ 10 ^ 18 → line_of names n (words (step_text names times Run)) ≡ Ok (record { times = times; step = Run })
unfolding line_of
run_says names times n low high =
    let split : words (step_text names times Run) ≡ codes "run" ∷ decimal times ∷ [] = ap (λ (ws : List (List ℕ)). codes "run" ∷ ws) (word_last (decimal times) (decimal_is_word times (omega arith))) in
    ap (line_of names n) split ∙ rw (counted_says n times low high) refl

tick_says : (names : Names) (times n counter : ℕ) → AreNames names → 1 ≤ times → times ≤ 10 ^ 18 → counter < length names.counters
    → line_of names n (words (step_text names times (Tick counter))) ≡ Ok (record { times = times; step = Tick counter })
unfolding line_of
tick_says names times n counter named low high there =
    let name = name_at names.counters counter in
    let is : IsWord name = All-get_or IsWord names.counters counter [] there named.counters in
    let split : words (step_text names times (Tick counter)) ≡ codes "tick" ∷ name ∷ decimal times ∷ [] =
    ap (λ (ws : List (List ℕ)). codes "tick" ∷ ws) (two_words name (decimal times) is (decimal_is_word times (omega arith))) in
    ap (line_of names n) split ∙ rw (counted_says n times low high, place_says names.counters counter named.differ there) refl

poked_says : (names : Names) (n at : ℕ) (bytes : PokeBytes) → IsPoked bytes → at + bytes.len ≤ names.devices
    → poked names n (Value at) (hex_text bytes) ≡ Ok (record { times = 1; step = Poke at bytes })
poked_says names n at bytes is within =
    let first : at ≤ names.devices = omega arith in
    let kept : PokeBytes → Result Line Stop = λ found. (check (ends_within names.devices (Value at) found.len) kind.Range n >>= λ range. Ok (record { times = 1; step = Poke at found })) in
    let formed : poked names n (Value at) (hex_text bytes) ≡ kept (poke_bytes (hex_text bytes)) = rw (hex_has_form bytes is) refl in
    formed ∙ ap kept (hex_says bytes is) ∙ rw (le-leb 0 at (omega arith), le-leb at names.devices first, le-leb (at + bytes.len) names.devices within) refl

poke_says : (names : Names) (times n at : ℕ) (bytes : PokeBytes) → AreNames names → IsPoke names times at bytes
    → line_of names n (words (step_text names times (Poke at bytes))) ≡ Ok (record { times = times; step = Poke at bytes })
unfolding line_of
poke_says names times n at bytes named is =
    let within = is.within in
    let devices = named.devices in
    let small : at < 2 ^ 64 = omega arith in
    let first : at ≤ names.devices = omega arith in
    let split : words (step_text names times (Poke at bytes)) ≡ codes "poke" ∷ decimal at ∷ hex_text bytes ∷ [] =
    ap (λ (ws : List (List ℕ)). codes "poke" ∷ ws) (two_words (decimal at) (hex_text bytes) (decimal_is_word at small) (hex_is_word bytes is.bytes)) in
    let read : poked names n (number_of (decimal at)) (hex_text bytes) ≡ Ok (record { times = 1; step = Poke at bytes }) =
    ap (λ (number : Number). poked names n number (hex_text bytes)) (decimal_says at small) ∙ poked_says names n at bytes is.bytes within in
    let with_times : ℕ → Result Line Stop = λ t. Ok (record { times = t; step = Poke at bytes }) in
    ap (line_of names n) split ∙ read ∙ ap with_times (sym is.once)

step_says : (names : Names) (times n : ℕ) (step : Move) → AreNames names → 1 ≤ times → times ≤ 10 ^ 18 → AreMoves names times step
    → line_of names n (words (step_text names times step)) ≡ Ok (record { times = times; step = step })
step_says names times n Run named low high is = run_says names times n low high
step_says names times n (Tick counter) named low high is = tick_says names times n counter named low high is
step_says names times n (Poke at bytes) named low high is = poke_says names times n at bytes named is

pub line_says : (names : Names) (line : Line) (n : ℕ) → AreNames names → IsLine names line → line_of names n (words (step_text names line.times line.step)) ≡ Ok line
line_says names line n named is = step_says names line.times n line.step named is.at_least is.at_most is.moves
