-- A script that is written is read as the lines that were written.
use Rattle.std.proofs.Common.{◌≡◌, nat_le, ℕ, ◌+◌, ◌<◌, ◌≤◌, ◌^◌, Bool, true, false, List, [], ◌∷◌, ◌++◌, All, Result, Ok, codes, decimal, append_assoc, flat_map, refl, sym, ap, ◌∙◌, arith, le-leb, lit<, if◌then◌else◌}
use Rattle.std.specs.List.{enumerate_from}
use Rattle.std.proofs.lemmas.List.{append-nil}
use Rattle.std.proofs.lemmas.List.Elements.{All-append, All-head, All-tail, All-weaker, All-get_or, All-from_recursion}
use Rattle.kes_text.specs.declared.refusal.Stop.{Stop}
use Rattle.kes_text.specs.declared.refusal.Kind.TheVariants as kind
use Rattle.osek_core.specs.Event.Text.{name_at}
use Rattle.osek_core.specs.declared.moves.Move.{Move}
use Rattle.osek_core.specs.declared.moves.Move.TheVariants.{Run, Tick, Poke}
use Rattle.text_words.specs.Said.{◌>>=◌, refused}
use Rattle.text_words.specs.TextLines.{is_skipped, all_lines, spoken}
use Rattle.script.specs.declared.line.Line.{Line}
use Rattle.script.specs.declared.names.Names.{Names}
use Rattle.script.specs.InTurn.{in_turn}
use Rattle.script.specs.Reading.{Said, with_line, next_said}
use Rattle.script.specs.Writing.{step_text, line_text, script_text, joined}
use Rattle.script.specs.InForm.{IsWord, AreNames, AreMoves, IsLine, AreInForm}
use Rattle.script.specs.ReadsBack.{move_count, ReadsBack}
use Rattle.script.proofs.Inversion.{err-ok, same_Ok}
use Rattle.script.proofs.WordLemmas.{line_first}
use Rattle.script.proofs.NumberLemmas.{decimal_is_word}
use Rattle.script.proofs.HexLemmas.{hex_text, hex_is_word}
use Rattle.script.proofs.WrittenLines.{line_says}
use Rattle.script.proofs.JoinedLemmas.{joined_form, joined_count, counted}

-- a byte that ends no line, and is no carriage return before one
abbrev IsInside : ℕ → Type 0
IsInside byte = 13 < byte

word_inside : (word : List ℕ) → IsWord word → All IsInside word
word_inside word is = All-weaker (λ byte. 32 < byte) IsInside (λ byte more. omega arith) word is.each

blank_inside : All IsInside (codes " ")
blank_inside = All-from_recursion IsInside (codes " ") (lit< tt, tt)

-- the bytes of a line
text_inside : (names : Names) (times : ℕ) (step : Move) → AreNames names → times ≤ 10 ^ 18 → AreMoves names times step → All IsInside (step_text names times step)
text_inside names times Run named small is =
    All-append IsInside (codes "run ") (decimal times) (All-from_recursion IsInside (codes "run ") (lit< tt, (lit< tt, (lit< tt, (lit< tt, tt)))))
    (word_inside (decimal times) (decimal_is_word times (omega arith)))
text_inside names times (Tick counter) named small is =
    let name = name_at names.counters counter in
    let front : All IsInside (codes "tick ") = All-from_recursion IsInside (codes "tick ") (lit< tt, (lit< tt, (lit< tt, (lit< tt, (lit< tt, tt))))) in
    let spelled = word_inside name (All-get_or IsWord names.counters counter [] is named.counters) in
    let count = word_inside (decimal times) (decimal_is_word times (omega arith)) in
    All-append IsInside (codes "tick " ++ name ++ codes " ") (decimal times) (All-append IsInside (codes "tick " ++ name) (codes " ") (All-append IsInside (codes "tick ") name front spelled) blank_inside) count
text_inside names times (Poke at bytes) named small is =
    let within = is.within in
    let devices = named.devices in
    let front : All IsInside (codes "poke ") = All-from_recursion IsInside (codes "poke ") (lit< tt, (lit< tt, (lit< tt, (lit< tt, (lit< tt, tt))))) in
    let place = word_inside (decimal at) (decimal_is_word at (omega arith)) in
    let poked = word_inside (hex_text bytes) (hex_is_word bytes is.bytes) in
    All-append IsInside (codes "poke " ++ decimal at ++ codes " ") (hex_text bytes) (All-append IsInside (codes "poke " ++ decimal at) (codes " ") (All-append IsInside (codes "poke ") (decimal at) front place) blank_inside) poked

not_skipped : (names : Names) (times : ℕ) (step : Move) → is_skipped (step_text names times step) ≡ false
not_skipped names times Run = refl
not_skipped names times (Tick counter) = refl
not_skipped names times (Poke at bytes) = refl

-- the lines of a text that say something, the first of which has the number k
abbrev spoken_from : ℕ → List ℕ → List (ℕ × List ℕ)
spoken_from k text = flat_map spoken (enumerate_from k (all_lines text))

one_more : (names : Names) (line : Line) (k : ℕ) (rest : List ℕ) → AreNames names → IsLine names line
    → spoken_from k (line_text names line ++ rest) ≡ (k, step_text names line.times line.step) ∷ spoken_from (k + 1) rest
one_more names line k rest named is =
    let text = step_text names line.times line.step in
    let over : List (List ℕ) → List (ℕ × List ℕ) = λ ls. flat_map spoken (enumerate_from k ls) in
    let split : all_lines (line_text names line ++ rest) ≡ text ∷ all_lines rest =
    ap all_lines (append_assoc text (codes "\n") rest) ∙ line_first text rest (text_inside names line.times line.step named is.at_most is.moves) in
    ap over split ∙ rw (not_skipped names line.times line.step) refl

-- the lines of an answer
abbrev lines_of : Result Said Stop → Result (List Line) Stop
lines_of r = r >>= λ said. Ok said.lines

-- the answer of reading on, behind lines that have been read
abbrev reading : Names → ℕ → ℕ → Said → List Line → Result (List Line) Stop
reading names most k said lines = lines_of (in_turn (next_said names most) said (spoken_from k (flat_map (line_text names) lines)))

abbrev with : Said → Line → Said
with said line = record { lines = said.lines ++ line ∷ []; moves = said.moves + line.times }

abbrev goes_on : Names → ℕ → ℕ → Said → Line → List Line → Bool → Result (List Line) Stop
goes_on names most k said line lines true = reading names most (k + 1) (with said line) lines
goes_on names most k said line lines false = refused kind.TooMany k

-- one line more
reading-cons : (names : Names) (most k : ℕ) (said : Said) (line : Line) (lines : List Line) → AreNames names → IsLine names line
    → reading names most k said (line ∷ lines) ≡ goes_on names most k said line lines (nat_le (said.moves + line.times) most)
unfolding in_turn
reading-cons names most k said line lines named is =
    let over : List (ℕ × List ℕ) → Result (List Line) Stop = λ items. lines_of (in_turn (next_said names most) said items) in
    let more : Result Line Stop → Result (List Line) Stop = λ r. lines_of ((r >>= λ found. with_line most k said found) >>= λ next. in_turn (next_said names most) next (spoken_from (k + 1) (flat_map (line_text names) lines))) in
    ap over (one_more names line k (flat_map (line_text names) lines) named is) ∙ ap more (line_says names line k named is) ∙ by (nat_le (said.moves + line.times) most)
  where
    by : (fits : Bool) → lines_of ((if fits then Ok (with said line) else refused kind.TooMany k) >>= λ next. in_turn (next_said names most) next (spoken_from (k + 1) (flat_map (line_text names) lines)))
        ≡ goes_on names most k said line lines fits
    by true = refl
    by false = refl

reads_on : (names : Names) (most k : ℕ) (said : Said) (lines : List Line) → AreNames names → All (IsLine names) lines → said.moves + move_count lines ≤ most
    → reading names most k said lines ≡ Ok (said.lines ++ lines)
unfolding in_turn
reads_on names most k said [] named each fits = ap (λ (ls : List Line). Ok ls) (sym (append-nil said.lines))
reads_on names most k said (line ∷ lines) named each fits =
    let is = All-head (IsLine names) line lines each in
    let count = counted line lines in
    let here : said.moves + line.times ≤ most = omega (arith, count, fits) in
    let room : said.moves + line.times + move_count lines ≤ most = omega (arith, count, fits) in
    let more = reads_on names most (k + 1) (with said line) lines named (All-tail (IsLine names) line lines each) room in
    reading-cons names most k said line lines named is
    ∙ ap (goes_on names most k said line lines) (le-leb (said.moves + line.times) most here)
    ∙ more
    ∙ ap (λ (ls : List Line). Ok ls) (append_assoc said.lines (line ∷ []) lines)

reads_no_others : (names : Names) (most k : ℕ) (said : Said) (lines others : List Line) → AreNames names → All (IsLine names) lines
    → reading names most k said lines ≡ Ok others → others ≡ said.lines ++ lines
unfolding in_turn
reads_no_others names most k said [] others named each h = sym (same_Ok said.lines others h) ∙ sym (append-nil said.lines)
reads_no_others names most k said (line ∷ lines) others named each h =
    by (nat_le (said.moves + line.times) most) (λ r. reads_no_others names most (k + 1) (with said line) lines others named (All-tail (IsLine names) line lines each) r)
    (sym (reading-cons names most k said line lines named (All-head (IsLine names) line lines each)) ∙ h)
  where
    by : (fits : Bool) → (reading names most (k + 1) (with said line) lines ≡ Ok others → others ≡ (said.lines ++ line ∷ []) ++ lines)
        → goes_on names most k said line lines fits ≡ Ok others → others ≡ said.lines ++ line ∷ lines
    by true more r = more r ∙ append_assoc said.lines (line ∷ []) lines
    by false more r = absurd (err-ok _ others r)

pub reads_back : (names : Names) (lines : List Line) → AreInForm names lines → ReadsBack names lines (script_text names lines)
reads_back names lines is =
    let none : Said = record { lines = []; moves = 0 } in
    let each = joined_form names lines is.each in
    record {
      reads = λ most fits. reads_on names most 1 none (joined lines) is.named each (omega (arith, fits, joined_count names lines is.each));
      alone = λ most others h. reads_no_others names most 1 none (joined lines) others is.named each h;
    }
