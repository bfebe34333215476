-- Words with one blank between them, and lines that end in a line feed, come apart again.
use Rattle.std.proofs.Common.{◌≡◌, ℕ, ◌<◌, false, List, [], ◌∷◌, ◌++◌, length, filter, All, refl, ap, ◌∙◌, arith, lt-ltb}
use Rattle.std.specs.Prelude.{nat_lt, ◌==◌}
use Rattle.std.specs.List.{slice_split}
use Rattle.std.proofs.lemmas.Bool.Decides.{nat_tests}
use Rattle.std.proofs.lemmas.List.Elements.{All-weaker, All-head, All-tail}
use Rattle.std.proofs.lemmas.List.Splits.{slice_split_at, slice_split_none}
use Rattle.text_words.specs.TextLines.{is_space, words, all_lines}
use Rattle.script.specs.InForm.{IsWord}

other : (a b : ℕ) → a < b → (b == a) ≡ false
other a b lt = grind (arith, nat_tests)

no_space : (word : List ℕ) → IsWord word → All (λ byte. is_space byte ≡ false) word
no_space word is = All-weaker (λ byte. 32 < byte) (λ byte. is_space byte ≡ false) (λ byte above. other 32 byte above) word is.each

kept : (word : List ℕ) (parts : List (List ℕ)) → IsWord word
    → filter (λ piece. nat_lt 0 (length piece)) (word ∷ parts) ≡ word ∷ filter (λ piece. nat_lt 0 (length piece)) parts
kept word parts is = rw (lt-ltb 0 (length word) is.some) refl

-- a word, a blank, and what is behind it
pub word_first : (word rest : List ℕ) → IsWord word → words (word ++ 32 ∷ rest) ≡ word ∷ words rest
word_first word rest is =
    ap (filter (λ piece. nat_lt 0 (length piece))) (slice_split_at is_space word 32 rest (no_space word is) refl) ∙ kept word (slice_split is_space rest) is

-- the last word
pub word_last : (word : List ℕ) → IsWord word → words word ≡ word ∷ []
word_last word is =
    ap (filter (λ piece. nat_lt 0 (length piece))) (slice_split_none is_space word (no_space word is)) ∙ kept word [] is

-- a line, its line feed, and the lines behind it
pub line_first : (line text : List ℕ) → All (λ byte. 13 < byte) line → all_lines (line ++ 10 ∷ text) ≡ line ∷ all_lines text
line_first [] text above = refl
line_first (byte ∷ line) text above =
    let more = line_first line text (All-tail (λ b. 13 < b) byte line above) in
    let first : 13 < byte = All-head (λ b. 13 < b) byte line above in
    rw (other 13 byte first, other 10 byte (omega (arith, first)), more) refl
