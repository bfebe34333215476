-- A configuration that was read has at most 65,536 device bytes.
use Rattle.std.proofs.Common.{◌≡◌, ◌≤◌, ℕ, Bool, true, false, List, [], ◌∷◌, Ok, Result, sym, subst, ◌∙◌, arith, bytes_eq, codes}
use Rattle.std.specs.Prelude.{◌%◌, ◌==◌, ◌^◌, ◌-◌, if◌then◌else◌}
use Rattle.kes_text.specs.declared.refusal.Stop.{Stop}
use Rattle.kes_text.specs.declared.refusal.Kind.TheVariants as kind
use Rattle.kconfig.specs.declared.config.Config.{Config}
use Rattle.kconfig.specs.declared.config.DevicesLine.{DevicesLine}
use Rattle.kconfig.specs.declared.config.Line.{Line}
use Rattle.kconfig.specs.declared.config.Line.TheVariants as line
use Rattle.text_words.specs.declared.number.Number.{Number}
use Rattle.text_words.specs.Numbers.{number_of, are_both_numbers, within, value}
use Rattle.text_words.specs.Said.{◌>>=◌}
use Rattle.text_words.specs.TextLines.{spoken_lines, words}
use Rattle.kconfig.specs.Config.{Before, first_config, with_line}
use Rattle.kconfig.specs.Devices.{keso_line, is_multiple_within, devices_said, are_devices_words, devices_line}
use Rattle.kconfig.specs.Reading.{line_by, line_of, config_with, waits_of, config_from, config_of_lines}
use Rattle.kconfig.proofs.Stepping.{ok_is, not_both, next}
use Rattle.kconfig.proofs.Inversion.{both_true, bind_ok, checked, within_is}
use Rattle.first_form.specs.Configuration.{configuration}

abbrev HasFew : Config → Type 0
HasFew c = c.devices.size ≤ 65536

devices_by : (before : Before) (n : ℕ) (base size : Number) (y : DevicesLine) → devices_said before n base size ≡ Ok y → y.size ≤ 65536
unfolding devices_said
devices_by before n base size y e =
    let a = checked (are_both_numbers base size) kind.Syntax n _ y e in
    let b = checked (is_multiple_within (2 ^ 32 - 1) base) kind.Range n _ y a.1 in
    let c = checked (is_multiple_within 65536 size) kind.Range n _ y b.1 in
    let d = checked (before.config.devices.line == 0) kind.Room n _ y c.1 in
    let small = both_true (within 0 65536 size) (value size % 8 == 0) c.0 in
    subst (λ (x : DevicesLine). x.size ≤ 65536) (ok_is _ y d.1) (within_is 0 65536 size small.0).1

devices_ok : (before : Before) (n : ℕ) (words : List (List ℕ)) (y : DevicesLine) → devices_line before n words ≡ Ok y → y.size ≤ 65536
devices_ok before n (base_word ∷ base ∷ size_word ∷ size ∷ []) y e =
    let a = checked (are_devices_words base_word size_word) kind.Syntax n _ y e in
    devices_by before n (number_of base) (number_of size) y a.1
devices_ok before n _ y e = absurd (not_both y _ (sym e))

chosen : (P : Line → Type 0) (test : Bool) (here others : Result Line Stop) (x : Line) → (if test then here else others) ≡ Ok x → (here ≡ Ok x → P x) → (others ≡ Ok x → P x) → P x
chosen P true here others x e first second = first e
chosen P false here others x e first second = second e

made : {A : Type 0} (P : Line → Type 0) (f : A → Line) (said : Result A Stop) (x : Line) → (said >>= (λ y. Ok (f y))) ≡ Ok x → ((y : A) → said ≡ Ok y → P (f y)) → P x
made P f said x e each = let y = bind_ok said (λ y. Ok (f y)) x e in subst P (ok_is (f y.0) x y.1.1) (each y.0 y.1.0)

step_by : (before : Before) (n : ℕ) (first : List ℕ) (others : List (List ℕ)) (x : Line) → HasFew before.config → line_by before n first others ≡ Ok x → HasFew (with_line before.config x)
unfolding line_by
step_by before n first others x s e =
    let c = before.config in
    let P : Line → Type 0 = λ x. HasFew (with_line c x) in
    chosen P (bytes_eq first (codes "devices")) _ _ x e (λ h. made P line.Devices _ x h (λ y is. devices_ok before n others y is)) (λ e.
    chosen P (bytes_eq first (codes "domain")) _ _ x e (λ h. made P line.Domain _ x h (λ y is. s)) (λ e.
    chosen P (bytes_eq first (codes "counter")) _ _ x e (λ h. made P line.Counter _ x h (λ y is. s)) (λ e.
    chosen P (bytes_eq first (codes "event")) _ _ x e (λ h. made P line.Event _ x h (λ y is. s)) (λ e.
    chosen P (bytes_eq first (codes "resource")) _ _ x e (λ h. made P line.Resource _ x h (λ y is. s)) (λ e.
    chosen P (bytes_eq first (codes "task")) _ _ x e (λ h. made P line.Task _ x h (λ y is. s)) (λ e.
    chosen P (bytes_eq first (codes "use")) _ _ x e (λ h. made P line.Use _ x h (λ y is. s)) (λ e.
    chosen P (bytes_eq first (codes "wait")) _ _ x e (λ h. made P line.Wait _ x h (λ y is. s)) (λ e.
    chosen P (bytes_eq first (codes "alarm")) _ _ x e (λ h. made P line.Alarm _ x h (λ y is. s)) (λ e.
    chosen P (bytes_eq first (codes "start")) _ _ x e (λ h. made P line.Start _ x h (λ y is. s)) (λ e.
    chosen P (bytes_eq first (codes "native")) _ _ x e (λ h. made P line.Native _ x h (λ y is. s)) (λ e.
    chosen P (bytes_eq first (codes "cell")) _ _ x e (λ h. made P line.Cell _ x h (λ y is. s)) (λ e.
    chosen P (bytes_eq first (codes "object")) _ _ x e (λ h. made P line.Object _ x h (λ y is. s)) (λ e.
    chosen P (bytes_eq first (codes "device")) _ _ x e (λ h. made P line.Device _ x h (λ y is. s)) (λ e.
    chosen P (bytes_eq first (codes "portal")) _ _ x e (λ h. made P line.Portal _ x h (λ y is. s)) (λ e. absurd (not_both x _ (sym e)))))))))))))))))

step : (before : Before) (n : ℕ) (line_words : List (List ℕ)) (x : Line) → HasFew before.config → line_of before n line_words ≡ Ok x → HasFew (with_line before.config x)
step before n [] x s e = absurd (not_both x _ (sym e))
step before n (first ∷ others) x s e = step_by before n first others x s e

alone : (text : List (List ℕ × List ℕ)) (c d : Config) → config_with text c [] ≡ Ok d → c ≡ d
unfolding config_with
alone text c d e = ok_is c d e

behind : (text : List (List ℕ × List ℕ)) (c d : Config) (lines : List (ℕ × List ℕ)) → config_with text c lines ≡ Ok d → HasFew c → HasFew d
behind text c d [] e s = subst HasFew (alone text c d e) s
behind text c d (next_line ∷ lines) e s =
    let before : Before = record { config = c; waits = text } in
    let more = bind_ok (line_of before next_line.0 (words next_line.1)) (λ x. config_with text (with_line c x) lines) d (sym (next text c next_line lines) ∙ e) in
    behind text (with_line c more.0) d lines more.1.1 (step before next_line.0 (words next_line.1) more.0 s more.1.0)

from : (first : ℕ × List ℕ) (lines : List (ℕ × List ℕ)) (d : Config) → config_from first lines ≡ Ok d → HasFew d
from first lines d e =
    let text = waits_of lines in
    let keso = bind_ok (keso_line first.0 (words first.1)) (λ keso. config_with text (first_config keso) lines) d e in
    behind text (first_config keso.0) d lines keso.1.1 (omega arith)

of_lines : (end : ℕ) (lines : List (ℕ × List ℕ)) (d : Config) → config_of_lines end lines ≡ Ok d → HasFew d
of_lines end [] d e = absurd (not_both d _ (sym e))
of_lines end (first ∷ lines) d e = from first lines d e

-- what the text of a configuration says
pub has_few : (text : List ℕ) (config : Config) → configuration text ≡ Ok config → config.devices.size ≤ 65536
unfolding configuration
has_few text config e = of_lines _ (spoken_lines text) config e
