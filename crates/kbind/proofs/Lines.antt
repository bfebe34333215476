-- Lines of a form one after the other: what they name, and their faults.
use Rattle.std.proofs.Common.{◌≡◌, ℕ, ◌+◌, ◌<◌, ◌≤◌, List, ◌++◌, length, drop, get_or, Option, Some, None, option_to_list, refl, sym, ap, ◌∙◌}
use Rattle.std.specs.List.{filter_map, flat_map, cons_option}
use Rattle.std.proofs.lemmas.List.{append-nil}
use Rattle.kes_text.specs.declared.refusal.Kind.TheVariants as kind
use Rattle.kes_text.specs.declared.refusal.Refusal.{Refusal}
use Rattle.jworld.specs.Classes.{World}
use Rattle.kconfig.specs.declared.config.CellLine.{CellLine}
use Rattle.kconfig.specs.declared.config.ObjectLine.{ObjectLine}
use Rattle.kbind.specs.Cells.{cell_holds}
use Rattle.kbind.specs.Objects.{object_holds}
use Rattle.kbind.specs.Bound.{unless, cell_faults, object_faults}
use Rattle.kbind.proofs.Declaring.{left, nothing_left, moved}

cons_is : {A : Type 0} (found : Option A) (xs : List A) → cons_option found xs ≡ option_to_list found ++ xs
cons_is None xs = refl
cons_is (Some x) xs = refl

-- what one line more names
pub member_more : {L A : Type 0} (named : L → Option A) (lines : List L) (i : ℕ) (line : L) (found : Option A) (so_far new whole : List A) → i < length lines → line ≡ get_or lines i line
    → found ≡ named line → new ≡ so_far ++ option_to_list found
    → so_far ++ filter_map named (drop i lines) ≡ whole → new ++ filter_map named (drop (i + 1) lines) ≡ whole
member_more {L} {A} named lines i line found so_far new whole within is names keeps e =
    ap (λ (ms : List A). ms ++ filter_map named (drop (i + 1) lines)) (keeps ∙ ap (λ (o : Option A). so_far ++ option_to_list o) names)
    ∙ moved so_far (option_to_list (named line)) (filter_map named (drop (i + 1) lines)) whole
    (ap (λ (ms : List A). so_far ++ ms) (sym (cons_is (named line) (filter_map named (drop (i + 1) lines))))
    ∙ ap (λ (ls : List L). so_far ++ filter_map named ls) (sym (left lines i line within is)) ∙ e)

pub all_members : {L A : Type 0} (named : L → Option A) (lines : List L) (i : ℕ) (so_far whole : List A) → length lines ≤ i
    → so_far ++ filter_map named (drop i lines) ≡ whole → so_far ≡ whole
all_members {L} named lines i so_far whole past e =
    sym (append-nil so_far) ∙ ap (λ (ls : List L). so_far ++ filter_map named ls) (sym (nothing_left lines i past)) ∙ e

-- the faults of one line more
pub fault_more : {L A : Type 0} (faults : L → List A) (lines : List L) (i : ℕ) (line : L) (blamed so_far new whole : List A) → i < length lines → line ≡ get_or lines i line
    → blamed ≡ faults line → new ≡ so_far ++ blamed
    → so_far ++ flat_map faults (drop i lines) ≡ whole → new ++ flat_map faults (drop (i + 1) lines) ≡ whole
fault_more {L} {A} faults lines i line blamed so_far new whole within is blames keeps e =
    ap (λ (fs : List A). fs ++ flat_map faults (drop (i + 1) lines)) (keeps ∙ ap (λ (b : List A). so_far ++ b) blames)
    ∙ moved so_far (faults line) (flat_map faults (drop (i + 1) lines)) whole
    (ap (λ (ls : List L). so_far ++ flat_map faults ls) (sym (left lines i line within is)) ∙ e)

pub all_faults : {L A : Type 0} (faults : L → List A) (lines : List L) (i : ℕ) (so_far whole : List A) → length lines ≤ i
    → so_far ++ flat_map faults (drop i lines) ≡ whole → so_far ≡ whole
all_faults {L} faults lines i so_far whole past e =
    sym (append-nil so_far) ∙ ap (λ (ls : List L). so_far ++ flat_map faults ls) (sym (nothing_left lines i past)) ∙ e

-- ---- the faults of cell lines and of object lines, which go by the number of the line

pub cell_fault_more : (files : World) (cells lines : List CellLine) (n : ℕ) (line : CellLine) (blamed so_far new whole : List Refusal) → n < length lines → line ≡ get_or lines n line
    → blamed ≡ unless (cell_holds files cells n line) kind.BadMapped line.line → new ≡ so_far ++ blamed
    → so_far ++ cell_faults files cells n (drop n lines) ≡ whole → new ++ cell_faults files cells (n + 1) (drop (n + 1) lines) ≡ whole
cell_fault_more files cells lines n line blamed so_far new whole within is blames keeps e =
    ap (λ (fs : List Refusal). fs ++ cell_faults files cells (n + 1) (drop (n + 1) lines)) (keeps ∙ ap (λ (b : List Refusal). so_far ++ b) blames)
    ∙ moved so_far (unless (cell_holds files cells n line) kind.BadMapped line.line) (cell_faults files cells (n + 1) (drop (n + 1) lines)) whole
    (ap (λ (ls : List CellLine). so_far ++ cell_faults files cells n ls) (sym (left lines n line within is)) ∙ e)

pub all_cell_faults : (files : World) (cells lines : List CellLine) (n : ℕ) (so_far whole : List Refusal) → length lines ≤ n
    → so_far ++ cell_faults files cells n (drop n lines) ≡ whole → so_far ≡ whole
all_cell_faults files cells lines n so_far whole past e =
    sym (append-nil so_far) ∙ ap (λ (ls : List CellLine). so_far ++ cell_faults files cells n ls) (sym (nothing_left lines n past)) ∙ e

pub object_fault_more : (size : ℕ) (cells : List CellLine) (objects lines : List ObjectLine) (n : ℕ) (line : ObjectLine) (blamed so_far new whole : List Refusal) → n < length lines → line ≡ get_or lines n line
    → blamed ≡ unless (object_holds size cells objects n line) kind.BadMapped line.line → new ≡ so_far ++ blamed
    → so_far ++ object_faults size cells objects n (drop n lines) ≡ whole → new ++ object_faults size cells objects (n + 1) (drop (n + 1) lines) ≡ whole
object_fault_more size cells objects lines n line blamed so_far new whole within is blames keeps e =
    ap (λ (fs : List Refusal). fs ++ object_faults size cells objects (n + 1) (drop (n + 1) lines)) (keeps ∙ ap (λ (b : List Refusal). so_far ++ b) blames)
    ∙ moved so_far (unless (object_holds size cells objects n line) kind.BadMapped line.line) (object_faults size cells objects (n + 1) (drop (n + 1) lines)) whole
    (ap (λ (ls : List ObjectLine). so_far ++ object_faults size cells objects n ls) (sym (left lines n line within is)) ∙ e)

pub all_object_faults : (size : ℕ) (cells : List CellLine) (objects lines : List ObjectLine) (n : ℕ) (so_far whole : List Refusal) → length lines ≤ n
    → so_far ++ object_faults size cells objects n (drop n lines) ≡ whole → so_far ≡ whole
all_object_faults size cells objects lines n so_far whole past e =
    sym (append-nil so_far) ∙ ap (λ (ls : List ObjectLine). so_far ++ object_faults size cells objects n ls) (sym (nothing_left lines n past)) ∙ e
