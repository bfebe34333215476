-- Methods in the order of the files and of the methods in a file, one more at a time; and the first that a METHOD shows.
use Rattle.std.proofs.Common.{◌≡◌, ℕ, suc, ◌+◌, ◌<◌, ◌≤◌, Bool, true, false, cond, List, [], ◌∷◌, ◌++◌, length, map, drop, get_or, Option, Some, None, slice_get, not, nat_lt, bytes_eq, position, refl, sym, ap, ◌∙◌, arith, add-one, drop-cons, append_assoc}
use Rattle.std.specs.List.{position_or_len}
use Rattle.std.proofs.Math.ListN.{drop_of_length-le}
use Rattle.std.proofs.lemmas.Bool.{ltb-false}
use Rattle.std.proofs.lemmas.List.{append-nil, length-map}
use Rattle.std.proofs.lemmas.List.Folds.{find_at}
use Rattle.std.proofs.lemmas.Option.{slice_get_past, slice_get-get_or}
use Rattle.classfile.specs.ClassFile.{ClassInfo, MethodInfo}
use Rattle.jworld.specs.Members.{method_id}
use Rattle.kes_text.specs.Shown.{shown}
use Rattle.kbind.specs.Shown.{method_word}
use Rattle.kbind.proofs.Placing.{prefix_of_map}
use Rattle.kbind.specs.Methods.{Declared, methods_from, declared_from, method_named}

-- an element before what is left of a list
pub left : {A : Type 0} (xs : List A) (i : ℕ) (x : A) → i < length xs → x ≡ get_or xs i x → drop i xs ≡ x ∷ drop (i + 1) xs
left {A} xs i x within is = rw add-one (drop-cons xs i x within ∙ ap (λ (y : A). y ∷ drop (suc i) xs) (sym is))

pub nothing_left : {A : Type 0} (xs : List A) (i : ℕ) → length xs ≤ i → drop i xs ≡ []
nothing_left xs i past = drop_of_length-le xs past

-- a part more of a whole
pub moved : {A : Type 0} (so_far more rest whole : List A) → so_far ++ (more ++ rest) ≡ whole → (so_far ++ more) ++ rest ≡ whole
moved so_far more rest whole e = append_assoc so_far more rest ∙ e

pub one_more : (file : ClassInfo) (class n : ℕ) (methods : List MethodInfo) (method : MethodInfo) (row : Declared) (so_far whole : List Declared)
    → n < length methods → method ≡ get_or methods n method → row ≡ record { id = method_id class n; word = method_word file method; method = method }
    → so_far ++ methods_from file class n (drop n methods) ≡ whole → (so_far ++ row ∷ []) ++ methods_from file class (n + 1) (drop (n + 1) methods) ≡ whole
one_more file class n methods method row so_far whole within is shown e =
    moved so_far (row ∷ []) (methods_from file class (n + 1) (drop (n + 1) methods)) whole
    (ap (λ (r : Declared). so_far ++ r ∷ methods_from file class (n + 1) (drop (n + 1) methods)) shown
    ∙ ap (λ (ms : List MethodInfo). so_far ++ methods_from file class n ms) (sym (left methods n method within is)) ∙ e)

-- the row of a method, behind the shown name of its class
pub row_is : (file : ClassInfo) (class n : ℕ) (method : MethodInfo) (word name : List ℕ) → name ≡ shown file.name → word ≡ (name ++ 46 ∷ shown method.name) ++ shown method.descriptor
    → ◌≡◌ {A = Declared} (record { id = method_id class n; word = word; method = method }) (record { id = method_id class n; word = method_word file method; method = method })
row_is file class n method word name e spelled =
    ap (λ (w : List ℕ). record { id = method_id class n; word = w; method = method }) (spelled ∙ ap (λ (p : List ℕ). (p ++ 46 ∷ shown method.name) ++ shown method.descriptor) e)

pub all_of_file : (file : ClassInfo) (class n : ℕ) (methods : List MethodInfo) (so_far whole : List Declared)
    → length methods ≤ n → so_far ++ methods_from file class n (drop n methods) ≡ whole → so_far ≡ whole
all_of_file file class n methods so_far whole past e =
    sym (append-nil so_far) ∙ ap (λ (ms : List MethodInfo). so_far ++ methods_from file class n ms) (sym (nothing_left methods n past)) ∙ e

pub file_more : (class next k : ℕ) (files : List ClassInfo) (file : ClassInfo) (so_far whole : List Declared)
    → next ≡ class + 1 → k < length files → file ≡ get_or files k file
    → so_far ++ declared_from class (drop k files) ≡ whole → (so_far ++ methods_from file class 0 file.methods) ++ declared_from next (drop (k + 1) files) ≡ whole
file_more class next k files file so_far whole follows within is e =
    ap (λ (n : ℕ). (so_far ++ methods_from file class 0 file.methods) ++ declared_from n (drop (k + 1) files)) follows
    ∙ moved so_far (methods_from file class 0 file.methods) (declared_from (class + 1) (drop (k + 1) files)) whole
    (ap (λ (fs : List ClassInfo). so_far ++ declared_from class fs) (sym (left files k file within is)) ∙ e)

pub all_files : (class k : ℕ) (files : List ClassInfo) (so_far whole : List Declared)
    → length files ≤ k → so_far ++ declared_from class (drop k files) ≡ whole → so_far ≡ whole
all_files class k files so_far whole past e =
    sym (append-nil so_far) ∙ ap (λ (fs : List ClassInfo). so_far ++ declared_from class fs) (sym (nothing_left files k past)) ∙ e

-- ---- the first that a METHOD shows, by the first place of the METHOD

abbrev pub at : List Declared → Option ℕ → Option Declared
at methods None = None
at methods (Some place) = slice_get methods place

pub first_is : (word : List ℕ) (methods : List Declared) → at methods (position (bytes_eq word) (map (λ d. d.word) methods)) ≡ method_named methods word
first_is word methods =
    by_test (position_or_len (bytes_eq word) (map (λ d. d.word) methods)) (nat_lt (position_or_len (bytes_eq word) (map (λ d. d.word) methods)) (length (map (λ d. d.word) methods)))
    (prefix_of_map (λ w. not (bytes_eq word w)) (λ (d : Declared). d.word) methods) refl
  where
    by_test : (place : ℕ) (b : Bool) → place ≡ position_or_len (λ d. bytes_eq word d.word) methods → nat_lt place (length (map (λ (d : Declared). d.word) methods)) ≡ b
        → at methods (cond b (Some place) None) ≡ method_named methods word
    by_test place true e is = ap (slice_get methods) e ∙ sym (find_at (λ d. bytes_eq word d.word) methods)
    by_test place false e is =
        let past : length methods ≤ place = omega (arith, ltb-false place (length (map (λ (d : Declared). d.word) methods)) is, length-map methods (λ (d : Declared). d.word)) in
        sym (slice_get_past methods place past) ∙ ap (slice_get methods) e ∙ sym (find_at (λ d. bytes_eq word d.word) methods)

pub named_at : (word : List ℕ) (methods : List Declared) (index : List (List ℕ)) (place : ℕ) (d : Declared) → index ≡ map (λ d. d.word) methods → Some place ≡ position (bytes_eq word) index
    → place < length index → Some (get_or methods place d) ≡ method_named methods word
named_at word methods index place d e is within =
    let inside : place < length methods = omega (arith, within, ap length e, length-map methods (λ (d : Declared). d.word)) in
    sym (slice_get-get_or methods place d inside) ∙ ap (at methods) is ∙ ap (λ (ws : List (List ℕ)). at methods (position (bytes_eq word) ws)) e ∙ first_is word methods

pub not_named : (word : List ℕ) (methods : List Declared) (index : List (List ℕ)) → index ≡ map (λ d. d.word) methods → None ≡ position (bytes_eq word) index → None ≡ method_named methods word
not_named word methods index e is = ap (at methods) is ∙ ap (λ (ws : List (List ℕ)). at methods (position (bytes_eq word) ws)) e ∙ first_is word methods
