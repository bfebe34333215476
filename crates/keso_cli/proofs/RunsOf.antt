-- The run of an input: its methods are few, its names are those of its application, and its script's moves are there.
use Rattle.std.proofs.Common.{◌≡◌, ℕ, ◌+◌, ◌^◌, ◌<◌, ◌≤◌, Bool, true, false, List, [], ◌∷◌, ◌++◌, map, length, length-append, filter_map, Option, Some, None, Result, Ok, Err, refl, ap, arith}
use Rattle.std.specs.Prelude.{All, if◌then◌else◌}
use Rattle.std.specs.List.{cons_option, list_any}
use Rattle.std.specs.Result.{result_ok}
use Rattle.std.proofs.lemmas.List.{length-map}
use Rattle.kes_text.specs.declared.refusal.Refusal.{Refusal}
use Rattle.kes_text.specs.declared.refusal.Stop.{Stop}
use Rattle.kes_text.specs.Answers.{◌>>=◌}
use Rattle.jworld.specs.Classes.{World}
use Rattle.kconfig.specs.declared.config.Config.{Config}
use Rattle.mentions.specs.Setting.{Setting}
use Rattle.method_code.specs.Method.{method_of}
use Rattle.method_typing.specs.declared.method.Typed.{Typed}
use Rattle.method_typing.specs.Method.{method_typed}
use Rattle.reaching.specs.declared.pair.Pair.{Pair}
use Rattle.reaching.specs.Order.{is_same, add, add_all}
use Rattle.reach.specs.declared.reached.Reached.{Reached}
use Rattle.reach.specs.Pairs.{pairs_of}
use Rattle.reach.specs.Reach.{unless, reached_by, reached_or_refused, reach_of}
use Rattle.reach.specs.Typings.{in_any_domain, methods_of, typings_of}
use Rattle.reach.proofs.Few.{are_few}
use Rattle.run_names.specs.Methods.{method_name}
use Rattle.run_names.specs.Objects.{names_of}
use Rattle.script.specs.declared.line.Line.{Line}
use Rattle.script.specs.InForm.{IsLine}
use Rattle.script.proofs.ReadForm.{in_form}
use Rattle.keso_cli.specs.Traced.{most_moves, script_in}

-- ---- methods

longer_by : (test : Bool) (pairs : List Pair) (pair : Pair) → length (if test then pairs else pairs ++ pair ∷ []) ≤ length pairs + 1
longer_by true pairs pair = omega arith
longer_by false pairs pair = let more = length-append pairs (pair ∷ []) in omega (more, arith)

added : (pairs more : List Pair) → length (add_all pairs more) ≤ length pairs + length more
added pairs [] = omega arith
added pairs (pair ∷ more) =
    let one = longer_by (list_any (is_same pair) pairs) pairs pair in
    let all = added (add pairs pair) more in
    omega (one, all, arith)

at_most_by : {Y : Type 0} (found : Option Y) (others : List Y) → length (cons_option found others) ≤ length others + 1
at_most_by None others = omega arith
at_most_by (Some y) others = omega arith

at_most : {X Y : Type 0} (f : X → Option Y) (xs : List X) → length (filter_map f xs) ≤ length xs
at_most f [] = omega arith
at_most f (x ∷ xs) = let one = at_most_by (f x) (filter_map f xs) in let some = at_most f xs in omega (one, some, arith)

typed_of : (files : World) (pairs : List Pair) → length (typings_of files pairs) ≤ length pairs
typed_of files pairs =
    let typed = at_most (λ (pair : Pair). result_ok (method_typed files pair.method)) (methods_of pairs) in
    let methods = added [] (map in_any_domain pairs) in
    let many = length-map pairs in_any_domain in
    omega (typed, methods, many, arith)

abbrev typed_in : Result Reached Stop → ℕ
typed_in (Ok reached) = length reached.typed
typed_in (Err stop) = 0

by_fault : (s : Setting) (pairs : List Pair) (fault : Option Refusal) → length pairs ≤ 1048577 → typed_in (unless fault (reached_by s pairs)) ≤ 1048577
by_fault s pairs None few = let typed = typed_of s.files pairs in omega (typed, few, arith)
by_fault s pairs (Some fault) few = omega arith

by_pairs : (s : Setting) (found : Result (List Pair) Stop) → ((pairs : List Pair) → found ≡ Ok pairs → length pairs ≤ 1048577) → typed_in (found >>= reached_or_refused s) ≤ 1048577
by_pairs s (Ok pairs) few = by_fault s pairs _ (few pairs refl)
by_pairs s (Err stop) few = omega arith

all_typed : (s : Setting) → typed_in (reach_of s) ≤ 1048577
unfolding reach_of
all_typed s = by_pairs s (pairs_of s) (are_few s)

-- what is reached has few methods
pub few_typed : (s : Setting) (reached : Reached) → reach_of s ≡ Ok reached → length reached.typed < 2 ^ 32
few_typed s reached e = let few = all_typed s in let same = ap typed_in e in omega (few, same, arith)

-- ---- names

pub same_methods : (s : Setting) (typed : List Typed) → map (method_name s.files) (map (λ one. one.method) typed) ≡ map (λ method. method_name s.files method.id) (map (method_of s) typed)
same_methods s [] = refl
same_methods s (one ∷ typed) = ap (λ (names : List (List ℕ)). method_name s.files one.method ∷ names) (same_methods s typed)

-- ---- lines

pub lines_in_form : (config : Config) (script : List ℕ) (lines : List Line) → script_in config script ≡ Ok lines → All (IsLine (names_of config)) lines
unfolding script_in
lines_in_form config script lines e = in_form (names_of config) most_moves script lines e
