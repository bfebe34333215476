-- One step more of what the kernel does to its parts.
use Rattle.std.proofs.Common.{◌≡◌, ℕ, ◌+◌, ◌^◌, max, Bool, true, false, nat_eq, if◌then◌else◌, List, [], ◌∷◌, ◌++◌, map, filter, fold, refl, sym, ap, ◌∙◌, arith, slice_get, bit_or}
use Rattle.std.specs.List.{range_with_len, list_any}
use Rattle.std.proofs.lemmas.List.{append_assoc, append-nil, map-append, map-id}
use Rattle.std.specs.Int.Bits.{or_zero_l, or_zero_r}
use Rattle.std.proofs.lemmas.List.Elements.{filter-append}
use Rattle.std.proofs.lemmas.List.FromFn.{map-range_with_len_more}
use Rattle.std.proofs.lemmas.List.Sums.{fold_push}
use Rattle.osek_core.specs.declared.tables.Action.{Action}
use Rattle.osek_core.specs.declared.tables.TaskRow.{TaskRow}
use Rattle.osek_core.specs.Kernel.Rules.{Rules, ceiling}
use Rattle.osek_core.specs.Kernel.Scheduler.{Scheduler}
use Rattle.osek_core.specs.Kernel.Status.{Answered}
use Rattle.osek_time.specs.Value.{alarm_set}
use Rattle.osek_model.specs.Acting.{act_action, act_list, lost_of}

-- one place more
pub range-more : (n : ℕ) → range_with_len 0 (n + 1) ≡ range_with_len 0 n ++ n ∷ []
range-more n =
    sym (map-id (range_with_len 0 (n + 1))) ∙ map-range_with_len_more (λ k. k) 0 n n (omega arith) ∙ ap (λ l. l ++ n ∷ []) (map-id (range_with_len 0 n))

pub fold-more : {S : Type 0} (f : S → ℕ → S) (s : S) (n : ℕ) → fold f s (range_with_len 0 (n + 1)) ≡ f (fold f s (range_with_len 0 n)) n
fold-more f s n = ap (fold f s) (range-more n) ∙ fold_push f s (range_with_len 0 n) n

pub filter-yes : (p : ℕ → Bool) (n : ℕ) → p n ≡ true → filter p (range_with_len 0 (n + 1)) ≡ filter p (range_with_len 0 n) ++ n ∷ []
filter-yes p n e = ap (filter p) (range-more n) ∙ filter-append p (range_with_len 0 n) (n ∷ []) ∙ ap (λ b. filter p (range_with_len 0 n) ++ (if b then n ∷ [] else [])) e

pub filter-no : (p : ℕ → Bool) (n : ℕ) → p n ≡ false → filter p (range_with_len 0 (n + 1)) ≡ filter p (range_with_len 0 n)
filter-no p n e = ap (filter p) (range-more n) ∙ filter-append p (range_with_len 0 n) (n ∷ []) ∙ ap (λ b. filter p (range_with_len 0 n) ++ (if b then n ∷ [] else [])) e ∙ append-nil (filter p (range_with_len 0 n))

-- one alarm more acts
pub acted-state : (rules : Rules) (actions : List Action) (s : Scheduler) (alarms : List ℕ) (alarm : ℕ) →
    (act_list rules actions s (alarms ++ alarm ∷ [])).scheduler ≡ (act_action rules (act_list rules actions s alarms).scheduler (slice_get actions alarm)).state
acted-state rules actions s [] alarm = refl
acted-state rules actions s (first ∷ alarms) alarm = acted-state rules actions (act_action rules s (slice_get actions first)).state alarms alarm

pub acted-lost : (rules : Rules) (actions : List Action) (s : Scheduler) (alarms : List ℕ) (alarm : ℕ) →
    (act_list rules actions s (alarms ++ alarm ∷ [])).lost ≡ (act_list rules actions s alarms).lost ++ lost_of (act_action rules (act_list rules actions s alarms).scheduler (slice_get actions alarm)) alarm
acted-lost rules actions s [] alarm = append-nil (lost_of (act_action rules s (slice_get actions alarm)) alarm)
acted-lost rules actions s (first ∷ alarms) alarm =
    let f = act_action rules s (slice_get actions first) in
    ap (λ l. lost_of f first ++ l) (acted-lost rules actions f.state alarms alarm)
    ∙ sym (append_assoc (lost_of f first) (act_list rules actions f.state alarms).lost (lost_of (act_action rules (act_list rules actions f.state alarms).scheduler (slice_get actions alarm)) alarm))

pub set-joins : (a : Answered Scheduler) (alarms : List ℕ) (alarm : ℕ) → alarm_set (alarms ++ lost_of a alarm) ≡ bit_or (alarm_set alarms) (alarm_set (lost_of a alarm))
set-joins a alarms alarm = by (nat_eq a.status 0)
  where
    or-nothing : (n : ℕ) → n ≡ bit_or n 0
    or-nothing n = sym (or_zero_r n)

    by : (b : Bool) → alarm_set (alarms ++ (if b then [] else alarm ∷ [])) ≡ bit_or (alarm_set alarms) (alarm_set (if b then [] else alarm ∷ []))
    by true = ap alarm_set (append-nil alarms) ∙ or-nothing (alarm_set alarms)
    by false = fold_push (λ set a. bit_or set (2 ^ a)) 0 alarms alarm ∙ ap (bit_or (alarm_set alarms)) (sym (or_zero_l (2 ^ alarm)))

-- one task more that uses the resource, or doesn't
pub ceiling-yes : (tasks : List TaskRow) (row : TaskRow) (resource : ℕ) → list_any (nat_eq resource) row.resources ≡ true →
    ceiling (tasks ++ row ∷ []) resource ≡ max (ceiling tasks resource) row.rule.priority
ceiling-yes tasks row resource e =
    let p : TaskRow → Bool = λ r. list_any (nat_eq resource) r.resources in
    let g : TaskRow → ℕ = λ r. r.rule.priority in
    ap (λ l. fold max 0 (map g l)) (filter-append p tasks (row ∷ []) ∙ ap (λ b. filter p tasks ++ (if b then row ∷ [] else [])) e)
    ∙ ap (fold max 0) (map-append g (filter p tasks) (row ∷ [])) ∙ fold_push max 0 (map g (filter p tasks)) row.rule.priority

pub ceiling-no : (tasks : List TaskRow) (row : TaskRow) (resource : ℕ) → list_any (nat_eq resource) row.resources ≡ false →
    ceiling (tasks ++ row ∷ []) resource ≡ ceiling tasks resource
ceiling-no tasks row resource e =
    let p : TaskRow → Bool = λ r. list_any (nat_eq resource) r.resources in
    let g : TaskRow → ℕ = λ r. r.rule.priority in
    ap (λ l. fold max 0 (map g l)) (filter-append p tasks (row ∷ []) ∙ ap (λ b. filter p tasks ++ (if b then row ∷ [] else [])) e ∙ append-nil (filter p tasks))
