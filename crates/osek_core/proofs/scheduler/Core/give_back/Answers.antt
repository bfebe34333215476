use Rattle.std.proofs.Common.{◌≡◌, ◌≢◌, ℕ, ◌-◌, ◌<◌, is_some, List, Some, position, length, take, refl, sym, ap, ◌∙◌, subst, arith, vec_capacity, nat_eq, All, slice_get}
use Rattle.std.specs.List.{range_with_len}
use Rattle.osek_core.specs.declared.tables.TaskRule.{TaskRule}
use Rattle.osek_core.specs.declared.scheduler.Holding.{Holding}
use Rattle.osek_core.specs.Core.Value.{Scheduled}
use Rattle.osek_core.specs.Core.Queue.{with_first_moved, queue}
use Rattle.osek_core.specs.Core.Held.{without_last_taken, resources_of, highest_of}
use Rattle.osek_core.specs.Core.Kept.{priority_of, scheduler_of}
use Rattle.osek_core.specs.Kernel.Rules.{no_task}
use Rattle.osek_core.specs.Kernel.Scheduler.{is_running, held_by}
use Rattle.osek_core.specs.Kernel.Coherent.{raised}
use Rattle.osek_core.specs.Kernel.ResourceServices.{hold}
use Rattle.std.proofs.lemmas.List.{length-map}
use Rattle.std.proofs.lemmas.List.FromFn.{length-range_with_len}
use Rattle.osek_core.proofs.Queues.{without-All, jobs-at}
use Rattle.osek_core.proofs.Holdings.{apart-without, less-one, resources-less, without-other}
use Rattle.osek_core.proofs.Coherence.{raised-below}
use Rattle.osek_core.proofs.Scheduling.{rules_at, read_at, run-at, sound-at, scheduled-at, highest-raised, hold-view, hold-sound, sound-room}
use Rattle.osek_core.proofs.scheduler.Core.give_back.Goals as goal

pub raised_priority-after-requires : goal.raised_priority-after-requires
raised_priority-after-requires c =
    let i = c.self.invariant in
    let v = c.self.view_is in
    let f = c.self.inside in
    let rules = f.rules.items in
    let ceilings = f.ceilings.items in
    let controls = f.controls.items in
    let jobs = f.jobs.items in
    let holdings = f.holdings.items in
    let R = rules_at rules ceilings in
    let S = scheduler_of controls jobs holdings in
    let task = c.args.task in
    let run : position is_running controls ≡ Some task = rw (← v) at c.requires in
    let r = run-at rules ceilings controls jobs holdings (vec_capacity f.jobs) (vec_capacity f.holdings) task i run in
    let next : List Holding = without_last_taken holdings task in
    let taken = without-All (λ (h : Holding). h.resource < length ceilings) (λ (h : Holding). nat_eq h.task task) holdings i.taken in
    let items : c.remove_first_holding.new.holdings.items ≡ next = c.remove_first_holding.ensures.items in
    let same = resources-less holdings task ∙ ap (λ (l : List ℕ). take (length l - 1) l) (sym r.held) in
    let others = λ (q : ℕ) (ne : q ≢ task). without-other holdings task q ne in
    subst (λ (l : List Holding). All (λ h. h.resource < length c.deref-3.result.now) l) (sym (c.deref-4.ensures.value ∙ items)) (subst (λ (l : List ℕ). All (λ h. h.resource < length l) next) (sym c.deref-3.ensures.value) taken)

pub move_first_job-requires : goal.move_first_job-requires
move_first_job-requires c =
    let i = c.self.invariant in
    let v = c.self.view_is in
    let f = c.self.inside in
    let rules = f.rules.items in
    let ceilings = f.ceilings.items in
    let controls = f.controls.items in
    let jobs = f.jobs.items in
    let holdings = f.holdings.items in
    let R = rules_at rules ceilings in
    let S = scheduler_of controls jobs holdings in
    let task = c.args.task in
    let run : position is_running controls ≡ Some task = rw (← v) at c.requires in
    let r = run-at rules ceilings controls jobs holdings (vec_capacity f.jobs) (vec_capacity f.holdings) task i run in
    let next : List Holding = without_last_taken holdings task in
    let taken = without-All (λ (h : Holding). h.resource < length ceilings) (λ (h : Holding). nat_eq h.task task) holdings i.taken in
    let items : c.remove_first_holding.new.holdings.items ≡ next = c.remove_first_holding.ensures.items in
    let same = resources-less holdings task ∙ ap (λ (l : List ℕ). take (length l - 1) l) (sym r.held) in
    let others = λ (q : ℕ) (ne : q ≢ task). without-other holdings task q ne in
    let rule = read_at rules task c.index.result.now no_task r.ruled c.index.ensures in
    let own : c.index.result.now.priority ≡ priority_of rules task = ap (λ (k : TaskRule). k.priority) rule in
    let before : c.raised_priority-before.result ≡ highest_of (priority_of rules task) ceilings holdings task =
    c.raised_priority-before.ensures ∙ ap (λ p. highest_of p c.deref.result.now c.deref-2.result.now task) own ∙ ap (λ l. highest_of (priority_of rules task) l c.deref-2.result.now task) c.deref.ensures.value ∙ ap (λ l. highest_of (priority_of rules task) ceilings l task) c.deref-2.ensures.value in
    let lead = subst (λ p. slice_get (queue jobs p) 0 ≡ Some task) (sym (before ∙ highest-raised rules ceilings holdings task))
    (subst (λ l. slice_get l 0 ≡ Some task) (jobs-at jobs (raised R task (resources_of holdings task)) (raised-below R task (resources_of holdings task) i.lawful)) r.leads) in
    ap is_some lead

pub invariant_of-self : goal.invariant_of-self
invariant_of-self c =
    let i = c.self.invariant in
    let v = c.self.view_is in
    let f = c.self.inside in
    let rules = f.rules.items in
    let ceilings = f.ceilings.items in
    let controls = f.controls.items in
    let jobs = f.jobs.items in
    let holdings = f.holdings.items in
    let R = rules_at rules ceilings in
    let S = scheduler_of controls jobs holdings in
    let task = c.args.task in
    let run : position is_running controls ≡ Some task = rw (← v) at c.requires in
    let r = run-at rules ceilings controls jobs holdings (vec_capacity f.jobs) (vec_capacity f.holdings) task i run in
    let next : List Holding = without_last_taken holdings task in
    let taken = without-All (λ (h : Holding). h.resource < length ceilings) (λ (h : Holding). nat_eq h.task task) holdings i.taken in
    let items : c.remove_first_holding.new.holdings.items ≡ next = c.remove_first_holding.ensures.items in
    let same = resources-less holdings task ∙ ap (λ (l : List ℕ). take (length l - 1) l) (sym r.held) in
    let others = λ (q : ℕ) (ne : q ≢ task). without-other holdings task q ne in
    let rule = read_at rules task c.index.result.now no_task r.ruled c.index.ensures in
    let own : c.index.result.now.priority ≡ priority_of rules task = ap (λ (k : TaskRule). k.priority) rule in
    let before : c.raised_priority-before.result ≡ highest_of (priority_of rules task) ceilings holdings task =
    c.raised_priority-before.ensures ∙ ap (λ p. highest_of p c.deref.result.now c.deref-2.result.now task) own ∙ ap (λ l. highest_of (priority_of rules task) l c.deref-2.result.now task) c.deref.ensures.value ∙ ap (λ l. highest_of (priority_of rules task) ceilings l task) c.deref-2.ensures.value in
    let after : c.raised_priority-after.result ≡ highest_of (priority_of rules task) ceilings next task =
    c.raised_priority-after.ensures ∙ ap (λ p. highest_of p c.deref-3.result.now c.deref-4.result.now task) own ∙ ap (λ l. highest_of (priority_of rules task) l c.deref-4.result.now task) c.deref-3.ensures.value ∙ ap (λ l. highest_of (priority_of rules task) ceilings l task) (c.deref-4.ensures.value ∙ items) in
    let moved = c.move_first_job.ensures.items ∙ ap (λ p. with_first_moved jobs p c.raised_priority-after.result task) before ∙ ap (λ p. with_first_moved jobs (highest_of (priority_of rules task) ceilings holdings task) p task) after in
    let room : vec_capacity f.jobs ≡ vec_capacity c.move_first_job.new.jobs = sym c.move_first_job.ensures.room in
    let held = take (length (held_by S task) - 1) (held_by S task) in
    let long : task < length S.held = rw (length-map (range_with_len 0 (length controls)) (resources_of holdings), length-range_with_len) r.there in
    let one = λ (q : ℕ). less-one S.held task (length (held_by S task) - 1) q long (i.coherent.one_holder q) in
    sound-at rules ceilings controls controls _ _ next _ _ _ refl moved items
    (sound-room rules ceilings controls (with_first_moved jobs (highest_of (priority_of rules task) ceilings holdings task) (highest_of (priority_of rules task) ceilings next task) task) next (vec_capacity f.jobs) _ (vec_capacity f.holdings) _ room (let cap = c.remove_first_holding.ensures.room in omega (arith, cap))
    (hold-sound rules ceilings controls jobs holdings next (vec_capacity f.jobs) (vec_capacity f.holdings) task held i run same others one (without-All (λ (h : Holding). h.task < length controls) (λ (h : Holding). nat_eq h.task task) holdings i.holders) taken (apart-without holdings task i.apart)))

pub returns : goal.returns
returns c =
    let i = c.self.invariant in
    let v = c.self.view_is in
    let f = c.self.inside in
    let rules = f.rules.items in
    let ceilings = f.ceilings.items in
    let controls = f.controls.items in
    let jobs = f.jobs.items in
    let holdings = f.holdings.items in
    let R = rules_at rules ceilings in
    let S = scheduler_of controls jobs holdings in
    let task = c.args.task in
    let run : position is_running controls ≡ Some task = rw (← v) at c.requires in
    let r = run-at rules ceilings controls jobs holdings (vec_capacity f.jobs) (vec_capacity f.holdings) task i run in
    let next : List Holding = without_last_taken holdings task in
    let taken = without-All (λ (h : Holding). h.resource < length ceilings) (λ (h : Holding). nat_eq h.task task) holdings i.taken in
    let items : c.remove_first_holding.new.holdings.items ≡ next = c.remove_first_holding.ensures.items in
    let same = resources-less holdings task ∙ ap (λ (l : List ℕ). take (length l - 1) l) (sym r.held) in
    let others = λ (q : ℕ) (ne : q ≢ task). without-other holdings task q ne in
    let rule = read_at rules task c.index.result.now no_task r.ruled c.index.ensures in
    let own : c.index.result.now.priority ≡ priority_of rules task = ap (λ (k : TaskRule). k.priority) rule in
    let before : c.raised_priority-before.result ≡ highest_of (priority_of rules task) ceilings holdings task =
    c.raised_priority-before.ensures ∙ ap (λ p. highest_of p c.deref.result.now c.deref-2.result.now task) own ∙ ap (λ l. highest_of (priority_of rules task) l c.deref-2.result.now task) c.deref.ensures.value ∙ ap (λ l. highest_of (priority_of rules task) ceilings l task) c.deref-2.ensures.value in
    let after : c.raised_priority-after.result ≡ highest_of (priority_of rules task) ceilings next task =
    c.raised_priority-after.ensures ∙ ap (λ p. highest_of p c.deref-3.result.now c.deref-4.result.now task) own ∙ ap (λ l. highest_of (priority_of rules task) l c.deref-4.result.now task) c.deref-3.ensures.value ∙ ap (λ l. highest_of (priority_of rules task) ceilings l task) (c.deref-4.ensures.value ∙ items) in
    let moved = c.move_first_job.ensures.items ∙ ap (λ p. with_first_moved jobs p c.raised_priority-after.result task) before ∙ ap (λ p. with_first_moved jobs (highest_of (priority_of rules task) ceilings holdings task) p task) after in
    let room : vec_capacity f.jobs ≡ vec_capacity c.move_first_job.new.jobs = sym c.move_first_job.ensures.room in
    let held = take (length (held_by S task) - 1) (held_by S task) in
    scheduled-at rules ceilings controls controls _ _ next _ (hold R S task held) refl moved items
    (hold-view rules ceilings controls jobs holdings next task held i.lawful r.there same others)
    ∙ ap (λ (x : Scheduled). record { rules = x.rules; scheduler = hold x.rules x.scheduler task (take (length (held_by x.scheduler task) - 1) (held_by x.scheduler task)) }) v
