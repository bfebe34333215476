use Rattle.std.proofs.Common.{◌≡◌, ◌≢◌, ℕ, ◌<◌, ◌++◌, is_some, ◌∷◌, [], List, true, false, is_ok, Some, position, length, refl, sym, ap, ◌∙◌, subst, arith, vec_capacity, slice_get}
use Rattle.std.specs.List.{range_with_len}
use Rattle.osek_core.specs.declared.tables.TaskRule.{TaskRule}
use Rattle.osek_core.specs.declared.scheduler.Holding.{Holding}
use Rattle.osek_core.specs.Core.Value.{Scheduled}
use Rattle.osek_core.specs.Core.Queue.{with_first_moved, queue}
use Rattle.osek_core.specs.Core.Held.{resources_of, highest_of}
use Rattle.osek_core.specs.Core.Kept.{priority_of, scheduler_of}
use Rattle.osek_core.specs.Kernel.Rules.{no_task}
use Rattle.osek_core.specs.Kernel.Scheduler.{is_running, held_by}
use Rattle.osek_core.specs.Kernel.Coherent.{raised}
use Rattle.osek_core.specs.Kernel.ResourceServices.{hold, is_held}
use Rattle.std.proofs.lemmas.List.{length-map}
use Rattle.std.proofs.lemmas.List.FromFn.{length-range_with_len}
use Rattle.osek_core.proofs.Queues.{jobs-at, All-cons}
use Rattle.osek_core.proofs.Holdings.{apart-take, spare-left, take-one, resources-same, resources-other, held-any}
use Rattle.osek_core.proofs.Coherence.{raised-below}
use Rattle.osek_core.proofs.Scheduling.{rules_at, read_at, run-at, sound-at, scheduled-at, highest-raised, hold-view, hold-sound, sound-room}
use Rattle.osek_core.proofs.scheduler.Core.take.Goals as goal

pub move_first_job-requires : goal.move_first_job-requires
move_first_job-requires c =
    let i = c.self.invariant in
    let v = c.self.view_is in
    let f = c.self.inside in
    let rules = f.rules.items in
    let ceilings = f.ceilings.items in
    let controls = f.controls.items in
    let jobs = f.jobs.items in
    let holdings = f.holdings.items in
    let R = rules_at rules ceilings in
    let S = scheduler_of controls jobs holdings in
    let task = c.args.task in
    let run : position is_running controls ≡ Some task = rw (← v) at c.requires.runs in
    let r = run-at rules ceilings controls jobs holdings (vec_capacity f.jobs) (vec_capacity f.holdings) task i run in
    let resource = c.args.resource in
    let known : resource < length ceilings = rw (← v) at c.requires.resource in
    let free : is_held S resource ≡ false = rw (← v) at c.requires.free in
    let free_list = sym (held-any holdings (length controls) resource i.holders) ∙ free in
    let next : List Holding = record { task = task; resource = resource } ∷ holdings in
    let taken = All-cons (λ (h : Holding). h.resource < length ceilings) (record { task = task; resource = resource }) holdings known i.taken in
    let spare = spare-left holdings resource (length ceilings) free_list known i.taken i.apart in
    let ok : is_ok c.insert.result ≡ true = c.insert.ensures.succeeds (omega (arith, spare, i.spacious, f.holdings.ok.0)) in
    let items : c.insert.new.self.items ≡ next = rw ok at c.insert.ensures.items in
    let same = resources-same (record { task = task; resource = resource }) holdings task refl ∙ ap (λ l. l ++ resource ∷ []) (sym r.held) in
    let others = λ (q : ℕ) (ne : q ≢ task). resources-other (record { task = task; resource = resource }) holdings q (λ h. ne (sym h)) in
    let rule = read_at rules task c.index.result.now no_task r.ruled c.index.ensures in
    let own : c.index.result.now.priority ≡ priority_of rules task = ap (λ (k : TaskRule). k.priority) rule in
    let before : c.raised_priority-before.result ≡ highest_of (priority_of rules task) ceilings holdings task =
    c.raised_priority-before.ensures ∙ ap (λ p. highest_of p c.deref.result.now c.deref-2.result.now task) own ∙ ap (λ l. highest_of (priority_of rules task) l c.deref-2.result.now task) c.deref.ensures.value ∙ ap (λ l. highest_of (priority_of rules task) ceilings l task) c.deref-2.ensures.value in
    let lead = subst (λ p. slice_get (queue jobs p) 0 ≡ Some task) (sym (before ∙ highest-raised rules ceilings holdings task))
    (subst (λ l. slice_get l 0 ≡ Some task) (jobs-at jobs (raised R task (resources_of holdings task)) (raised-below R task (resources_of holdings task) i.lawful)) r.leads) in
    ap is_some lead

pub invariant_of-self : goal.invariant_of-self
invariant_of-self c =
    let i = c.self.invariant in
    let v = c.self.view_is in
    let f = c.self.inside in
    let rules = f.rules.items in
    let ceilings = f.ceilings.items in
    let controls = f.controls.items in
    let jobs = f.jobs.items in
    let holdings = f.holdings.items in
    let R = rules_at rules ceilings in
    let S = scheduler_of controls jobs holdings in
    let task = c.args.task in
    let run : position is_running controls ≡ Some task = rw (← v) at c.requires.runs in
    let r = run-at rules ceilings controls jobs holdings (vec_capacity f.jobs) (vec_capacity f.holdings) task i run in
    let resource = c.args.resource in
    let known : resource < length ceilings = rw (← v) at c.requires.resource in
    let free : is_held S resource ≡ false = rw (← v) at c.requires.free in
    let free_list = sym (held-any holdings (length controls) resource i.holders) ∙ free in
    let next : List Holding = record { task = task; resource = resource } ∷ holdings in
    let taken = All-cons (λ (h : Holding). h.resource < length ceilings) (record { task = task; resource = resource }) holdings known i.taken in
    let spare = spare-left holdings resource (length ceilings) free_list known i.taken i.apart in
    let ok : is_ok c.insert.result ≡ true = c.insert.ensures.succeeds (omega (arith, spare, i.spacious, f.holdings.ok.0)) in
    let items : c.insert.new.self.items ≡ next = rw ok at c.insert.ensures.items in
    let same = resources-same (record { task = task; resource = resource }) holdings task refl ∙ ap (λ l. l ++ resource ∷ []) (sym r.held) in
    let others = λ (q : ℕ) (ne : q ≢ task). resources-other (record { task = task; resource = resource }) holdings q (λ h. ne (sym h)) in
    let rule = read_at rules task c.index.result.now no_task r.ruled c.index.ensures in
    let own : c.index.result.now.priority ≡ priority_of rules task = ap (λ (k : TaskRule). k.priority) rule in
    let before : c.raised_priority-before.result ≡ highest_of (priority_of rules task) ceilings holdings task =
    c.raised_priority-before.ensures ∙ ap (λ p. highest_of p c.deref.result.now c.deref-2.result.now task) own ∙ ap (λ l. highest_of (priority_of rules task) l c.deref-2.result.now task) c.deref.ensures.value ∙ ap (λ l. highest_of (priority_of rules task) ceilings l task) c.deref-2.ensures.value in
    let after : c.raised_priority-after.result ≡ highest_of (priority_of rules task) ceilings next task =
    c.raised_priority-after.ensures ∙ ap (λ p. highest_of p c.deref-3.result.now c.deref-4.result.now task) own ∙ ap (λ l. highest_of (priority_of rules task) l c.deref-4.result.now task) c.deref-3.ensures.value ∙ ap (λ l. highest_of (priority_of rules task) ceilings l task) (c.deref-4.ensures.value ∙ items) in
    let moved = c.move_first_job.ensures.items ∙ ap (λ p. with_first_moved jobs p c.raised_priority-after.result task) before ∙ ap (λ p. with_first_moved jobs (highest_of (priority_of rules task) ceilings holdings task) p task) after in
    let room : vec_capacity f.jobs ≡ vec_capacity c.move_first_job.new.jobs = sym c.move_first_job.ensures.room in
    let held = held_by S task ++ resource ∷ [] in
    let long : task < length S.held = rw (length-map (range_with_len 0 (length controls)) (resources_of holdings), length-range_with_len) r.there in
    let one = λ (q : ℕ). take-one S.held task resource q long free (i.coherent.one_holder q) in
    sound-at rules ceilings controls controls _ _ next _ _ _ refl moved items
    (sound-room rules ceilings controls (with_first_moved jobs (highest_of (priority_of rules task) ceilings holdings task) (highest_of (priority_of rules task) ceilings next task) task) next (vec_capacity f.jobs) _ (vec_capacity f.holdings) _ room (let cap = c.insert.ensures.capacity in cap)
    (hold-sound rules ceilings controls jobs holdings next (vec_capacity f.jobs) (vec_capacity f.holdings) task held i run same others one (All-cons (λ (h : Holding). h.task < length controls) (record { task = task; resource = resource }) holdings r.there i.holders) taken (apart-take holdings resource free_list i.apart)))

pub returns : goal.returns
returns c =
    let i = c.self.invariant in
    let v = c.self.view_is in
    let f = c.self.inside in
    let rules = f.rules.items in
    let ceilings = f.ceilings.items in
    let controls = f.controls.items in
    let jobs = f.jobs.items in
    let holdings = f.holdings.items in
    let R = rules_at rules ceilings in
    let S = scheduler_of controls jobs holdings in
    let task = c.args.task in
    let run : position is_running controls ≡ Some task = rw (← v) at c.requires.runs in
    let r = run-at rules ceilings controls jobs holdings (vec_capacity f.jobs) (vec_capacity f.holdings) task i run in
    let resource = c.args.resource in
    let known : resource < length ceilings = rw (← v) at c.requires.resource in
    let free : is_held S resource ≡ false = rw (← v) at c.requires.free in
    let free_list = sym (held-any holdings (length controls) resource i.holders) ∙ free in
    let next : List Holding = record { task = task; resource = resource } ∷ holdings in
    let taken = All-cons (λ (h : Holding). h.resource < length ceilings) (record { task = task; resource = resource }) holdings known i.taken in
    let spare = spare-left holdings resource (length ceilings) free_list known i.taken i.apart in
    let ok : is_ok c.insert.result ≡ true = c.insert.ensures.succeeds (omega (arith, spare, i.spacious, f.holdings.ok.0)) in
    let items : c.insert.new.self.items ≡ next = rw ok at c.insert.ensures.items in
    let same = resources-same (record { task = task; resource = resource }) holdings task refl ∙ ap (λ l. l ++ resource ∷ []) (sym r.held) in
    let others = λ (q : ℕ) (ne : q ≢ task). resources-other (record { task = task; resource = resource }) holdings q (λ h. ne (sym h)) in
    let rule = read_at rules task c.index.result.now no_task r.ruled c.index.ensures in
    let own : c.index.result.now.priority ≡ priority_of rules task = ap (λ (k : TaskRule). k.priority) rule in
    let before : c.raised_priority-before.result ≡ highest_of (priority_of rules task) ceilings holdings task =
    c.raised_priority-before.ensures ∙ ap (λ p. highest_of p c.deref.result.now c.deref-2.result.now task) own ∙ ap (λ l. highest_of (priority_of rules task) l c.deref-2.result.now task) c.deref.ensures.value ∙ ap (λ l. highest_of (priority_of rules task) ceilings l task) c.deref-2.ensures.value in
    let after : c.raised_priority-after.result ≡ highest_of (priority_of rules task) ceilings next task =
    c.raised_priority-after.ensures ∙ ap (λ p. highest_of p c.deref-3.result.now c.deref-4.result.now task) own ∙ ap (λ l. highest_of (priority_of rules task) l c.deref-4.result.now task) c.deref-3.ensures.value ∙ ap (λ l. highest_of (priority_of rules task) ceilings l task) (c.deref-4.ensures.value ∙ items) in
    let moved = c.move_first_job.ensures.items ∙ ap (λ p. with_first_moved jobs p c.raised_priority-after.result task) before ∙ ap (λ p. with_first_moved jobs (highest_of (priority_of rules task) ceilings holdings task) p task) after in
    let room : vec_capacity f.jobs ≡ vec_capacity c.move_first_job.new.jobs = sym c.move_first_job.ensures.room in
    let held = held_by S task ++ resource ∷ [] in
    scheduled-at rules ceilings controls controls _ _ next _ (hold R S task held) refl moved items
    (hold-view rules ceilings controls jobs holdings next task held i.lawful r.there same others)
    ∙ ap (λ (x : Scheduled). record { rules = x.rules; scheduler = hold x.rules x.scheduler task (held_by x.scheduler task ++ resource ∷ []) }) v
