-- One list of jobs with their priorities stands for the lists of all priorities.
use Rattle.std.proofs.Common.{◌≡◌, ◌≢◌, ℕ, zero, suc, ◌+◌, ◌-◌, ◌<◌, ◌≤◌, nat_eq, List, [], ◌∷◌, ◌++◌, map, get_or, drop, set, fold, Option, Some, None, inl, inr, refl, sym, ap, ◌∙◌, subst, arith, Bool, true, false, if◌then◌else◌, length, sum_by, position, slice_get, option_map, All, IsSome, zero-add, append-nil}
use Rattle.std.specs.List.{range_with_len, position_from, remove}
use Rattle.std.proofs.Math.Nat.{sub-zero}
use Rattle.std.proofs.lemmas.Iterator.Adapters.{position_from-zero}
use Rattle.std.proofs.lemmas.Bool.{cases_lt}
use Rattle.std.proofs.lemmas.Bool.Decides.{eqb_tells, leb_tells}
use Rattle.std.proofs.lemmas.List.Elements.{filter-append}
use Rattle.std.proofs.lemmas.List.{map-append}
use Rattle.std.proofs.lemmas.List.Sums.{sum_by-set, sum_by-cons}
use Rattle.std.proofs.lemmas.List.FromFn.{get_or-map-range_with_len}
use Rattle.osek_core.specs.declared.scheduler.Job.{Job}
use Rattle.osek_core.specs.Core.Queue.{queue, queues, higher, top_job, without, without_first, with_first_moved}
use Rattle.osek_core.specs.Kernel.Scheduler.{first_job}
use Rattle.osek_core.specs.Kernel.State.{priorities}
use Rattle.osek_core.specs.Kernel.Invariant.{count_of}

-- the job is the first of the highest priority among these
pub record IsTop (jobs : List Job) (top : Job) : Type 0 where
  pub first : slice_get (queue jobs top.priority) 0 ≡ Some top.task
  pub above : (p : ℕ) → top.priority < p → queue jobs p ≡ []

-- the queues of a list that begins with a job
pub queue-same : (job : Job) (jobs : List Job) (p : ℕ) → job.priority ≡ p → queue (job ∷ jobs) p ≡ job.task ∷ queue jobs p
queue-same job jobs p e = elim (eqb_tells job.priority p) [ inl h ↦ rw h.0 refl | inr h ↦ absurd (h.1 e) ]

pub queue-other : (job : Job) (jobs : List Job) (p : ℕ) → job.priority ≢ p → queue (job ∷ jobs) p ≡ queue jobs p
queue-other job jobs p e = elim (eqb_tells job.priority p) [ inl h ↦ absurd (e h.1) | inr h ↦ rw h.0 refl ]

first-same : (job : Job) (jobs : List Job) (p : ℕ) → job.priority ≡ p → slice_get (queue (job ∷ jobs) p) 0 ≡ Some job.task
first-same job jobs p e = rw (queue-same job jobs p e) refl

top-single : (job : Job) → IsTop (job ∷ []) job
top-single job =
    record {
      first = first-same job [] job.priority refl;
      above = λ p lt. queue-other job [] p (omega arith);
    }

top_le : (job : Job) (jobs : List Job) (top : Job) → IsTop (job ∷ jobs) top → job.priority ≤ top.priority
top_le job jobs top h =
    elim (cases_lt top.priority job.priority) [
      | inl lt ↦ let e = queue-same job jobs job.priority refl in let k = h.above job.priority lt in cc
      | inr le ↦ le
    ]

top-later : (a b : Job) (jobs : List Job) (top : Job) → a.priority < b.priority → IsTop (b ∷ jobs) top → IsTop (a ∷ b ∷ jobs) top
top-later a b jobs top lt h =
    let le = top_le b jobs top h in
    record {
      first = rw (queue-other a (b ∷ jobs) top.priority (omega arith)) h.first;
      above = λ p k. queue-other a (b ∷ jobs) p (omega arith) ∙ h.above p k;
    }

top-earlier : (a b : Job) (jobs : List Job) (top : Job) → b.priority ≤ a.priority → IsTop (a ∷ jobs) top → IsTop (a ∷ b ∷ jobs) top
top-earlier a b jobs top le h =
    let most = top_le a jobs top h in
    let same_above : (p : ℕ) → a.priority < p → queue (a ∷ b ∷ jobs) p ≡ queue (a ∷ jobs) p =
    λ p lt. queue-other a (b ∷ jobs) p (omega arith) ∙ queue-other b jobs p (omega arith) ∙ sym (queue-other a jobs p (omega arith)) in
    record {
      first = (elim (cases_lt a.priority top.priority) [
        | inl lt ↦ rw (same_above top.priority lt) h.first
        | inr ge ↦ let e : a.priority ≡ top.priority = omega arith in first-same a (b ∷ jobs) top.priority e ∙ sym (first-same a jobs top.priority e) ∙ h.first
      ]);
      above = λ p k. same_above p (omega arith) ∙ h.above p k;
    }

pub fold_is_top : (job : Job) (jobs : List Job) (top : Job) → fold higher (Some job) jobs ≡ Some top → IsTop (job ∷ jobs) top
fold_is_top job [] top e = let same : job ≡ top = cc in subst (λ (j : Job). IsTop (job ∷ []) j) same (top-single job)
fold_is_top job (next ∷ jobs) top e =
    elim (leb_tells (suc job.priority) next.priority) [
      | inl h ↦ top-later job next jobs top h.1 (fold_is_top next jobs top (rw h.0 at e))
      | inr h ↦ top-earlier job next jobs top (omega arith) (fold_is_top job jobs top (rw h.0 at e))
    ]

-- every list is empty from a on
pub first_job-none : (q : ℕ → List ℕ) (a n : ℕ) → ((p : ℕ) → a ≤ p → q p ≡ []) → first_job (map q (range_with_len a n)) ≡ None
first_job-none q a zero h = refl
first_job-none q a (suc n) h =
    rw (first_job-none q (a + 1) n (λ p le. h p (omega arith)), h a (omega arith)) refl

-- the list of p has a first job, and the lists above are empty
pub first_job-some : (q : ℕ → List ℕ) (a n p t : ℕ) → a ≤ p → p < a + n → slice_get (q p) 0 ≡ Some t → ((r : ℕ) → p < r → q r ≡ []) → first_job (map q (range_with_len a n)) ≡ Some t
first_job-some q a zero p t le lt e above = absurd (omega arith)
first_job-some q a (suc n) p t le lt e above =
    elim (cases_lt a p) [
      | inl later ↦ rw (first_job-some q (a + 1) n p t (omega arith) (omega arith) e above) refl
      | inr here ↦
          let same : p ≡ a = omega arith in
          rw (first_job-none q (a + 1) n (λ r k. above r (omega arith))) (subst (λ r. slice_get (q r) 0 ≡ Some t) same e)
    ]

-- what holds of each job holds of the top one
fold-All : (P : Job → Type 0) (first : Job) (rest : List Job) (top : Job) → P first → All P rest → fold higher (Some first) rest ≡ Some top → P top
fold-All P first [] top h each e = let same : first ≡ top = cc in subst P same h
fold-All P first (next ∷ rest) top h each e =
    let later : All P rest = λ k d l. each (suc k) d (omega arith) in
    elim (leb_tells (suc first.priority) next.priority) [
      | inl t ↦ fold-All P next rest top (each 0 next (omega arith)) later (rw t.0 at e)
      | inr t ↦ fold-All P first rest top h later (rw t.0 at e)
    ]

pub top_job-All : (P : Job → Type 0) (jobs : List Job) (top : Job) → All P jobs → top_job jobs ≡ Some top → P top
top_job-All P [] top each e = absurd cc
top_job-All P (job ∷ jobs) top each e = fold-All P job jobs top (each 0 job (omega arith)) (λ k d l. each (suc k) d (omega arith)) e

fold-some : (first : Job) (rest : List Job) → fold higher (Some first) rest ≡ None → ⊥
fold-some first [] e = cc
fold-some first (next ∷ rest) e =
    elim (leb_tells (suc first.priority) next.priority) [
      | inl h ↦ fold-some next rest (rw h.0 at e)
      | inr h ↦ fold-some first rest (rw h.0 at e)
    ]

-- the top one is the first of its list
pub top_is_first : (jobs : List Job) (top : Job) → top_job jobs ≡ Some top → IsTop jobs top
top_is_first [] top e = absurd cc
top_is_first (job ∷ jobs) top e = fold_is_top job jobs top e

-- the first job of all lists is the top of the one
pub first_job-queues : (jobs : List Job) → All (λ job. job.priority < priorities) jobs → first_job (queues jobs) ≡ option_map (λ job. job.task) (top_job jobs)
first_job-queues [] below = refl
first_job-queues (job ∷ jobs) below = by_top (top_job (job ∷ jobs)) refl
  where
    by_top : (top : Option Job) → top_job (job ∷ jobs) ≡ top → first_job (queues (job ∷ jobs)) ≡ option_map (λ job. job.task) (top_job (job ∷ jobs))
    by_top None e = absurd (fold-some job jobs e)
    by_top (Some top) e =
        let is_top = fold_is_top job jobs top e in
        let lt = top_job-All (λ job. job.priority < priorities) (job ∷ jobs) top below e in
        rw e (first_job-some (queue (job ∷ jobs)) 0 priorities top.priority top.task (omega arith) (omega arith) is_top.first is_top.above)

-- two functions that differ at one number alone
pub map-range-set : {X : Type 0} (f g : ℕ → X) (a n p : ℕ) → ((q : ℕ) → q ≢ a + p → g q ≡ f q) → map g (range_with_len a n) ≡ set (map f (range_with_len a n)) p (g (a + p))
map-range-set f g a zero p h = refl
map-range-set f g a (suc n) zero h =
    let here : a + 0 ≡ a = omega arith in
    rw (here, rest (a + 1) n (λ q le. h q (omega arith))) refl
  where
    rest : (b m : ℕ) → ((q : ℕ) → b ≤ q → g q ≡ f q) → map g (range_with_len b m) ≡ map f (range_with_len b m)
    rest b zero k = refl
    rest b (suc m) k = rw (k b (omega arith), rest (b + 1) m (λ q le. k q (omega arith))) refl
map-range-set f g a (suc n) (suc p) h =
    let on : a + suc p ≡ a + 1 + p = omega arith in
    rw (on, h a (omega arith), map-range-set f g (a + 1) n p (λ q ne. h q (omega arith))) refl

pub queue-push : (jobs : List Job) (job : Job) (p : ℕ) → queue (jobs ++ job ∷ []) p ≡ queue jobs p ++ queue (job ∷ []) p
queue-push jobs job p = rw (filter-append, map-append) refl

-- a job more, behind all others
pub queues-push : (jobs : List Job) (job : Job) → queues (jobs ++ job ∷ []) ≡ set (queues jobs) job.priority (queue jobs job.priority ++ job.task ∷ [])
queues-push jobs job =
    let p = job.priority in
    let here : queue (jobs ++ job ∷ []) (0 + p) ≡ queue jobs p ++ job.task ∷ [] = rw (zero-add, queue-push jobs job p, queue-same job [] p refl) refl in
    subst (λ v. queues (jobs ++ job ∷ []) ≡ set (queues jobs) p v) here
    (map-range-set (queue jobs) (queue (jobs ++ job ∷ [])) 0 priorities p
    (λ q ne. rw (queue-push jobs job q, queue-other job [] q (omega arith), append-nil) refl))

queue-without : (jobs : List Job) (p : ℕ) → queue (without_first jobs p) p ≡ drop 1 (queue jobs p)
queue-without [] p = refl
queue-without (job ∷ jobs) p =
    elim (eqb_tells job.priority p) [
      | inl h ↦ rw h.0 refl
      | inr h ↦ rw (h.0, h.0, queue-without jobs p) refl
    ]

pub queue-without_other : (jobs : List Job) (p q : ℕ) → q ≢ p → queue (without_first jobs p) q ≡ queue jobs q
queue-without_other [] p q ne = refl
queue-without_other (job ∷ jobs) p q ne =
    elim (eqb_tells job.priority p) [
      | inl h ↦ rw h.0 (sym (queue-other job jobs q (λ e. ne (sym e ∙ h.1))))
      | inr h ↦ elim (eqb_tells job.priority q) [
        | inl k ↦ rw (h.0, k.0, queue-without_other jobs p q ne) refl
        | inr k ↦ rw (h.0, k.0, queue-without_other jobs p q ne) refl
      ]
    ]

-- the first job of a priority less
pub queues-without : (jobs : List Job) (p : ℕ) → queues (without_first jobs p) ≡ set (queues jobs) p (drop 1 (queue jobs p))
queues-without jobs p =
    let here : queue (without_first jobs p) (0 + p) ≡ drop 1 (queue jobs p) = rw zero-add (queue-without jobs p) in
    subst (λ v. queues (without_first jobs p) ≡ set (queues jobs) p v) here
    (map-range-set (queue jobs) (queue (without_first jobs p)) 0 priorities p (λ q ne. queue-without_other jobs p q (omega arith)))

-- the list of a priority is the one that is read there
pub jobs-at : (jobs : List Job) (p : ℕ) → p < priorities → get_or (queues jobs) p [] ≡ queue jobs p
jobs-at jobs p lt = get_or-map-range_with_len (queue jobs) 0 priorities p p [] lt (omega arith)

-- what `remove` takes out
pub remove-without : {X : Type 0} (test : X → Bool) (xs : List X) (i : ℕ) → position test xs ≡ Some i → remove xs i ≡ without test xs
remove-without {X} test xs i e = let h = from 0 xs (sym (position_from-zero test xs) ∙ e) in subst (λ j. remove xs j ≡ without test xs) (sub-zero i) h.1
  where
    from : (n : ℕ) (rest : List X) → position_from test n rest ≡ Some i → (n ≤ i) × (remove rest (i - n) ≡ without test rest)
    from n [] e = absurd cc
    from n (x ∷ rest) e = by (test x) refl (from (n + 1) rest)
      where
        by : (t : Bool) → test x ≡ t → (position_from test (n + 1) rest ≡ Some i → (n + 1 ≤ i) × (remove rest (i - (n + 1)) ≡ without test rest)) → (n ≤ i) × (remove (x ∷ rest) (i - n) ≡ without test (x ∷ rest))
        by true t later =
            let same : n ≡ i = let k = rw t at e in cc in
            let none : i - n ≡ 0 = omega (arith, same) in
            (omega (arith, same), rw (none, t) refl)
        by false t later =
            let more = later (rw t at e) in
            let next : i - n ≡ suc (i - (n + 1)) = omega (arith, more.0) in
            (omega (arith, more.0), rw (next, t) (ap (λ r. x ∷ r) more.1))

pub without-none : {X : Type 0} (test : X → Bool) (xs : List X) → position test xs ≡ None → without test xs ≡ xs
without-none {X} test xs e = from 0 xs (sym (position_from-zero test xs) ∙ e)
  where
    from : (n : ℕ) (rest : List X) → position_from test n rest ≡ None → without test rest ≡ rest
    from n [] e = refl
    from n (x ∷ rest) e = by (test x) refl (from (n + 1) rest)
      where
        by : (t : Bool) → test x ≡ t → (position_from test (n + 1) rest ≡ None → without test rest ≡ rest) → without test (x ∷ rest) ≡ x ∷ rest
        by true t later = let k = rw t at e in absurd cc
        by false t later = rw t (ap (λ r. x ∷ r) (later (rw t at e)))

-- what holds of each item holds of those that stay
pub All-cons : {X : Type 0} (P : X → Type 0) (x : X) (xs : List X) → P x → All P xs → All P (x ∷ xs)
All-cons P x xs h each zero d l = h
All-cons P x xs h each (suc k) d l = each k d (omega arith)

pub without-All : {X : Type 0} (P : X → Type 0) (test : X → Bool) (xs : List X) → All P xs → All P (without test xs)
without-All P test [] h = h
without-All {X} P test (x ∷ xs) h = by (test x) refl (without-All P test xs)
  where
    later : All P xs
    later k d l = h (suc k) d (omega arith)

    by : (t : Bool) → test x ≡ t → (All P xs → All P (without test xs)) → All P (without test (x ∷ xs))
    by true t rest = rw t later
    by false t rest = rw t (All-cons P x (without test xs) (h 0 x (omega arith)) (rest later))

-- a job more, before all others
pub queues-first : (jobs : List Job) (job : Job) → queues (job ∷ jobs) ≡ set (queues jobs) job.priority (job.task ∷ queue jobs job.priority)
queues-first jobs job =
    let p = job.priority in
    let here : queue (job ∷ jobs) (0 + p) ≡ job.task ∷ queue jobs p = ap (queue (job ∷ jobs)) (zero-add p) ∙ queue-same job jobs p refl in
    subst (λ v. queues (job ∷ jobs) ≡ set (queues jobs) p v) here
    (map-range-set (queue jobs) (queue (job ∷ jobs)) 0 priorities p (λ q ne. queue-other job jobs q (omega arith)))

-- all lists together have the jobs of the one
pub queues-total : (jobs : List Job) → All (λ job. job.priority < priorities) jobs → sum_by length (queues jobs) ≡ length jobs
queues-total [] below = refl
queues-total (job ∷ jobs) below =
    let lt = below 0 job (omega arith) in
    let more = queues-total jobs (λ k d l. below (suc k) d (omega arith)) in
    let at = jobs-at jobs job.priority lt in
    let sum = sum_by-set length (queues jobs) job.priority (job.task ∷ queue jobs job.priority) [] lt in
    ap (sum_by length) (queues-first jobs job) ∙ omega (arith, ap length at, more, sum)

-- a job stands in the list of its priority
pub job-counted : (jobs : List Job) (k : ℕ) (d : Job) → k < length jobs → 1 ≤ count_of (get_or jobs k d).task (queue jobs (get_or jobs k d).priority)
job-counted [] k d lt = absurd (omega arith)
job-counted (job ∷ jobs) zero d lt =
    rw (queue-same job jobs job.priority refl) (let h = sum_by-cons (λ y. if nat_eq job.task y then 1 else 0) job.task (queue jobs job.priority) in
    elim (eqb_tells job.task job.task) [ inl t ↦ let m = rw t.0 at h in omega (arith, m) | inr t ↦ absurd (t.1 refl) ])
job-counted (job ∷ jobs) (suc k) d lt =
    let t = (get_or jobs k d).task in
    let p = (get_or jobs k d).priority in
    let more = job-counted jobs k d (omega arith) in
    elim (eqb_tells job.priority p) [
      | inl h ↦ rw h.0 (let s = sum_by-cons (λ y. if nat_eq t y then 1 else 0) job.task (queue jobs p) in omega (arith, s, more))
      | inr h ↦ rw h.0 more
    ]

-- a list with a first job has one less without it
pub without-shorter : (jobs : List Job) (p : ℕ) → IsSome (slice_get (queue jobs p) 0) → length (without_first jobs p) + 1 ≡ length jobs
without-shorter [] p e = absurd cc
without-shorter (job ∷ jobs) p e =
    elim (eqb_tells job.priority p) [
      | inl h ↦ rw h.0 (omega arith)
      | inr h ↦ let more = without-shorter jobs p (subst (λ q. IsSome (slice_get q 0)) (queue-other job jobs p h.1) e) in rw h.0 (omega (arith, more))
    ]

pub moved-same : (jobs : List Job) (before after task : ℕ) → before ≢ after → record { task = task; priority = after } ∷ without_first jobs before ≡ with_first_moved jobs before after task
moved-same jobs before after task ne = elim (eqb_tells before after) [ inl h ↦ absurd (ne h.1) | inr h ↦ rw h.0 refl ]
