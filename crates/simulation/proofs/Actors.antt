-- One actor of a state is set: it is read back, and the other ones are as before. On both sides.
use Rattle.std.proofs.Common.{◌≡◌, ◌≢◌, ◌<◌, ◌⊎◌, ℕ, inl, inr, length, refl, sym, ap, subst}
use Rattle.std.proofs.lemmas.Bool.Decides.{eqb_tells}
use Rattle.std.proofs.lemmas.List.{get_or-set_same, get_or-set_other, length-set}
use Rattle.osek_core.specs.declared.event.Who.{Who}
use Rattle.osek_core.specs.declared.event.Who.TheVariants.{Start, Task}
use Rattle.osek_core.specs.Bytecode.State as bytecode
use Rattle.csubset.specs.Machine.State as c

-- the actor is the start, or the job of one of so many tasks
abbrev pub IsThere : ℕ → Who → Type 0
IsThere tasks Start = Unit {0}
IsThere tasks (Task task) = task < tasks

abbrev task_number : Who → ℕ
task_number Start = 0
task_number (Task task) = task

abbrev is_start : Who → Type 0
is_start Start = Unit {0}
is_start (Task task) = ⊥

pub same_or_other : (who other : Who) → (other ≡ who) ⊎ (other ≢ who)
same_or_other Start Start = inl refl
same_or_other Start (Task n) = inr (λ e. subst is_start (sym e) tt)
same_or_other (Task n) Start = inr (λ e. subst is_start e tt)
same_or_other (Task n) (Task m) =
    elim (eqb_tells m n) [ inl e ↦ inl (ap Task e.1) | inr e ↦ inr (λ q. e.1 (ap task_number q)) ]

pub c_own : (s : c.State) (who : Who) (a : c.Actor) (tasks : ℕ) → length s.jobs ≡ tasks → IsThere tasks who → c.actor_of (c.set_actor s who a) who ≡ a
c_own s Start a tasks e there = refl
c_own s (Task n) a tasks e there = get_or-set_same s.jobs n a c.no_actor (subst (λ k. n < k) (sym e) there)

pub c_other : (s : c.State) (who other : Who) (a : c.Actor) → other ≢ who → c.actor_of (c.set_actor s who a) other ≡ c.actor_of s other
c_other s Start Start a ne = absurd (ne refl)
c_other s Start (Task m) a ne = refl
c_other s (Task n) Start a ne = refl
c_other s (Task n) (Task m) a ne = get_or-set_other s.jobs n m a c.no_actor (λ e. ne (ap Task e))

pub c_kept : (s : c.State) (who : Who) (a : c.Actor) → (c.set_actor s who a).kept ≡ s.kept
c_kept s Start a = refl
c_kept s (Task n) a = refl

pub c_jobs : (s : c.State) (who : Who) (a : c.Actor) → length (c.set_actor s who a).jobs ≡ length s.jobs
c_jobs s Start a = refl
c_jobs s (Task n) a = length-set s.jobs n a

pub bytecode_own : (s : bytecode.State) (who : Who) (a : bytecode.Actor) (tasks : ℕ) → length s.jobs ≡ tasks → IsThere tasks who → bytecode.actor_of (bytecode.set_actor s who a) who ≡ a
bytecode_own s Start a tasks e there = refl
bytecode_own s (Task n) a tasks e there = get_or-set_same s.jobs n a bytecode.no_actor (subst (λ k. n < k) (sym e) there)

pub bytecode_other : (s : bytecode.State) (who other : Who) (a : bytecode.Actor) → other ≢ who → bytecode.actor_of (bytecode.set_actor s who a) other ≡ bytecode.actor_of s other
bytecode_other s Start Start a ne = absurd (ne refl)
bytecode_other s Start (Task m) a ne = refl
bytecode_other s (Task n) Start a ne = refl
bytecode_other s (Task n) (Task m) a ne = get_or-set_other s.jobs n m a bytecode.no_actor (λ e. ne (ap Task e))

pub bytecode_jobs : (s : bytecode.State) (who : Who) (a : bytecode.Actor) → length (bytecode.set_actor s who a).jobs ≡ length s.jobs
bytecode_jobs s Start a = refl
bytecode_jobs s (Task n) a = length-set s.jobs n a

-- what stands of every actor: of the one that is set, and of the other ones
pub each_actor : (P : Who → Type 0) (who : Who) → P who → ((other : Who) → other ≢ who → P other) → (any : Who) → P any
each_actor P who own others any =
    elim (same_or_other who any) [ inl e ↦ subst P (sym e) own | inr ne ↦ others any ne ]
