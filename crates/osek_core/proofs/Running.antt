-- Which task runs, as the control blocks tell it.
use Rattle.std.proofs.Common.{◌⊎◌, ◌≡◌, ◌≢◌, ℕ, zero, suc, ◌+◌, ◌-◌, ◌<◌, ◌≤◌, Bool, true, false, List, [], ◌∷◌, length, get_or, set, Option, Some, None, inl, inr, refl, sym, ap, ◌∙◌, subst, arith, position, get_or-set_same, get_or-set_other}
use Rattle.std.specs.List.{position_from}
use Rattle.std.proofs.lemmas.Iterator.Adapters.{position_from-zero}
use Rattle.std.proofs.lemmas.Bool.Decides.{eqb_tells}
use Rattle.osek_core.specs.declared.control.TaskControl.{TaskControl}
use Rattle.osek_core.specs.declared.control.TaskState.{TaskState}
use Rattle.osek_core.specs.declared.control.TaskState.TheVariants.{Suspended, Ready, Running, Waiting}
use Rattle.osek_core.specs.Kernel.Scheduler.{idle, is_running}

-- the state of a task that is there after its block was set, and of another
pub set_here : (controls : List TaskControl) (task : ℕ) (control : TaskControl) → task < length controls → get_or (set controls task control) task idle ≡ control
set_here controls task control lt = get_or-set_same controls task control idle lt

pub set_there : (controls : List TaskControl) (task k : ℕ) (control : TaskControl) → k ≢ task → get_or (set controls task control) k idle ≡ get_or controls k idle
set_there controls task k control ne = get_or-set_other controls task k control idle ne

-- who runs after a task's block was set: that task, or one that ran before
pub running-after : (controls : List TaskControl) (task k : ℕ) (control : TaskControl) → task < length controls → (get_or (set controls task control) k idle).state ≡ Running →
    ((k ≡ task) × (control.state ≡ Running)) ⊎ ((k ≢ task) × ((get_or controls k idle).state ≡ Running))
running-after controls task k control lt run =
    elim (eqb_tells k task) [
      | inl e ↦ let P : ℕ → Type 0 = λ n. (get_or (set controls task control) n idle).state ≡ Running in
          inl (e.1, rw (set_here controls task control lt) at (subst P e.1 run))
      | inr ne ↦ inr (ne.1, rw (set_there controls task k control ne.1) at run)
    ]

runs : (control : TaskControl) → is_running control ≡ true → control.state ≡ Running
runs control e = by control.state refl
  where
    by : (state : TaskState) → control.state ≡ state → control.state ≡ Running
    by Suspended k = let h = rw k at e in absurd cc
    by Ready k = let h = rw k at e in absurd cc
    by Running k = k
    by (Waiting events) k = let h = rw k at e in absurd cc

running-from : (n : ℕ) (controls : List TaskControl) (task : ℕ) → position_from is_running n controls ≡ Some task → (n ≤ task) × (task - n < length controls) × ((get_or controls (task - n) idle).state ≡ Running)
running-from n [] task e = absurd cc
running-from n (control ∷ controls) task e = by (is_running control) refl (running-from (n + 1) controls task)
  where
    here : n ≡ task → is_running control ≡ true → (n ≤ task) × (task - n < length (control ∷ controls)) × ((get_or (control ∷ controls) (task - n) idle).state ≡ Running)
    here same t = let zero_is : task - n ≡ 0 = omega arith in (omega arith, rw zero_is (omega arith), rw zero_is (runs control t))

    later : (n + 1 ≤ task) × (task - (n + 1) < length controls) × ((get_or controls (task - (n + 1)) idle).state ≡ Running) → (n ≤ task) × (task - n < length (control ∷ controls)) × ((get_or (control ∷ controls) (task - n) idle).state ≡ Running)
    later h = let next : task - n ≡ suc (task - (n + 1)) = omega (arith, h.0) in (omega (arith, h.0), rw next (omega (arith, h.1)), rw next h.2)

    by : (t : Bool) → is_running control ≡ t → (position_from is_running (n + 1) controls ≡ Some task → (n + 1 ≤ task) × (task - (n + 1) < length controls) × ((get_or controls (task - (n + 1)) idle).state ≡ Running)) → (n ≤ task) × (task - n < length (control ∷ controls)) × ((get_or (control ∷ controls) (task - n) idle).state ≡ Running)
    by true t more = let k = rw t at e in here (cc) t
    by false t more = later (more (rw t at e))

-- the running task is there
pub running-at : (controls : List TaskControl) (task : ℕ) → position is_running controls ≡ Some task → (task < length controls) × ((get_or controls task idle).state ≡ Running)
running-at controls task e =
    let h = running-from 0 controls task (sym (position_from-zero is_running controls) ∙ e) in
    let z : task - 0 ≡ task = omega arith in
    (omega (arith, h.1, z), subst (λ k. (get_or controls k idle).state ≡ Running) z h.2)

-- no task runs where none is found
none-from : (n : ℕ) (controls : List TaskControl) → position_from is_running n controls ≡ None → (k : ℕ) → (get_or controls k idle).state ≡ Running → ⊥
none-from n [] e k run = cc
none-from n (control ∷ controls) e k run = by k (is_running control) refl run (λ j. none-from (n + 1) controls)
  where
    found : (state : TaskState) → state ≡ Running → control.state ≡ state → is_running control ≡ true
    found state e f = rw (f ∙ e) refl

    by : (j : ℕ) (t : Bool) → is_running control ≡ t → (get_or (control ∷ controls) j idle).state ≡ Running → (ℕ → position_from is_running (n + 1) controls ≡ None → (i : ℕ) → (get_or controls i idle).state ≡ Running → ⊥) → ⊥
    by j true t r more = let h = rw t at e in cc
    by zero false t r more = let h = found control.state r refl in cc
    by (suc j) false t r more = more 0 (rw t at e) j r

pub none-runs : (controls : List TaskControl) → position is_running controls ≡ None → (k : ℕ) → (get_or controls k idle).state ≡ Running → ⊥
none-runs controls e = none-from 0 controls (sym (position_from-zero is_running controls) ∙ e)

pub position-none : (controls : List TaskControl) → ((k : ℕ) → (get_or controls k idle).state ≡ Running → ⊥) → position is_running controls ≡ None
position-none controls rest = by (position is_running controls) refl
  where
    by : (o : Option ℕ) → position is_running controls ≡ o → position is_running controls ≡ None
    by None e = e
    by (Some task) e = absurd (rest task (running-at controls task e).1)

-- where nobody runs, the one that is set running is found
pub running-found : (controls : List TaskControl) (task : ℕ) (control : TaskControl) → control.state ≡ Running → task < length controls → ((k : ℕ) → (get_or controls k idle).state ≡ Running → ⊥) →
    position is_running (set controls task control) ≡ Some task
running-found controls task control run lt rest = by (position is_running (set controls task control)) refl
  where
    by : (o : Option ℕ) → position is_running (set controls task control) ≡ o → position is_running (set controls task control) ≡ Some task
    by None e = absurd (none-runs (set controls task control) e task (rw (set_here controls task control lt) run))
    by (Some other) e = elim (running-after controls task other control lt (running-at (set controls task control) other e).1) [
      | inl h ↦ e ∙ ap Some h.0
      | inr h ↦ absurd (rest other h.1)
    ]
