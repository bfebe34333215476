-- The four lines count what is reached: the entry, which calls no method with code.
use Rattle.std.proofs.Common.{◌≡◌, ℕ, zero, suc, ◌+◌, ◌<◌, List, [], ◌∷◌, length, map, Option, Some, None, refl, sym, ap, subst, ◌∙◌, arith}
use Rattle.std.specs.Prelude.{fold, is_some, is_none, count_by, slice_index_or, unwrap_or, Contains, ◌&&◌, if◌then◌else◌}
use Rattle.osek_core.specs.Bytecode.World.{InvokeStatic, Located, Code}
use Rattle.osek_core.specs.Bytecode.Application.{Application, TaskPlace, Reached, code_of, entry_of}
use Rattle.first_form.specs.declared.config.FirstConfig.{FirstConfig}
use Rattle.first_form.specs.declared.first_class.FirstClass.{FirstClass}
use Rattle.first_form.specs.declared.first_class.Op.{Op}
use Rattle.first_form.specs.declared.first_class.Placed.{Placed}
use Rattle.first_form.specs.declared.first_class.Op.TheVariants.{Const, Load, Store, Add, Sub, Mul, Invoke, Pop, Return}
use Rattle.first_form.specs.Application.{application_of, instruction_of, native_member, entry_member, located}
use Rattle.first_form.specs.Counts.{AreReached, CountsReached, first_summary}
use Rattle.first_form.specs.Reach.{IsReached, Initialiser, Entry, Target, target_of, instructions_of}
use Rattle.first_form.proofs.Headline.Input.{IsInput}
use Rattle.first_form.proofs.Headline.Inversion.{none_is_some}

-- what is in a list of one is the one
only_one : {X : Type 0} (one x : X) → Contains (one ∷ []) x → one ≡ x
only_one one x c = only_by c.0 c.1 c.2 where
  only_by : (k : ℕ) → k < 1 → slice_index_or (one ∷ []) k x ≡ x → one ≡ x
  only_by zero lt is = is
  only_by (suc k) lt is = absurd (omega (arith, lt))

none_contained : {X : Type 0} (x : X) → Contains [] x → ⊥
none_contained x c = let lt = c.1 in omega (arith, lt)

module _ (config : FirstConfig) (class : FirstClass) (input : IsInput config class) where
  abbrev source : Application
  source = application_of config class

  abbrev entry : Reached
  entry = record { domain = 0; method = entry_member class }

  abbrev task : TaskPlace
  task = record { domain = 0; entry = config.entry }

  native_no_target : target_of source (InvokeStatic (native_member class)) ≡ None
  native_no_target =
      let has_code = is_some (code_of source.world (native_member class)) in
      ap (λ o. if is_none o && has_code then Some (native_member class) else None) input.service

  no_target : (o : Op) → target_of source (instruction_of class o) ≡ None
  no_target (Const bits) = refl
  no_target (Load slot) = refl
  no_target (Store slot) = refl
  no_target Add = refl
  no_target Sub = refl
  no_target Mul = refl
  no_target Invoke = native_no_target
  no_target Pop = refl
  no_target Return = refl

  instructions_are : instructions_of source (entry_member class) ≡ map (located class) class.code
  instructions_are = ap (λ (code : Option Code). elim code [ None ↦ [] | Some c ↦ c.instructions ]) input.code

  none_targeted : (code : List Placed) (k : ℕ) (call : Located) → k < length (map (located class) code) → slice_index_or (map (located class) code) k call ≡ call → target_of source call.instruction ≡ None
  none_targeted [] k call lt is = absurd (omega (arith, lt))
  none_targeted (p ∷ more) zero call lt is = subst (λ (l : Located). target_of source l.instruction ≡ None) is (no_target p.op)
  none_targeted (p ∷ more) (suc k) call lt is = none_targeted more k call (omega (arith, lt)) is

  none_called : (call : Located) → Contains (instructions_of source (entry_member class)) call → target_of source call.instruction ≡ None
  none_called call c =
      let here = subst (λ code. Contains code call) instructions_are c in
      none_targeted class.code here.0 call here.1 here.2

  -- nothing else is reached
  is_entry : (method : Reached) → IsReached source method → entry ≡ method
  is_entry method (Initialiser first c) = absurd (none_contained first c)
  is_entry method (Entry place first c e) =
      let is_task : task ≡ place = only_one task place c in
      ap (λ o. unwrap_or o entry) (sym input.entry ∙ ap (entry_of source.world) is_task ∙ e)
  is_entry method (Target caller call target reached c e) =
      let is_caller : entry ≡ caller = is_entry caller reached in
      let there = subst (λ (r : Reached). Contains (instructions_of source r.method) call) (sym is_caller) c in
      absurd (none_is_some target (sym (none_called call there) ∙ e))

  entry_is_reached : IsReached source entry
  entry_is_reached = Entry task entry (0, omega arith, refl) input.entry

  pub entry_alone : AreReached source (entry ∷ [])
  entry_alone = record {
    are = λ method. (
      λ reached. (0, omega arith, is_entry method reached),
      λ c. subst (IsReached source) (only_one entry method c) entry_is_reached,
    );
    once = λ i j d lt within. absurd (omega (arith, lt, within));
  }

  none_counted : (code : List Placed) → count_by (λ l. is_some (target_of source l.instruction)) (map (located class) code) ≡ 0
  none_counted [] = refl
  none_counted (p ∷ more) =
      ap (λ o. fold (λ n l. n + (if is_some (target_of source l.instruction) then 1 else 0)) (0 + (if is_some o then 1 else 0)) (map (located class) more)) (no_target p.op)
      ∙ none_counted more

  pub counted : CountsReached source first_summary
  counted = record {
    reached = entry ∷ [];
    all = entry_alone;
    named = refl;
    methods = refl;
    direct_calls =
        sym (ap (λ n. 0 + n) (ap (λ code. count_by (λ l. is_some (target_of source l.instruction)) code) instructions_are ∙ none_counted class.code));
  }
