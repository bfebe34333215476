-- The calls of a code, one instruction after the other.
use Rattle.std.proofs.Common.{◌≡◌, ℕ, ◌+◌, ◌-◌, ◌^◌, ◌<◌, List, [], ◌∷◌, ◌++◌, map, take, length, option_to_list, refl, sym, ap, ◌∙◌, append_assoc}
use Rattle.std.specs.Prelude.{min}
use Rattle.classfile.specs.ClassFile.{ClassInfo}
use Rattle.jcode.specs.declared.op.Ins.{Ins}
use Rattle.reaching.specs.declared.pair.Pair.{Pair}
use Rattle.mentions.specs.Setting.{Setting}
use Rattle.reach.specs.declared.calls.Call.{Call}
use Rattle.reach.specs.declared.calls.Site.{Site}
use Rattle.reach.specs.Calls.{call_in, calls_from}

module _ (s : Setting) (pairs : List Pair) (site : Site) (file : ClassInfo) where
  abbrev pub next : ℕ → ℕ
  next index = min (index + 1) (2 ^ 32 - 1)

  one : (index : ℕ) (ins : Ins) (code : List Ins)
      → calls_from s pairs site file index (ins ∷ code) ≡ option_to_list (call_in s pairs site file ins index) ++ calls_from s pairs site file (next index) code
  unfolding calls_from
  one index ins code = refl

  pub none_left : (index : ℕ) → calls_from s pairs site file index [] ≡ []
  unfolding calls_from
  none_left index = refl

  pub one_more : (calls : List Call) (index : ℕ) (ins : Ins) (code : List Ins)
      → (calls ++ option_to_list (call_in s pairs site file ins index)) ++ calls_from s pairs site file (next index) code ≡ calls ++ calls_from s pairs site file index (ins ∷ code)
  one_more calls index ins code =
      append_assoc calls (option_to_list (call_in s pairs site file ins index)) (calls_from s pairs site file (next index) code)
      ∙ ap (λ (more : List Call). calls ++ more) (sym (one index ins code))
