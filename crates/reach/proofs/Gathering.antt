-- What the instructions mention, one after the other.
use Rattle.std.proofs.Common.{◌≡◌, ℕ, zero, suc, ◌+◌, ◌<◌, ◌≤◌, List, [], ◌∷◌, length, drop, get_or, Result, Ok, Err, refl, sym, ap, ◌∙◌, arith}
use Rattle.kes_text.specs.declared.refusal.Stop.{Stop}
use Rattle.kes_text.specs.declared.refusal.Stop.TheVariants.{Refused, NoMemory}
use Rattle.kes_text.specs.Answers.{◌>>=◌, OrNoMemory}
use Rattle.classfile.specs.ClassFile.{ClassInfo}
use Rattle.jcode.specs.declared.op.Ins.{Ins}
use Rattle.reaching.specs.declared.graph.Mention.{Mention}
use Rattle.mentions.specs.declared.called.Called.{Called}
use Rattle.mentions.specs.Mentioned.{mentioned}
use Rattle.mentions.specs.Setting.{Setting}
use Rattle.reach.specs.Methods.{place_of, called_at, with_called, gathered}

module _ (s : Setting) (domain own : ℕ) (file : ClassInfo) (base : ℕ) where
  abbrev called_by : Ins → Result Called Stop
  called_by ins = called_at (place_of base ins.pc) (mentioned s domain own file ins.op)

  abbrev further : Mention → List Ins → Result Called Stop → Result Mention Stop
  further mention code called = called >>= λ one. gathered s domain own file base (with_called mention one) code

  one : (mention : Mention) (ins : Ins) (code : List Ins) → gathered s domain own file base mention (ins ∷ code) ≡ further mention code (called_by ins)
  unfolding gathered
  one mention ins code = refl

  pub none_left : (mention : Mention) → gathered s domain own file base mention [] ≡ Ok mention
  unfolding gathered
  none_left mention = refl

  pub goes_on : (mention : Mention) (ins : Ins) (code : List Ins) (called : Called) → called_by ins ≡ Ok called
      → gathered s domain own file base mention (ins ∷ code) ≡ gathered s domain own file base (with_called mention called) code
  goes_on mention ins code called e = one mention ins code ∙ ap (further mention code) e

  pub stops : (mention : Mention) (ins : Ins) (code : List Ins) (stop : Stop) (whole : Result Mention Stop) → OrNoMemory (Err stop) (called_by ins)
      → gathered s domain own file base mention (ins ∷ code) ≡ whole → OrNoMemory (Err stop) whole
  stops mention ins code (Refused fault) whole h e = sym (one mention ins code ∙ ap (further mention code) (sym h)) ∙ e
  stops mention ins code NoMemory whole h e = tt
