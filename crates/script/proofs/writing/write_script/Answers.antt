use Rattle.std.proofs.Common.{◌≡◌, List, ℕ, sym, subst, arith}
use Rattle.std.proofs.lemmas.Grind.{common_steps}
use Rattle.script.specs.Writing.{script_text}
use Rattle.script.specs.ReadsBack.{ReadsBack}
use Rattle.script.proofs.ReadBack.{reads_back}
use Rattle.script.proofs.writing.write_script.Goals as goal
use Rattle.script.proofs.writing.write_script.Goals.{in_default, in-len1-up+in_ok-append_joined}

pub returns-clause-back : goal.returns-clause-back
returns-clause-back c = λ is.
    let back : List ℕ → Type 0 = λ text. ReadsBack c.args.names.now c.args.lines.now text in
    let text : c.if-lines-lt1.out.items ≡ script_text c.args.names.now c.args.lines.now =
    elim c.if-lines-lt1.branch [ in_default w ↦ grind (arith, common_steps) | in-len1-up+in_ok-append_joined w ↦ grind (arith, common_steps) ] in
    subst back (sym text) (reads_back c.args.names.now c.args.lines.now is)
