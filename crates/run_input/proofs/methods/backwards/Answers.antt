-- The method behind those that are left has its code.
use Rattle.std.proofs.Common.{[], ◌∷◌, ◌++◌, map, reverse, ap, ◌∙◌}
use Rattle.std.specs.Prelude.{All}
use Rattle.std.proofs.lemmas.List.Elements.{All-push, All-same}
use Rattle.actions.specs.Known.{counts_of, IsKnown}
use Rattle.method_code.specs.Method.{Method, method_of}
use Rattle.run_input.proofs.Turning.{one_more}
use Rattle.run_input.proofs.methods.backwards.Goals as goal

pub loop-one-preserved : goal.loop-one-preserved
loop-one-preserved c =
    let s = c.args.s.now in
    let known : Method → Type 0 = λ method. All (IsKnown (counts_of s.bound.config)) method.actions in
    let before = c.loop-one.methods.items in
    let method = c.in_ok-of.field-0 in
    record {
      code = one_more (method_of s) before c.push.new.self.items c.pop.new.self c.loop-one.typed c.in-Some.one (reverse (map (method_of s) c.args.typed)) c.in-Some.ensures
          (c.in_ok-push.ensures.items ∙ ap (λ (m : Method). before ++ m ∷ []) c.in_ok-of.ensures.code) c.loop-one.invariant.code;
      known = All-same known c.push.new.self.items _ c.in_ok-push.ensures.items (All-push known before method c.loop-one.invariant.known c.in_ok-of.ensures.known);
    }
