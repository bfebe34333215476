-- The method of each line is bound.
use Rattle.std.proofs.Common.{◌≡◌, ℕ, suc, ◌+◌, List, map, take, get_or, Some, sym, ap, ◌∙◌, arith}
use Rattle.std.specs.Prelude.{zip}
use Rattle.std.proofs.lemmas.Option.{slice_get-get_or}
use Rattle.std.proofs.lemmas.List.{map_push}
use Rattle.mentions.specs.Bindings.{Entry, add, add_all}
use Rattle.mentions.proofs.Zipping.{first_ends, second_ends, one_more}
use Rattle.mentions.proofs.Adding.{add_last}
use Rattle.mentions.proofs.binding.Bindings.add_lines.Goals as goal

pub returns-in_default : goal.returns-in_default
returns-in_default g c =
    let ended = rw c.in_default.is at c.get.ensures.lookup in
    c.loop-n.invariant
    ∙ ap (λ (both : List (g.row.Line.Denot × g.row.Named.Denot)). add_all c.args.self.now (map (λ b. g.Line.Binds.member b.0 b.1) both)) (first_ends c.args.lines.now c.args.named.now c.loop-n.n ended.3)

pub loop-n-preserved : goal.loop-n-preserved
loop-n-preserved g c =
    let next : suc c.loop-n.n ≡ c.loop-n.n + 1 = omega arith in
    let found = rw c.in-Some.is at c.get.ensures.lookup in
    let line = slice_get-get_or c.args.lines.now c.loop-n.n c.in-Some.line.now found.3.0 ∙ ap Some (sym found.1) in
    let member : (g.row.Line.Denot × g.row.Named.Denot) → Entry = λ b. g.Line.Binds.member b.0 b.1 in
    let named = c.index-named-n.result in
    let last : g.row.Line.Denot × g.row.Named.Denot = (c.in-Some.line.now, get_or c.args.named.now c.loop-n.n named) in
    let both = zip (take c.loop-n.n c.args.lines.now) (take c.loop-n.n c.args.named.now) in
    let one = one_more c.args.lines.now c.args.named.now c.loop-n.n c.in-Some.line.now named line c.loop-n-test.true in
    let bound : (c.member-binding.result.0, c.member-binding.result.1) ≡ member last =
    c.member-binding.ensures ∙ ap (λ (name : g.row.Named.Denot). g.Line.Binds.member c.in-Some.line.now name) c.index-named-n.is in
    c.in_ok-add.ensures ∙ ap (λ (entries : List Entry). add entries (c.member-binding.result.0, c.member-binding.result.1)) c.loop-n.invariant
    ∙ ap (add (add_all c.args.self.now (map member both))) bound
    ∙ sym (add_last (map member both) c.args.self.now (member last))
    ∙ ap (add_all c.args.self.now) (sym (map_push member both last))
    ∙ ap (λ (all : List (g.row.Line.Denot × g.row.Named.Denot)). add_all c.args.self.now (map member all)) (sym one)
    ∙ ap (λ (k : ℕ). add_all c.args.self.now (map member (zip (take k c.args.lines.now) (take k c.args.named.now)))) next

pub returns : goal.returns
returns g c =
    c.loop-n.invariant
    ∙ ap (λ (both : List (g.row.Line.Denot × g.row.Named.Denot)). add_all c.args.self.now (map (λ b. g.Line.Binds.member b.0 b.1) both)) (second_ends c.args.lines.now c.args.named.now c.loop-n.n c.loop-n-test.false)
