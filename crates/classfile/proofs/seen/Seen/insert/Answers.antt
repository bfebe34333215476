use Rattle.classfile.proofs.InOrder.{one_more}
use Rattle.classfile.proofs.seen.Seen.insert.Goals as goal

pub returns-clause-members : goal.returns-clause-members
returns-clause-members c =
    λ one. rw (← c.self.view_is) (one_more c.args.member one c.self.inside.members.keys c.insert.new.self.keys (c.in_ok-insert.ensures.updates.0 one))
