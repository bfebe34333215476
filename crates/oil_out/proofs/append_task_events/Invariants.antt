use Rattle.std.proofs.Common.{◌≡◌, ◌++◌, take, flat_map, codes}
use Rattle.oil_out.specs.OilText.{attribute, name_at}
use Rattle.oil_out.proofs.append_task_events.Given as goal

abbrev pub invariant-loop-place : goal.invariant-loop-place
invariant-loop-place l = l.out.items ≡ l.initial.out.items ++ flat_map (λ k. attribute (codes "EVENT") (codes "e_" ++ name_at l.tables.events k)) (take l.place-index l.events)
