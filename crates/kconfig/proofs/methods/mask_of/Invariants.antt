use Rattle.std.proofs.Common.{◌≡◌, map, drop}
use Rattle.kconfig.specs.Methods.{mask_with}
use Rattle.kconfig.proofs.methods.mask_of.Given as goal

abbrev pub invariant-loop-name : goal.invariant-loop-name
invariant-loop-name l =
    mask_with l.events l.mask (map (λ name. name.now) (drop l.name-index l.names)) ≡ mask_with l.events 0 (map (λ name. name.now) l.names)
