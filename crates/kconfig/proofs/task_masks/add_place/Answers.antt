use Rattle.kconfig.proofs.Filling.{mask_more}
use Rattle.kconfig.proofs.task_masks.add_place.Goals as goal

pub returns : goal.returns
returns c = λ t p t_less p_less. mask_more c.args.masks.now c.args.task c.args.place t p (rw c.told-masks t_less) c.requires.place
