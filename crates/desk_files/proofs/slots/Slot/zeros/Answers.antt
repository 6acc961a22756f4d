-- `zeros` meets its contract: what is taken from the front of zeros is zeros.
use Rattle.std.proofs.lemmas.List.{take-replicate}
use Rattle.desk_files.proofs.slots.Slot.zeros.Goals as goal

pub returns : goal.returns
returns c = take-replicate c.args.size 16384 0 c.requires
