-- `permutation_of` meets its contract: the n after R are σ.
use Rattle.rounds.proofs.Cuts.{permutation-cut}
use Rattle.rounds.proofs.layout.permutation_of.Goals as goal

pub returns : goal.returns
returns c = permutation-cut c.args.n c.args.k c.args.choices.now c.requires
