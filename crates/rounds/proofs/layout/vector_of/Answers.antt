-- `vector_of` meets its contract: the first n of the round are R.
use Rattle.rounds.proofs.Cuts.{vector-cut}
use Rattle.rounds.proofs.layout.vector_of.Goals as goal

pub returns : goal.returns
returns c = vector-cut c.args.n c.args.k c.args.choices.now
