-- The structs of the code as the records of the scheme.
use Rattle.scheme.specs.Round.{pair, opened}
use Rattle.round.specs.declared.Pair.{Pair}
use Rattle.round.specs.declared.Opened.{Opened}

abbrev pub as_pair : Pair → Rattle.scheme.specs.Round.Pair
as_pair x = pair x.vector.now x.permutation.now

abbrev pub as_opened : Opened → Rattle.scheme.specs.Round.Opened
as_opened o = opened o.commitment.now o.answer.now o.permutation.now
