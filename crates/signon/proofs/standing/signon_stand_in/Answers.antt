-- `signon_stand_in` hands on the answer of `stand_in`, whose contract fixes all but how it is written.
use Rattle.signon.proofs.ForC.{stand_in_for_c}
use Rattle.signon.proofs.standing.signon_stand_in.Goals as goal

pub returns : goal.returns
returns c = stand_in_for_c _ _ _ _ _ _ _ _ _ c.of_count.ensures c.stand_in.ensures
