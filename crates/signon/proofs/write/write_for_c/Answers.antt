-- `write_for_c` hands on the answer of `write_frame`, whose contract fixes all but how it is written.
use Rattle.signon.proofs.ForC.{write_for_c}
use Rattle.signon.proofs.write.write_for_c.Goals as goal

pub returns : goal.returns
returns c = write_for_c _ _ _ _ _ _ _ _ c.of_count.ensures c.write_frame.ensures
