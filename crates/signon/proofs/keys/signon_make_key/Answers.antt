-- `signon_make_key` hands on the answer of `make_key`, whose contract fixes all but how it is written.
use native.Mathlib.Omega.{arith}
use Rattle.refusals.specs.Number.{PERM, DRAW}
use Rattle.refusals.proofs.Chain.{most-more}
use Rattle.readers.proofs.Outcomes.{reading-most}
use Rattle.signon.proofs.ForC.{draw_for_c}
use Rattle.signon.proofs.keys.signon_make_key.Goals as goal

pub returns : goal.returns
returns c = draw_for_c _ _ _ _ _ _ _ _ (most-more PERM DRAW _ (omega arith) (reading-most _ _ _)) c.of_count.ensures c.make_key.ensures
