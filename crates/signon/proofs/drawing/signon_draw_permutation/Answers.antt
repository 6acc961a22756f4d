-- `signon_draw_permutation` hands on the answer of `draw_permutation`, whose contract fixes all but how it is written.
use native.Mathlib.Omega.{arith}
use Rattle.refusals.specs.Number.{SHAPE, DRAW}
use Rattle.refusals.specs.Buffer.{NONE}
use Rattle.refusals.proofs.Chain.{demand-most}
use Rattle.kinds.specs.Kinds.{within, alone}
use Rattle.signon.proofs.ForC.{draw_for_c}
use Rattle.signon.proofs.drawing.signon_draw_permutation.Goals as goal

pub returns : goal.returns
returns c = draw_for_c _ _ _ _ _ _ _ _ (demand-most DRAW (within alone.places c.args.n) SHAPE NONE 0 (omega arith) (omega arith)) c.of_count.ensures c.draw_permutation.ensures
