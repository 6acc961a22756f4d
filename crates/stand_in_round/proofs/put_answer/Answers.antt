-- `put_answer` meets its contract: the part that was written goes back to its place.
use mathlib.Core.Path.{ap, ◌∙◌}
use Prim.Native.Nat.{◌-◌}
use native.Mathlib.Omega.{arith}
use lib.ListN.{length}
use borrow.Rule.Slice.PartMut.{put_mid}
use Rattle.stand_in_round.proofs.Laid.{answer-over}
use Rattle.stand_in_round.proofs.put_answer.Goals as goal

pub returns : goal.returns
returns c = let d = c.args.out.now in
    let x = c.args.x in
    ap (put_mid c.args.at (length d - c.args.at) d) c.stand_in_answer_into.ensures
    ∙ answer-over c.args.v.now c.args.c c.args.bit x.vector.now x.permutation.now d c.args.at (length d - c.args.at) x.even c.requires.0 (omega arith) (omega arith)
