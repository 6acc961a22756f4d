-- `copy_at` meets its contract: the part that was written goes back to its place.
use mathlib.Core.Path.{ap, ◌∙◌}
use Prim.Native.Nat.{◌-◌}
use native.Mathlib.Omega.{arith}
use lib.ListN.{length}
use borrow.Rule.Slice.PartMut.{put_mid}
use Rattle.algebra.proofs.Lists.{part_over}
use Rattle.algebra.proofs.output.copy_at.Goals as goal

pub returns : goal.returns
returns c = let g = c.args in
    let d = g.out.now in
    ap (put_mid g.at (length d - g.at) d) c.copy_into.ensures
    ∙ part_over g.list.now d g.at (length d - g.at) (omega arith) (omega arith)
