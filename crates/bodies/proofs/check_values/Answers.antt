-- `check_values` meets its contract: no residue before the place j is refused.
use Rattle.std.proofs.Common.{◌≡◌, sym, ap, ◌∙◌, arith, length}
use Rattle.refusals.specs.Buffer.{buffer_number}
use Rattle.refusals.specs.Told.{means}
use Rattle.refusals.proofs.Chain.{below_none, below_more, below-stops}
use Rattle.bodies.specs.Bodies.{residue_at, values}
use Rattle.bodies.proofs.Loops.{residue_fine, residue_refused}
use Rattle.bodies.proofs.check_values.Goals as goal

pub loop-j-init : goal.loop-j-init
loop-j-init c = below_none _

pub returns-then-x-ge-MODULUS : goal.returns-then-x-ge-MODULUS
unfolding values
returns-then-x-ge-MODULUS c = let g = c.args in
    ap means c.refuse.ensures
    ∙ below-stops (residue_at (buffer_number g.buffer) g.at g.list.now) _ c.loop-j.invariant _ c.loop-j-test.true
    (residue_refused _ _ g.list.now _ c.if-x-ge-MODULUS.true)

pub loop-j-preserved : goal.loop-j-preserved
loop-j-preserved c = let g = c.args in
    below_more (residue_at (buffer_number g.buffer) g.at g.list.now) _ c.loop-j.invariant (residue_fine _ _ g.list.now _ c.if-x-ge-MODULUS.false)

pub returns : goal.returns
unfolding values
returns c = let e : c.loop-j.j ≡ length c.args.list.now = omega arith in
    sym (rw e at c.loop-j.invariant)
