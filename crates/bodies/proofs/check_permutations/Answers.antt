-- `check_permutations` meets its contract: no permutation before the k-th is refused, and that one starts at k·n.
use Rattle.std.proofs.Common.{◌≡◌, refl, sym, ap, ◌∙◌, arith}
use Rattle.refusals.specs.Buffer.{buffer_number}
use Rattle.refusals.specs.Told.{means}
use Rattle.refusals.proofs.Chain.{below_none, below_more, below-stops}
use Rattle.algebra.proofs.Lists.{stretch-fits}
use Rattle.bodies.specs.Bodies.{permutation_at, permutations}
use Rattle.bodies.proofs.Loops.{permutation-fine, permutation_refused}
use Rattle.bodies.proofs.check_permutations.Goals as goal

pub loop-k-init : goal.loop-k-init
loop-k-init c = below_none _

pub returns-then-not-is_permutation : goal.returns-then-not-is_permutation
unfolding permutations
returns-then-not-is_permutation c = let g = c.args in
    let f = stretch-fits g.n _ _ c.loop-k-test.true in
    ap means c.refuse.ensures
    ∙ below-stops (permutation_at (buffer_number g.buffer) g.n g.at g.list.now) _ c.loop-k.invariant _ c.loop-k-test.true
    (permutation_refused _ _ _ g.list.now _ _ refl (omega arith) c.is_permutation.ensures c.if-not-is_permutation.true)

pub loop-k-preserved : goal.loop-k-preserved
loop-k-preserved c = let g = c.args in
    let f = stretch-fits g.n _ _ c.loop-k-test.true in
    below_more (permutation_at (buffer_number g.buffer) g.n g.at g.list.now) _ c.loop-k.invariant
    (permutation-fine _ _ _ g.list.now _ _ refl (omega arith) c.is_permutation.ensures c.if-not-is_permutation.false)

pub returns : goal.returns
unfolding permutations
returns c = let e : c.loop-k.k ≡ c.args.count = omega arith in
    sym (rw e at c.loop-k.invariant)
