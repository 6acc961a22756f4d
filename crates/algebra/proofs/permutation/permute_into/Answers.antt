-- `permute_into` meets its contract: V_θ is the table of its entries, written one a turn.
use mathlib.Core.Path.{ap}
use Prim.Native.Nat.{ℕ}
use native.Mathlib.Omega.{arith}
use lib.ListN.{get_or}
use Rattle.algebra.proofs.Lists.{tabulated_none, tabulated_more, tabulated_all}
use Rattle.algebra.proofs.Permutations.{below, tab-permute}
use Rattle.algebra.proofs.permutation.permute_into.Goals as goal

pub loop-j-init : goal.loop-j-init
loop-j-init c = tabulated_none _ _

pub bounds-v-from : goal.bounds-v-from
bounds-v-from c = let b = below _ c.args.theta.now c.requires.0 _ c.loop-j-test.true in
    omega arith

pub loop-j-preserved : goal.loop-j-preserved
loop-j-preserved c = let v = c.args.v.now in
    tabulated_more _ _ _ _ _ c.loop-j.invariant (omega arith) (ap (λ (k : ℕ). get_or v k 0) c.from.ensures)

pub returns : goal.returns
returns c = let g = c.args in
    tabulated_all _ _ _ _ _ _ c.loop-j.invariant (omega arith) (tab-permute g.v.now g.theta.now)
