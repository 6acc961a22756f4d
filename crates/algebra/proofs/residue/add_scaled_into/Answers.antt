-- `add_scaled_into` meets its contract: R + c·V is the table of its entries, written one a turn.
use native.Mathlib.Omega.{arith}
use Rattle.algebra.specs.Residues.{modulus}
use Rattle.algebra.proofs.Lists.{tabulated_none, tabulated_more, tabulated_all}
use Rattle.algebra.proofs.Vectors.{tab-add_scaled}
use Rattle.algebra.proofs.residue.add_scaled_into.Goals as goal

pub loop-j-init : goal.loop-j-init
loop-j-init c = tabulated_none _ _

pub loop-j-preserved : goal.loop-j-preserved
loop-j-preserved c = tabulated_more _ _ _ _ _ c.loop-j.invariant (omega arith) c.plus_times.ensures

pub returns : goal.returns
returns c = let g = c.args in
    tabulated_all _ _ _ _ _ _ c.loop-j.invariant (omega arith) (tab-add_scaled modulus g.r.now g.c g.v.now (omega arith))
