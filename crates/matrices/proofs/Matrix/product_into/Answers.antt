-- `product_into` meets its contract: A X is the table of its rows, written one a turn.
use mathlib.Core.Path.{refl, ap, ◌∙◌}
use mathlib.Core.List.{List}
use Prim.Native.Nat.{ℕ}
use native.Mathlib.Omega.{arith}
use Rattle.algebra.specs.Residues.{modulus}
use Rattle.matrices.specs.Matrices.{row_times, product}
use Rattle.algebra.proofs.Lists.{tabulated_none, tabulated_more, tabulated_all}
use Rattle.matrices.proofs.Matrix.product_into.Goals as goal

pub loop-i-init : goal.loop-i-init
loop-i-init c = tabulated_none _ _

pub loop-i-preserved : goal.loop-i-preserved
loop-i-preserved c = tabulated_more _ _ _ _ _ c.loop-i.invariant (omega arith)
    (c.row_times.ensures ∙ ap (λ (row : List ℕ). row_times modulus row c.args.x.now c.loop-i.i) c.row.ensures.cut)

pub returns : goal.returns
unfolding product
returns c = tabulated_all _ _ _ _ _ _ c.loop-i.invariant (omega arith) refl
