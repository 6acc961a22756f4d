-- `copy_into` meets its contract: a list is the table of its entries, written one a turn.
use mathlib.Core.Path.{refl}
use native.Mathlib.Omega.{arith}
use lib.ListN.{length}
use Rattle.algebra.proofs.Lists.{tab_of, tabulated_none, tabulated_more, tabulated_all}
use Rattle.algebra.proofs.output.copy_into.Goals as goal

pub loop-j-init : goal.loop-j-init
loop-j-init c = tabulated_none _ _

pub loop-j-preserved : goal.loop-j-preserved
loop-j-preserved c = tabulated_more _ _ _ _ _ c.loop-j.invariant (omega arith) refl

pub returns : goal.returns
returns c = let l = c.args.list.now in
    tabulated_all _ _ _ _ _ _ c.loop-j.invariant (omega arith) (tab_of (length l) l _ refl (λ j h. refl))
