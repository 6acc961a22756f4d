-- `write_identity` meets its contract: the identity is the table of its places.
use mathlib.Core.Path.{refl, ap, ◌∙◌}
use native.Mathlib.Omega.{arith}
use mathlib.Core.List.{List, ◌++◌}
use lib.ListN.{drop}
use lib.Seq.{length-take-le}
use Rattle.algebra.specs.Permutations.{identity}
use Rattle.algebra.proofs.Lists.{tabulated_none, tabulated_more, tabulated_all}
use Rattle.algebra.proofs.Permutations.{identity-perm}
use Rattle.random.proofs.Drawings.{over-taken}
use Rattle.random.proofs.draw.write_identity.Goals as goal

pub loop-j-init : goal.loop-j-init
loop-j-init c = tabulated_none _ _

pub loop-j-preserved : goal.loop-j-preserved
loop-j-preserved c = tabulated_more _ _ _ _ _ c.loop-j.invariant (omega arith) refl

pub returns : goal.returns
unfolding identity
returns c =
    let n = c.args.n in
    let d = c.args.out.now in
    let t = length-take-le n d c.requires.1 in
    ap (λ (z : List _). z ++ drop n d) (tabulated_all _ _ _ _ n (identity n) c.loop-j.invariant (omega arith) refl)
    ∙ over-taken (identity n) d n (identity-perm n).len c.requires.1
