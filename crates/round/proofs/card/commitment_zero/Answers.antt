-- `commitment_zero` meets its contract: the first m of the room are A R.
use mathlib.Core.Path.{ap, ◌∙◌}
use mathlib.Core.List.{List, ◌++◌}
use Prim.Native.Nat.{ℕ}
use Rattle.matrices.specs.Matrices.{product}
use Rattle.algebra.specs.Residues.{modulus}
use Rattle.algebra.proofs.Lists.{front}
use Rattle.matrices.proofs.Matrices.{length-product}
use Rattle.sha256.specs.Standard.{digest_of}
use Rattle.scheme.specs.Round.{committed0}
use Rattle.round.proofs.card.commitment_zero.Goals as goal

pub returns : goal.returns
unfolding committed0
returns c = let a = c.args.a.now in
    let x = c.args.x in
    c.hash_two.ensures
    ∙ ap (λ (z : List ℕ). digest_of (x.permutation.now ++ z))
    (front (product modulus a.entries.now a.n a.m x.vector.now) _ _ a.m (length-product modulus a.entries.now a.n a.m x.vector.now) c.product_into.ensures)
