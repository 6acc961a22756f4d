-- `called_zero` meets its contract: the first n of u are the U with U[σ[j]] = W[j], and A U is A_σ W.
use mathlib.Core.Path.{◌≡◌, ap, ◌∙◌, subst}
use mathlib.Core.List.{List, ◌++◌}
use Prim.Native.Nat.{ℕ}
use lib.ListN.{length, take}
use Rattle.matrices.specs.Matrices.{product}
use Rattle.algebra.specs.Permutations.{IsPerm, inverse, unpermute}
use Rattle.algebra.specs.Residues.{modulus}
use Rattle.algebra.proofs.Lists.{front}
use Rattle.matrices.proofs.Matrices.{length-product, product-unpermute}
use Rattle.algebra.proofs.Permutations.{length-permute, length-inverse}
use Rattle.sha256.specs.Standard.{digest_of}
use Rattle.round.proofs.register.called_zero.Goals as goal

pub returns : goal.returns
returns c = let s = c.args.sigma.now in
    let w = c.args.w.now in
    let n = c.args.a.now.n in
    let a = c.args.a.now.entries.now in
    let m = c.args.a.now.m in
    let h : IsPerm n s = subst (λ (k : ℕ). IsPerm k s) c.requires.1 c.requires.0 in
    let e : take n c.unpermute_into.new.out ≡ unpermute n w s =
    front (unpermute (length s) w s) _ _ n (length-permute w (inverse (length s) s) ∙ length-inverse (length s) s ∙ c.requires.1) c.unpermute_into.ensures
    ∙ ap (λ (k : ℕ). unpermute k w s) c.requires.1 in
    c.hash_two.ensures
    ∙ ap (λ (z : List ℕ). digest_of (s ++ z))
    (front (product modulus a n m (take n c.unpermute_into.new.out)) _ _ m (length-product modulus a n m _) c.product_into.ensures
    ∙ ap (product modulus a n m) e
    ∙ product-unpermute modulus a n m c.args.a.now.fits s w h c.requires.2)
