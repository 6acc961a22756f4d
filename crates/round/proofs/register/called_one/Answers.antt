-- `called_one` meets its contract: the first n of the rooms are V_τ and W - c·V_τ.
use mathlib.Core.Path.{refl, ap, ◌∙◌}
use mathlib.Core.List.{List, ◌++◌}
use Prim.Native.Nat.{ℕ}
use native.Mathlib.Omega.{arith}
use lib.ListN.{length, take}
use Rattle.algebra.specs.Residues.{modulus, sub_scaled}
use Rattle.algebra.proofs.Lists.{front}
use Rattle.algebra.proofs.Permutations.{length-permute}
use Rattle.algebra.proofs.Vectors.{length-sub_scaled}
use Rattle.sha256.specs.Standard.{digest_of}
use Rattle.round.proofs.Rooms.{front-permute}
use Rattle.round.proofs.register.called_one.Goals as goal

pub returns : goal.returns
returns c = let g = c.args in
    let t = g.tau.now in
    let x = take (length t) c.permute_into.new.out in
    let e = front-permute g.v.now t _ _ (length t) refl c.permute_into.ensures in
    let l = ap length e ∙ length-permute g.v.now t in
    c.hash_two.ensures
    ∙ ap (λ (z : List ℕ). digest_of (t ++ z))
    (front (sub_scaled modulus g.w.now g.c x) _ _ (length t) (length-sub_scaled modulus g.w.now g.c x (omega arith) ∙ omega arith) c.sub_scaled_into.ensures
    ∙ ap (sub_scaled modulus g.w.now g.c) e)
