-- `lift_into` meets its contract: the first n of the room are πσ, a permutation.
use mathlib.Core.Path.{refl, ap, ◌∙◌}
use mathlib.Core.List.{List}
use Prim.Native.Nat.{ℕ}
use native.Mathlib.Omega.{arith}
use lib.ListN.{length}
use Rattle.algebra.specs.Lists.{over}
use Rattle.algebra.specs.Permutations.{permute}
use Rattle.algebra.proofs.Permutations.{length-permute}
use Rattle.round.proofs.Rooms.{front-permute, compose-own}
use Rattle.round.proofs.card.lift_into.Goals as goal

pub permute_into-requires : goal.permute_into-requires
permute_into-requires c = let e = front-permute c.args.pi.now c.args.sigma.now _ _ (length c.args.sigma.now) refl c.compose_into.ensures in
    let l = length-permute c.args.pi.now c.args.sigma.now in
    rw e (compose-own c.args.pi.now c.args.sigma.now c.requires.0 c.requires.1 (omega arith), omega arith, omega arith)

pub returns : goal.returns
returns c = let g = c.args in
    c.permute_into.ensures
    ∙ ap (λ (z : List ℕ). over (permute g.v.now z) g.out.now)
    (front-permute g.pi.now g.sigma.now _ _ (length g.sigma.now) refl c.compose_into.ensures)
