-- `first_answer_into` meets its contract: the first n of the rooms are V_πσ and R_σ.
use mathlib.Core.Path.{refl, ap₂, ◌∙◌}
use mathlib.Core.List.{List}
use Prim.Native.Nat.{ℕ}
use lib.ListN.{length}
use Rattle.algebra.specs.Lists.{over}
use Rattle.algebra.specs.Permutations.{compose}
use Rattle.algebra.specs.Residues.{modulus, add_scaled}
use Rattle.algebra.proofs.Permutations.{length-permute}
use Rattle.scheme.specs.Round.{first_answer}
use Rattle.round.proofs.Rooms.{front-permute}
use Rattle.round.proofs.card.first_answer_into.Goals as goal

pub returns : goal.returns
unfolding first_answer
returns c = let g = c.args in
    let s = g.x.permutation.now in
    c.add_scaled_into.ensures
    ∙ ap₂ (λ (x y : List ℕ). over (add_scaled modulus x g.c y) g.out.now)
    (front-permute g.x.vector.now s _ _ (length s) refl c.permute_into.ensures)
    (front-permute g.v.now (compose g.pi.now s) _ _ (length s) (length-permute g.pi.now s) c.lift_into.ensures)
