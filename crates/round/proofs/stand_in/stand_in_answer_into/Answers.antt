-- `stand_in_answer_into` meets its contract: for bit 1 the first n of the room are V_θ.
use mathlib.Core.Path.{refl, ap, ◌∙◌}
use mathlib.Core.List.{List}
use Prim.Native.Nat.{ℕ}
use lib.ListN.{length}
use Rattle.algebra.specs.Lists.{over}
use Rattle.algebra.specs.Residues.{modulus, add_scaled}
use Rattle.scheme.specs.Round.{stand_in_answer}
use Rattle.round.proofs.Rooms.{front-permute}
use Rattle.round.proofs.stand_in.stand_in_answer_into.Goals as goal

pub returns-then-bit : goal.returns-then-bit
unfolding stand_in_answer
returns-then-bit c = let g = c.args in
    let s = g.x.permutation.now in
    rw c.if-bit.true
    (c.add_scaled_into.ensures
    ∙ ap (λ (z : List ℕ). over (add_scaled modulus g.x.vector.now g.c z) g.out.now)
    (front-permute g.v.now s _ _ (length s) refl c.permute_into.ensures))
