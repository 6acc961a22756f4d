-- `commitment_one` meets its contract: the first n of the rooms are πσ and R_σ.
use mathlib.Core.Path.{refl, ap₂, ◌∙◌}
use mathlib.Core.List.{List, ◌++◌}
use Prim.Native.Nat.{ℕ}
use lib.ListN.{length}
use Rattle.sha256.specs.Standard.{digest_of}
use Rattle.scheme.specs.Round.{committed1}
use Rattle.round.proofs.Rooms.{front-permute}
use Rattle.round.proofs.card.commitment_one.Goals as goal

pub returns : goal.returns
unfolding committed1
returns c = let x = c.args.x in
    let s = x.permutation.now in
    c.hash_two.ensures
    ∙ ap₂ (λ (x y : List ℕ). digest_of (x ++ y))
    (front-permute c.args.pi.now s _ _ (length s) refl c.compose_into.ensures)
    (front-permute x.vector.now s _ _ (length s) refl c.permute_into.ensures)
