-- `key_fault` meets its contract: the first n of the room are V_π.
use mathlib.Core.Path.{ap, ◌∙◌}
use mathlib.Core.List.{List}
use Prim.Native.Nat.{ℕ}
use Rattle.algebra.specs.Lists.{first_from}
use Rattle.matrices.specs.Matrices.{nonzero_row, key_fault}
use Rattle.algebra.specs.Permutations.{permute}
use Rattle.algebra.specs.Residues.{modulus}
use Rattle.algebra.proofs.Lists.{front}
use Rattle.algebra.proofs.Permutations.{length-permute}
use Rattle.matrices.proofs.Matrix.key_fault.Goals as goal

pub returns-clause-fault : goal.returns-clause-fault
unfolding key_fault
returns-clause-fault c = let s = c.args.self.now in
    c.first_nonzero.ensures.fault
    ∙ ap (λ (x : List ℕ). first_from s.m 0 (nonzero_row modulus s.entries.now s.n s.m x))
    (front (permute c.args.v.now c.args.pi.now) _ _ s.n (length-permute c.args.v.now c.args.pi.now ∙ c.requires.1) c.permute_into.ensures)
