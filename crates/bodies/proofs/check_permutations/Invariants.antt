-- `check_permutations` meets its contract: no permutation before the k-th is refused.
use Rattle.std.proofs.Common.{◌≡◌}
use Rattle.refusals.specs.Buffer.{buffer_number}
use Rattle.refusals.specs.Told.{fine, first_below}
use Rattle.bodies.specs.Bodies.{permutation_at}
use Rattle.bodies.proofs.check_permutations.Given as goal

abbrev pub invariant-loop-k : goal.invariant-loop-k
invariant-loop-k l = first_below l.k (permutation_at (buffer_number l.buffer) l.n l.at l.list) ≡ fine
