-- `is_permutation` meets its contract: a mark is set where the value was seen, and then it was seen once; what was seen is below n.
use mathlib.Core.Path.{◌≡◌}
use lib.ListN.{length}
use Rattle.algebra.specs.Permutations.{longest}
use Rattle.algebra.proofs.Marks.{Marked}
use Rattle.algebra.proofs.permutation.is_permutation.Given as goal

abbrev pub invariant-loop-x : goal.invariant-loop-x
invariant-loop-x l = (length l.seen ≡ longest) × Marked l.s l.x-index l.seen
