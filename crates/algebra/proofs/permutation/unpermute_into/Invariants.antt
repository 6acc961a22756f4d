-- `unpermute_into` meets its contract: after j turns what was written at σ[i] is W[i], for i below j, and no place at n or above was touched.
use lib.ListN.{length}
use Rattle.algebra.proofs.Permutations.{Laid}
use Rattle.algebra.proofs.permutation.unpermute_into.Given as goal

abbrev pub invariant-loop-k : goal.invariant-loop-k
invariant-loop-k l = Laid l.sigma l.w l.initial.out l.out (length l.yielded)
