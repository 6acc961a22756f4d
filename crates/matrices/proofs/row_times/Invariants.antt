-- `row_times` meets its contract: after j turns the sum is that of the first j products, and at most 65,025 for each of them.
use mathlib.Core.Path.{◌≡◌}
use Prim.Native.Nat.{ℕ, ◌*◌, ◌≤◌}
use lib.ListN.{length, get_or}
use Rattle.algebra.specs.Lists.{sum_below}
use Rattle.matrices.proofs.row_times.Given as goal

abbrev pub invariant-loop-a : goal.invariant-loop-a
invariant-loop-a l =
    record {
      so_far : l.sum ≡ sum_below (length l.yielded) (λ (k : ℕ). get_or l.row k 0 * get_or l.x k 0);
      small : l.sum ≤ 65025 * length l.yielded;
    }
