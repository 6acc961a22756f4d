-- `adler_32` is safe: both sums are reduced at every turn.
use Rattle.std.proofs.Common.{◌<◌}
use Rattle.replay_cases.proofs.line.adler_32.Given as goal

abbrev pub invariant-loop-x : goal.invariant-loop-x
invariant-loop-x l = (l.sum < 65521) × (l.sums < 65521)
