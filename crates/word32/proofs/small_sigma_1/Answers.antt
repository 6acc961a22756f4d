-- `small_sigma_1` is §4.1.2's σ1: its two rotations and its shift are the standard's.
use Rattle.std.proofs.Common.{rules}
use Rattle.word32.specs.Operations.{σ1, ROTR}
use Rattle.word32.proofs.small_sigma_1.Goals as goal

pub returns : goal.returns
unfolding σ1 ROTR
returns c = search rules
