-- `small_sigma_0` is §4.1.2's σ0: its two rotations and its shift are the standard's.
use Rattle.std.proofs.Common.{rules}
use Rattle.word32.specs.Operations.{σ0, ROTR}
use Rattle.word32.proofs.small_sigma_0.Goals as goal

pub returns : goal.returns
unfolding σ0 ROTR
returns c = search rules
