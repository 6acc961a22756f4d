-- `big_sigma_0` is §4.1.2's Σ0: its three rotations are the standard's.
use Rattle.std.proofs.Common.{rules}
use Rattle.word32.specs.Operations.{Σ0, ROTR}
use Rattle.word32.proofs.big_sigma_0.Goals as goal

pub returns : goal.returns
unfolding Σ0 ROTR
returns c = search rules
