-- `big_sigma_1` is §4.1.2's Σ1: its three rotations are the standard's.
use Rattle.std.proofs.Common.{rules}
use Rattle.word32.specs.Operations.{Σ1, ROTR}
use Rattle.word32.proofs.big_sigma_1.Goals as goal

pub returns : goal.returns
unfolding Σ1 ROTR
returns c = search rules
