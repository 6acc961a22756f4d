-- `plus` is the addition of §3.2: std's wrapping sum is the sum modulo 2 ^ 32.
use Rattle.std.proofs.Common.{rules}
use Rattle.word32.specs.Operations.{◌⊞◌}
use Rattle.word32.proofs.plus.Goals as goal

pub returns : goal.returns
unfolding ◌⊞◌
returns c = search rules
