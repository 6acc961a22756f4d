-- `ch` is §4.1.2's Ch for words: bit by bit, z changed where x has 1 and y differs from it is the choice of y or z by x.
use Rattle.std.proofs.Common.{arith}
use Rattle.word32.proofs.Choice.{ch_shorter}
use Rattle.word32.proofs.ch.Goals as goal

pub returns : goal.returns
returns c = ch_shorter c.args.x c.args.y c.args.z (omega arith) (omega arith)
