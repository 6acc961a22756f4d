-- `row` meets its contract: the part of the entries from i·(n - m), n - m long, is the stretch i.
use Rattle.algebra.proofs.Lists.{part_stretch}
use Rattle.matrices.proofs.Matrix.row.Goals as goal

pub returns-clause-cut : goal.returns-clause-cut
returns-clause-cut c = part_stretch _ c.args.i c.args.self.now.entries.now
