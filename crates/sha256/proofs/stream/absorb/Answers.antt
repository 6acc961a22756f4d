-- `absorb` cuts the part where the block that waits ends, and the pieces are the part.
use Rattle.sha256.proofs.Absorbing.{both}
use Rattle.sha256.proofs.stream.absorb.Goals as goal

pub returns : goal.returns
returns c = both _ _ _ _ _ _ c.split_at.ensures.by_index.0 c.fill-r.ensures c.whole-2.ensures
