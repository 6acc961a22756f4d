-- `hash_two` meets its contract: a stream that absorbs both parts has absorbed the two, one after the other.
use mathlib.Core.List.{[], ◌++◌}
use Rattle.round.proofs.hashing.hash_two.Goals as goal

pub returns : goal.returns
returns c = let g = c.args in
    c.finish.ensures (g.x.now ++ g.y.now)
    (c.absorb.ensures.message g.x.now (c.absorb-s.ensures.message [] c.start.ensures))
