-- `put_frame` meets its contract: the heading over the front, and the rest behind it.
use mathlib.Core.Path.{ap, ◌∙◌}
use Rattle.algebra.specs.Lists.{over_at}
use Rattle.writers.proofs.Writing.{framed}
use Rattle.writers.proofs.put_frame.Goals as goal

pub returns : goal.returns
returns c = let g = c.args in
    let s = c.start in
    c.copy_at.ensures
    ∙ ap (over_at g.rest.now s.result) c.put_heading.ensures
    ∙ framed g.kind g.a g.b g.rest.now g.out.now s.result s.ensures.0
