-- `draw_below` meets its contract: from each place on, what is left of the bytes gives the same drawing.
use mathlib.Core.Path.{refl, sym, ◌∙◌}
use Rattle.random.specs.Drawings.{draw_below}
use Rattle.random.proofs.Drawings.{draw_end, draw_hit, draw_skip}
use Rattle.random.proofs.draw.draw_below.Goals as goal

pub loop-i-init : goal.loop-i-init
unfolding draw_below
loop-i-init c = refl

pub loop-i-preserved : goal.loop-i-preserved
loop-i-preserved c = sym (draw_skip _ _ _ c.if-random-i.false c.if-x-limit.false) ∙ c.loop-i.invariant

pub returns-then-random-i : goal.returns-then-random-i
returns-then-random-i c = sym (draw_end _ _ _ c.if-random-i.true) ∙ c.loop-i.invariant

pub returns-then-x-limit : goal.returns-then-x-limit
returns-then-x-limit c = sym (draw_hit _ _ _ c.if-random-i.false c.if-x-limit.true) ∙ c.loop-i.invariant
