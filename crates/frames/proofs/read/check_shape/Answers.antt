-- `check_shape` meets its contract.
use mathlib.Core.Path.{ap}
use Rattle.refusals.specs.Told.{means}
use Rattle.frames.proofs.read.check_shape.Goals as goal

pub returns-then-shape_fits : goal.returns-then-shape_fits
returns-then-shape_fits c = rw (← c.shape_fits.ensures, c.if-shape_fits.true)

pub returns : goal.returns
returns c = rw (← c.shape_fits.ensures, c.if-shape_fits.false, ← c.buffer.ensures) (ap means c.refuse.ensures)
