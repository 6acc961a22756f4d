-- `draw_below` meets its contract: from each place on, what is left of the bytes gives the same drawing.
use mathlib.Core.Path.{◌≡◌}
use Prim.Native.Nat.{◌-◌}
use lib.ListN.{length, drop}
use Rattle.random.specs.Drawings.{draw_left, draw_below}
use Rattle.random.proofs.draw.draw_below.Given as goal

abbrev pub invariant-loop-i : goal.invariant-loop-i
invariant-loop-i l = draw_left l.limit (drop l.i l.random) l.i ≡ draw_below l.limit l.random l.at

abbrev pub decreases-loop-i : goal.decreases-loop-i
decreases-loop-i l = length l.random - l.i
