-- `measure_permutation` meets its contract: from each place on, the bytes to come are those that the whole drawing uses, whatever list is shuffled.
use mathlib.Core.Path.{◌≡◌}
use Prim.Native.Nat.{◌-◌}
use Rattle.random.specs.Drawings.{shuffle, draw_permutation, used_by}
use Rattle.algebra.specs.Permutations.{identity}
use Rattle.random.proofs.draw.measure_permutation.Given as goal

abbrev pub invariant-loop-i : goal.invariant-loop-i
invariant-loop-i l = used_by (shuffle (l.i - 1) (identity l.n) l.random l.p) ≡ used_by (draw_permutation l.n l.random l.at)
