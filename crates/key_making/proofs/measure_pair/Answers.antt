-- `measure_pair` meets its contract: π, and from the place after it the start of X.
use mathlib.Core.Path.{sym, ◌∙◌}
use Prim.Native.Nat.{◌-◌}
use Rattle.random.specs.Drawings.{draw_permutation}
use Rattle.key_making.specs.Key.{draw_pair}
use Rattle.random.specs.Sequences.{draw_residues}
use Rattle.random.proofs.Sequences.{then_used, then_short}
use Rattle.key_making.proofs.measure_pair.Goals as goal

pub returns-in_err-p : goal.returns-in_err-p
unfolding draw_pair
returns-in_err-p c = let g = c.args in
    c.from_residual.ensures
    ∙ then_short (draw_permutation g.n g.random.now 0) (draw_residues (g.n - g.m) g.random.now) (sym c.in_err-p.was ∙ c.measure_permutation.ensures)

pub returns : goal.returns
unfolding draw_pair
returns c = let g = c.args in
    c.measure_below.ensures
    ∙ then_used (draw_permutation g.n g.random.now 0) (draw_residues (g.n - g.m) g.random.now) _ (sym c.in_ok-p.was ∙ c.measure_permutation.ensures)
