-- `measure_choice` meets its contract: R, and from the place after it σ.
use mathlib.Core.Path.{sym, ◌∙◌}
use Rattle.random.specs.Drawings.{draw_permutation}
use Rattle.draw_rules.specs.Making.{draw_choice}
use Rattle.random.specs.Sequences.{draw_residues}
use Rattle.random.proofs.Sequences.{then_used, then_short}
use Rattle.draw.proofs.choices.measure_choice.Goals as goal

pub returns-in_err-p : goal.returns-in_err-p
unfolding draw_choice
returns-in_err-p c = let g = c.args in
    c.from_residual.ensures
    ∙ then_short (draw_residues g.n g.random.now g.at) (draw_permutation g.n g.random.now) (sym c.in_err-p.was ∙ c.measure_below.ensures)

pub returns : goal.returns
unfolding draw_choice
returns c = let g = c.args in
    c.measure_permutation.ensures
    ∙ then_used (draw_residues g.n g.random.now g.at) (draw_permutation g.n g.random.now) _ (sym c.in_ok-p.was ∙ c.measure_below.ensures)
