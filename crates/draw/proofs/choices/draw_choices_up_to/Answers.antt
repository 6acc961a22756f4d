-- `draw_choices_up_to` meets its contract: a law of the order for each answer.
use mathlib.Core.Path.{sym, ◌∙◌}
use mathlib.Core.List.{[]}
use Rattle.draw_rules.specs.Telling.{choices_fit}
use Rattle.draw_rules.proofs.Orders.{bad_numbers, no_room, good-numbers, runs-out, takes}
use Rattle.draw.proofs.choices.draw_choices_up_to.Goals as goal

pub returns-then-not-choices_fit : goal.returns-then-not-choices_fit
returns-then-not-choices_fit c = let g = c.args in
    bad_numbers _ _ _ _ (choices_fit g.greatest g.n g.rounds) (sym c.choices_fit.ensures ∙ c.if-not-choices_fit.true) c.refuse.ensures

pub returns-then-out-need : goal.returns-then-out-need
returns-then-out-need c = let g = c.args in
    no_room _ _ _ _ _ [] (good-numbers (choices_fit g.greatest g.n g.rounds) (sym c.choices_fit.ensures ∙ c.if-not-choices_fit.false)) c.if-out-need.true c.refuse-then-out-need.ensures

pub returns-in-None : goal.returns-in-None
returns-in-None c = let g = c.args in
    runs-out _ _ _ _ _ [] (good-numbers (choices_fit g.greatest g.n g.rounds) (sym c.choices_fit.ensures ∙ c.if-not-choices_fit.false)) c.if-out-need.false (sym c.in-None.is ∙ c.measure_choices.ensures) c.refuse-in-None.ensures

pub returns-in-Some : goal.returns-in-Some
returns-in-Some c = let g = c.args in
    takes _ _ _ _ _ [] (good-numbers (choices_fit g.greatest g.n g.rounds) (sym c.choices_fit.ensures ∙ c.if-not-choices_fit.false)) c.if-out-need.false (sym c.in-Some.is ∙ c.measure_choices.ensures) c.write_choices.ensures
