-- `draw_permutation` meets its contract: a law of the order for each answer.
use mathlib.Core.Path.{sym, ◌∙◌}
use mathlib.Core.List.{[]}
use Rattle.random.specs.Drawings.{draw_permutation}
use Rattle.random.proofs.Drawings.{untouched}
use Rattle.kinds.specs.Kinds.{within, alone}
use Rattle.draw_rules.proofs.Orders.{bad_numbers, no_room, good-numbers, runs-out, takes}
use Rattle.draw.proofs.permutation.draw_permutation.Goals as goal

pub returns-then-not-places_fit : goal.returns-then-not-places_fit
returns-then-not-places_fit c = let g = c.args in
    bad_numbers _ _ _ _ (within alone.places g.n) (sym c.places_fit.ensures ∙ c.if-not-places_fit.true) c.refuse.ensures

pub returns-then-out-n : goal.returns-then-out-n
returns-then-out-n c = let g = c.args in
    no_room _ _ _ _ _ [] (good-numbers (within alone.places g.n) (sym c.places_fit.ensures ∙ c.if-not-places_fit.false)) c.if-out-n.true c.refuse-then-out-n.ensures

pub returns-in-None : goal.returns-in-None
returns-in-None c = let g = c.args in
    let d = draw_permutation g.n g.random.now 0 in
    let e = sym c.in-None.is ∙ c.draw_permutation.ensures.0 in
    rw (c.draw_permutation.ensures.1 ∙ sym (untouched d g.out.now e))
    (runs-out _ d _ _ _ [] (good-numbers (within alone.places g.n) (sym c.places_fit.ensures ∙ c.if-not-places_fit.false)) c.if-out-n.false e c.refuse-in-None.ensures)

pub returns-in-Some : goal.returns-in-Some
returns-in-Some c = let g = c.args in
    let e = sym c.in-Some.is ∙ c.draw_permutation.ensures.0 in
    takes _ _ _ _ _ [] (good-numbers (within alone.places g.n) (sym c.places_fit.ensures ∙ c.if-not-places_fit.false)) c.if-out-n.false e c.draw_permutation.ensures.1
