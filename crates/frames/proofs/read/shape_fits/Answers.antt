-- `shape_fits` meets its contract: a law of the order for each answer.
use mathlib.Core.Path.{sym, ap, ◌∙◌}
use native.Mathlib.Omega.{arith}
use Rattle.bodies.specs.Bodies.{spare_clear}
use Rattle.frames.proofs.Orders.{rest_part, number_missing, numbers_differ, size_differs, spare_decides}
use Rattle.frames.proofs.read.shape_fits.Goals as goal

pub returns-then-s-start : goal.returns-then-s-start
returns-then-s-start c = number_missing _ _ _ (omega (arith, c.start-start.ensures.0))

pub returns-then-not-numbers_fit : goal.returns-then-not-numbers_fit
returns-then-not-numbers_fit c = numbers_differ _ _ _ _ _ c.from-first.ensures c.second_of-second.ensures.0 (omega (arith, c.start-start.ensures.0))
    (sym c.numbers_fit.ensures ∙ c.if-not-numbers_fit.true)

pub returns-then-s-start-2 : goal.returns-then-s-start-2
returns-then-s-start-2 c = let p = c.start-start.ensures.0 in
    let z = c.size.ensures.0 in
    size_differs _ _ _ _ _ c.from-first.ensures c.second_of-second.ensures.0 (omega arith)
    (sym c.numbers_fit.ensures ∙ c.if-not-numbers_fit.false) (λ e. c.if-s-start-2.true (omega arith))

pub returns : goal.returns
returns c = let p = c.start-start.ensures.0 in
    let z = c.size.ensures.0 in
    let g = c.args in
    spare_decides _ _ _ _ _ c.from-first.ensures c.second_of-second.ensures.0 (omega arith)
    (sym c.numbers_fit.ensures ∙ c.if-not-numbers_fit.false) (omega arith) _
    (c.spare_clear.ensures ∙ ap (spare_clear g.kind _) (rest_part g.kind g.s.now _ p))
