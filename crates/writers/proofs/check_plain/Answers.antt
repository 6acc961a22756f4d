-- `check_plain` meets its contract: a law of the order for each answer.
use mathlib.Core.Path.{sym, ap, ◌∙◌}
use Rattle.refusals.specs.Told.{means}
use Rattle.refusals.proofs.Chain.{handed_on}
use native.Mathlib.Omega.{arith}
use Rattle.frames.proofs.Facts.{numbers-small}
use Rattle.writers.proofs.Writing.{bad_numbers, bad-length, bad-content, bad-spare, good-plain}
use Rattle.writers.proofs.check_plain.Goals as goal

pub returns-then-not-numbers_fit : goal.returns-then-not-numbers_fit
returns-then-not-numbers_fit c = ap means c.refuse.ensures ∙ bad_numbers _ _ _ _ (rw c.alone.ensures at (sym c.numbers_fit.ensures) ∙ c.if-not-numbers_fit.true)

pub size-requires : goal.size-requires
size-requires c = let g = c.args in let t = numbers-small g.kind g.a g.b (rw c.alone.ensures at (sym c.numbers_fit.ensures) ∙ c.if-not-numbers_fit.false) in (omega arith, omega arith)

pub returns-then-plain-size : goal.returns-then-plain-size
returns-then-plain-size c = ap means c.refuse-then-plain-size.ensures
    ∙ bad-length _ _ _ _ (rw c.alone.ensures at (sym c.numbers_fit.ensures) ∙ c.if-not-numbers_fit.false) _ c.buffer.ensures (λ e. c.if-plain-size.true (e ∙ sym c.size.ensures.0))

pub check_content-requires : goal.check_content-requires
check_content-requires c = let g = c.args in
    let t = numbers-small g.kind g.a g.b (rw c.alone.ensures at (sym c.numbers_fit.ensures) ∙ c.if-not-numbers_fit.false) in
    let z = c.if-plain-size.false ∙ c.size.ensures.0 in
    (omega arith, z, omega arith)

pub returns-in_err-check_content : goal.returns-in_err-check_content
returns-in_err-check_content c = ap means (handed_on c.from_residual.ensures) ∙ bad-content _ _ _ _ (rw c.alone.ensures at (sym c.numbers_fit.ensures) ∙ c.if-not-numbers_fit.false) (c.if-plain-size.false ∙ c.size.ensures.0) _ c.check_content.ensures _ c.in_err-check_content.was

pub returns-then-not-spare_clear : goal.returns-then-not-spare_clear
returns-then-not-spare_clear c = ap means c.refuse-then-not-spare_clear.ensures
    ∙ bad-spare _ _ _ _ (rw c.alone.ensures at (sym c.numbers_fit.ensures) ∙ c.if-not-numbers_fit.false) (c.if-plain-size.false ∙ c.size.ensures.0) _ c.check_content.ensures _ c.buffer-then-not-spare_clear.ensures
    c.in_ok-check_content.was (sym c.spare_clear.ensures ∙ c.if-not-spare_clear.true)

pub returns : goal.returns
returns c = good-plain _ _ _ _ (rw c.alone.ensures at (sym c.numbers_fit.ensures) ∙ c.if-not-numbers_fit.false) (c.if-plain-size.false ∙ c.size.ensures.0) _ c.check_content.ensures c.in_ok-check_content.was
    (sym c.spare_clear.ensures ∙ c.if-not-spare_clear.false)
