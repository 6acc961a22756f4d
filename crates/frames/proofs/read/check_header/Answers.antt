-- `check_header` meets its contract: a law of the order for each answer.
use mathlib.Core.Path.{ap, sym, ◌∙◌}
use native.Mathlib.Omega.{arith}
use Rattle.refusals.specs.Told.{means}
use Rattle.frames.proofs.Orders.{too_few, too_short, too_long, other-version, other-kind, headed}
use Rattle.frames.proofs.read.check_header.Goals as goal

pub returns-then-s-lt4 : goal.returns-then-s-lt4
returns-then-s-lt4 c = (ap means c.refuse.ensures) ∙ too_few _ _ _ c.buffer-buffer.ensures c.if-s-lt4.true

pub returns-then-s-whole : goal.returns-then-s-whole
returns-then-s-whole c = (ap means c.refuse-then-s-whole.ensures) ∙ too_short _ _ _ c.buffer-buffer.ensures c.if-s-lt4.false (omega (arith, c.count_of-whole.ensures.0))

pub returns-then-whole-s : goal.returns-then-whole-s
returns-then-whole-s c = (ap means c.refuse-then-whole-s.ensures) ∙ too_long _ _ _ c.buffer-buffer.ensures c.if-s-lt4.false (omega (arith, c.count_of-whole.ensures.0))

pub returns-then-s-version : goal.returns-then-s-version
returns-then-s-version c = (ap means c.refuse-then-s-version.ensures)
    ∙ other-version _ _ _ c.buffer-buffer.ensures c.if-s-lt4.false (omega (arith, c.count_of-whole.ensures.0))
    (λ e. c.if-s-version.true (e ∙ sym c.version.ensures))

pub returns-then-s-number : goal.returns-then-s-number
returns-then-s-number c = (ap means c.refuse-then-s-number.ensures)
    ∙ other-kind _ _ _ c.buffer-buffer.ensures c.if-s-lt4.false (omega (arith, c.count_of-whole.ensures.0))
    (c.if-s-version.false ∙ c.version.ensures) (λ e. c.if-s-number.true (e ∙ sym c.number.ensures))

pub returns : goal.returns
returns c = headed _ _ _ c.buffer-buffer.ensures c.if-s-lt4.false (omega (arith, c.count_of-whole.ensures.0))
    (c.if-s-version.false ∙ c.version.ensures) (c.if-s-number.false ∙ c.number.ensures)
