-- `second_of` meets its contract: a kind whose rest starts at 6 has two numbers.
use mathlib.Core.Path.{sym, ◌∙◌}
use borrow.Author.Rules.{rules}
use borrow.Author.Tests.{eq-eqb, ne_eqb}
use Rattle.frames.proofs.read.second_of.Goals as goal

pub returns-then-start-eq-AFTER_TWO : goal.returns-then-start-eq-AFTER_TWO
returns-then-start-eq-AFTER_TWO c = (rw (eq-eqb _ 6 (sym c.start.ensures.0 ∙ c.if-start-eq-AFTER_TWO.true)) c.from.ensures, search rules)

pub returns : goal.returns
returns c = (rw (ne_eqb _ 6 (λ e. c.if-start-eq-AFTER_TWO.false (c.start.ensures.0 ∙ e))), search rules)
