-- `own_failing` meets its contract: what is found is the first round that the register does not pass.
use mathlib.Core.Path.{◌≡◌}
use mathlib.Core.Bool.{true, false}
use borrow.Author.Rules.{rules}
use borrow.Author.Tests.{tests}
use Rattle.std.proofs.lemmas.Iterator.{first_from_Range}
use Rattle.algebra.proofs.Lists.{first_of}
use Rattle.scheme.specs.Round.{as_system}
use Rattle.own_check.specs.Own.{own_fails, own_failing}
use Rattle.own_check.proofs.own_failing.Goals as goal

pub returns-clause-first : goal.returns-clause-first
unfolding own_failing
returns-clause-first c =
    let g = c.args in
    let f = own_fails (as_system g.a.now) g.v.now g.pi.now g.choices.now g.challenges g.bits.now in
    first_of f g.rounds c.find.result
    (first_from_Range _ _ _ _ (λ k. f k ≡ true) (λ k. f k ≡ false) c.find.ensures.ran (λ x q r. search (rules, tests)) (λ x q r. search (rules, tests)))
