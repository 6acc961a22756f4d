-- `first_failing` meets its contract: what is found is the first round that does not pass.
use mathlib.Core.Path.{◌≡◌}
use mathlib.Core.Bool.{true, false}
use borrow.Author.Rules.{rules}
use borrow.Author.Tests.{tests}
use Rattle.std.proofs.lemmas.Iterator.{first_from_Range}
use Rattle.algebra.proofs.Lists.{first_of}
use Rattle.scheme.specs.Round.{as_system}
use Rattle.rounds.specs.Parts.{as_messages}
use Rattle.rounds.specs.Rounds.{fails_at, first_failing}
use Rattle.rounds.proofs.register.first_failing.Goals as goal

pub returns-clause-first : goal.returns-clause-first
unfolding first_failing
returns-clause-first c =
    let g = c.args in
    let f = fails_at (as_system g.a.now) g.v.now (as_messages g.x.now) in
    first_of f g.rounds c.find.result
    (first_from_Range _ _ _ _ (λ k. f k ≡ true) (λ k. f k ≡ false) c.find.ensures.ran (λ x q r. search (rules, tests)) (λ x q r. search (rules, tests)))
