-- `first_nonzero` meets its contract: what is found is the first row that is not zero.
use mathlib.Core.Path.{◌≡◌}
use mathlib.Core.Bool.{true, false}
use borrow.Author.Rules.{rules}
use borrow.Author.Tests.{tests}
use Rattle.std.proofs.lemmas.Iterator.{serves_from_Range, first_from_Range}
use Rattle.matrices.specs.Matrices.{nonzero_row}
use Rattle.algebra.specs.Residues.{modulus}
use Rattle.algebra.proofs.Lists.{first_of}
use Rattle.matrices.proofs.Matrix.first_nonzero.Goals as goal

pub find-requires-clause-callable : goal.find-requires-clause-callable
find-requires-clause-callable c =
    serves_from_Range (λ x q r. search rules) (λ i low high y is. search rules)

pub returns-clause-fault : goal.returns-clause-fault
returns-clause-fault c =
    let s = c.args.self.now in
    let f = nonzero_row modulus s.entries.now s.n s.m c.args.x.now in
    first_of f s.m c.find.result
    (first_from_Range _ _ _ _ (λ k. f k ≡ true) (λ k. f k ≡ false) c.find.ensures.ran (λ x q r. search (rules, tests)) (λ x q r. search (rules, tests)))
