-- `enough` meets its contract: a grade at a time.
use borrow.Author.Rules.{rules}
use Rattle.register.proofs.Grades.{grade_decides}
use Rattle.register.proofs.grade.enough.Goals as goal

pub returns : goal.returns
returns c = grade_decides _ _ _ _ c.try_from.ensures c.is_ok_and.ensures (λ g p. search (rules, p))
