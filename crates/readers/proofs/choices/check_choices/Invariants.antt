-- `check_choices` meets its contract: no round before the k-th is refused.
use mathlib.Core.Path.{◌≡◌}
use Rattle.refusals.specs.Told.{fine, first_below}
use Rattle.readers.specs.Choosing.{choice_at}
use Rattle.readers.proofs.choices.check_choices.Given as goal

abbrev pub invariant-loop-k : goal.invariant-loop-k
invariant-loop-k l = first_below l.k (choice_at l.n l.choices) ≡ fine
