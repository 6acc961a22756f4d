-- `pair_at` meets its contract: R and σ have n places each.
use mathlib.Core.Path.{sym, ◌∙◌}
use Rattle.rounds.proofs.Cuts.{vector-length, permutation-length}
use Rattle.rounds.proofs.layout.pair_at.Goals as goal

pub invariant_of-result : goal.invariant_of-result
invariant_of-result c =
    let g = c.args in
    rw (c.vector_of.ensures, c.permutation_of.ensures)
    (record { even = vector-length g.n g.choices.now g.k c.requires ∙ sym (permutation-length g.n g.choices.now g.k c.requires) })
