-- `check_choice` meets its contract: R, then σ.
use mathlib.Core.Path.{◌≡◌, sym, ap, ◌∙◌}
use Prim.Native.Nat.{◌+◌, ◌-◌}
use native.Mathlib.Omega.{arith}
use lib.Seq.{length-take-le}
use Rattle.refusals.specs.Told.{means}
use Rattle.refusals.proofs.Chain.{goes_on, stops, handed_on}
use Rattle.readers.specs.Choosing.{vector_of, permutation_of, choice_check}
use Rattle.readers.proofs.choices.check_choice.Goals as goal

pub slice_bounds-check_values-end : goal.slice_bounds-check_values-end
slice_bounds-check_values-end c = sym (length-take-le _ _ (omega arith))

pub check_values-requires : goal.check_values-requires
check_values-requires c = let g = c.args in
    omega (arith, length-take-le g.n g.choice.now (omega arith))

pub returns-in_err-check_values : goal.returns-in_err-check_values
unfolding choice_check vector_of
returns-in_err-check_values c = ap means (handed_on c.from_residual.ensures) ∙ stops _ c.check_values.ensures c.in_err-check_values.was

pub returns : goal.returns
unfolding choice_check vector_of permutation_of
returns c = let g = c.args in
    let e : g.n + g.n - g.n ≡ g.n = omega arith in
    goes_on c.check_values.ensures c.in_ok-check_values.was
    (rw e at c.check_permutations.ensures)
