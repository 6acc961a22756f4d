-- `measure_permutation` meets its contract: from each place on, the bytes to come are those that the whole drawing uses, whatever list is shuffled.
use mathlib.Core.Path.{refl, sym, ap, ◌∙◌}
use native.Mathlib.Omega.{arith}
use Prim.Native.Nat.{◌-◌}
use Rattle.random.specs.Drawings.{draw_permutation, used_by}
use Rattle.random.proofs.Drawings.{shuffle-more, shuffle_short, shuffle_done, shuffle_used}
use Rattle.random.proofs.draw.measure_permutation.Goals as goal

pub loop-i-init : goal.loop-i-init
unfolding draw_permutation
loop-i-init c = refl

pub returns-in_err-p : goal.returns-in_err-p
returns-in_err-p c =
    c.from_residual.ensures
    ∙ sym (ap used_by (shuffle_short _ _ _ _ (omega arith) (sym c.in_err-p.was ∙ c.draw_for.ensures)))
    ∙ c.loop-i.invariant

pub loop-i-preserved : goal.loop-i-preserved
loop-i-preserved c =
    shuffle_used (c.loop-i.i - 1 - 1) _ _ _ _
    ∙ sym (ap used_by (shuffle-more _ _ _ _ _ _ (omega arith) (sym c.in_ok-p.was ∙ c.draw_for.ensures)))
    ∙ c.loop-i.invariant

pub returns : goal.returns
returns c = sym (ap used_by (shuffle_done _ _ _ _ c.loop-i-test.false)) ∙ c.loop-i.invariant
