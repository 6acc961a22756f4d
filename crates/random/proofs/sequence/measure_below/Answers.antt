-- `measure_below` meets its contract: p is the place after those that are measured.
use mathlib.Core.Path.{sym, ap, ◌∙◌}
use Rattle.random.specs.Drawings.{used_by}
use Rattle.random.proofs.Sequences.{times_none, times_ends, measured_more, one_got, one_short}
use Rattle.random.proofs.sequence.measure_below.Goals as goal

pub loop-init : goal.loop-init
loop-init c = sym (ap used_by (times_none _ _))

pub returns-in_err-p : goal.returns-in_err-p
returns-in_err-p c = let l = c.loop in
    c.from_residual.ensures
    ∙ sym (ap used_by (times_ends _ _ _ _ _ c.loop-test.true l.invariant (sym (ap used_by (one_short _ _ _ (sym c.in_err-p.was ∙ c.draw_below.ensures))))))

pub loop-preserved : goal.loop-preserved
loop-preserved c =
    measured_more _ _ _ _ _ c.loop.invariant (sym (ap used_by (one_got _ _ _ _ _ (sym c.in_ok-p.was ∙ c.draw_below.ensures))))
