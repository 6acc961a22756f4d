-- `measure_choices` meets its contract: p is the place after the rounds that are measured.
use mathlib.Core.Path.{◌≡◌, sym, ap, ◌∙◌}
use Prim.Native.Nat.{ℕ}
use native.Mathlib.Omega.{arith}
use Rattle.random.specs.Drawings.{used_by}
use Rattle.draw_rules.specs.Making.{draw_choice, draw_choices}
use Rattle.random.specs.Sequences.{many_times}
use Rattle.random.proofs.Sequences.{times_none, times_ends, measured_more}
use Rattle.draw.proofs.choices.measure_choices.Goals as goal

pub loop-init : goal.loop-init
loop-init c = sym (ap used_by (times_none _ _))

pub returns-in_err-p : goal.returns-in_err-p
unfolding draw_choices
returns-in_err-p c =
    c.from_residual.ensures
    ∙ sym (ap used_by (times_ends _ _ _ _ _ c.loop-test.true c.loop.invariant (sym c.in_err-p.was ∙ c.measure_choice.ensures)))

pub loop-preserved : goal.loop-preserved
loop-preserved c = measured_more _ _ _ _ _ c.loop.invariant (sym c.in_ok-p.was ∙ c.measure_choice.ensures)

pub returns : goal.returns
unfolding draw_choices
returns c = let l = c.loop in
    let g = c.args in
    let e : l.counter ≡ g.rounds = omega arith in
    l.invariant ∙ ap (λ (k : ℕ). used_by (many_times k (draw_choice g.n g.random.now) 0)) e
