-- `measure_choices` meets its contract: p is the place after the rounds that are measured.
use mathlib.Core.Path.{◌≡◌}
use Rattle.std.specs.Prelude.{Some}
use Rattle.random.specs.Drawings.{used_by}
use Rattle.draw_rules.specs.Making.{draw_choice}
use Rattle.random.specs.Sequences.{many_times}
use Rattle.draw.proofs.choices.measure_choices.Given as goal

abbrev pub invariant-loop : goal.invariant-loop
invariant-loop l = Some l.p ≡ used_by (many_times l.counter (draw_choice l.n l.random) 0)
