-- `signon_draw_choices` hands on the answer of `draw_choices`, whose contract fixes all but how it is written.
use native.Mathlib.Omega.{arith}
use Rattle.refusals.specs.Number.{SHAPE, DRAW}
use Rattle.refusals.specs.Buffer.{NONE}
use Rattle.refusals.proofs.Chain.{demand-most}
use Rattle.kinds.specs.Kinds.{most_rounds}
use Rattle.draw_rules.specs.Telling.{choices_fit}
use Rattle.signon.proofs.ForC.{draw_for_c}
use Rattle.signon.proofs.drawing.signon_draw_choices.Goals as goal

pub returns : goal.returns
returns c = draw_for_c _ _ _ _ _ _ _ _ (demand-most DRAW (choices_fit most_rounds c.args.n c.args.rounds) SHAPE NONE 0 (omega arith) (omega arith)) c.of_count.ensures c.draw_choices.ensures
