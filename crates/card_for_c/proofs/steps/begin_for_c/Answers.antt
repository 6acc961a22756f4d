-- `begin_for_c` is `begin_step`, whose contract fixes all but how the answer is written.
use Rattle.card_for_c.proofs.ForC.{begin_for_c}
use Rattle.card_for_c.proofs.steps.begin_for_c.Goals as goal

pub returns : goal.returns
returns c = begin_for_c _ _ c.of_count.ensures _ _ _ _ _ _ c.begin_step-step.ensures
