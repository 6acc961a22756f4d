-- `open_for_c` is `open_step`, whose contract fixes all but how the answer is written.
use Rattle.card_for_c.proofs.ForC.{open-for-c}
use Rattle.card_for_c.proofs.steps.open_for_c.Goals as goal

pub returns : goal.returns
returns c = open-for-c _ _ c.of_count.ensures _ _ _ _ _ _ _ c.open_step-step.ensures
