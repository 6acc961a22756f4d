-- `answer_for_c` is `answer_step`, whose contract fixes all but how the answer is written.
use Rattle.card_for_c.proofs.ForC.{answer-for-c}
use Rattle.card_for_c.proofs.steps.answer_for_c.Goals as goal

pub returns : goal.returns
returns c = answer-for-c _ _ c.of_count.ensures _ _ _ _ _ _ c.answer_step-step.ensures
