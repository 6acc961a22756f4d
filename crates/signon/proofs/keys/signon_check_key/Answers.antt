-- `signon_check_key` hands on the answer of `check_key`, whose contract fixes all but how it is written.
use mathlib.Core.Path.{ap, ◌∙◌}
use Rattle.card_for_c.specs.Answers.{answer_of}
use Rattle.signon.proofs.keys.signon_check_key.Goals as goal

pub returns-in-Ok : goal.returns-in-Ok
returns-in-Ok c = c.success.ensures ∙ ap answer_of c.in-Ok.ensures.says

pub returns-in-Err : goal.returns-in-Err
returns-in-Err c = c.refusal.ensures ∙ ap answer_of c.in-Err.ensures.says
