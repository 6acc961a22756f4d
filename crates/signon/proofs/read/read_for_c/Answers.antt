-- `read_for_c` answers the numbers that were read, which are too small to overflow.
use mathlib.Core.Path.{ap, ◌∙◌}
use native.Mathlib.Omega.{arith}
use Rattle.card_for_c.specs.Answers.{answer_of}
use Rattle.signon.proofs.Numbers.{frame-numbers}
use Rattle.signon.proofs.read.read_for_c.Goals as goal

pub overflow_mul-frame : goal.overflow_mul-frame
overflow_mul-frame c = let p = frame-numbers _ _ _ c.in-Ok.ensures in omega arith

pub overflow_add-frame : goal.overflow_add-frame
overflow_add-frame c = let p = frame-numbers _ _ _ c.in-Ok.ensures in omega arith

pub returns-in-Ok : goal.returns-in-Ok
returns-in-Ok c = c.success.ensures ∙ ap answer_of c.in-Ok.ensures.says

pub returns-in-Err : goal.returns-in-Err
returns-in-Err c = c.refusal.ensures ∙ ap answer_of c.in-Err.ensures.says
