-- `signon_verdict` hands on the answer of `verdict`, whose contract fixes all but how it is written.
use mathlib.Core.Path.{ap, ◌∙◌}
use Rattle.card_for_c.specs.Answers.{answer_of}
use Rattle.signon.proofs.verdict.signon_verdict.Goals as goal

pub returns : goal.returns
returns c = c.of_count.ensures ∙ ap answer_of c.verdict.ensures.says
