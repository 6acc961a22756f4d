-- `judge` meets its contract: it cuts as the definition does.
use Rattle.register_input.specs.Cutting.{judging_input, sign_on_of}
use Rattle.register_input.proofs.judge.Goals as goal

pub returns : goal.returns
unfolding judging_input sign_on_of
returns c = simp (
  c.grade_and_frames-grade.ensures.0,
  c.cut.ensures.0,
  c.cut-2.ensures.0,
  c.cut-3.ensures.0,
  c.cut-4.ensures.0,
  c.cut-5.ensures.0,
  c.cut-6.ensures.0,
  c.cut-6.ensures.1,
  c.cut-5.ensures.1,
  c.cut-4.ensures.1,
  c.cut-3.ensures.1,
  c.cut-2.ensures.1,
  c.cut.ensures.1,
  c.grade_and_frames-grade.ensures.1,
) at c.verdict.ensures.says
