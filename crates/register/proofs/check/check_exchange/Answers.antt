-- `check_exchange` meets its contract: the chain, as the code goes through it.
use mathlib.Core.Path.{refl, ap, ◌∙◌}
use Rattle.refusals.specs.Told.{means}
use Rattle.refusals.proofs.Chain.{handed_on}
use Rattle.frames.proofs.Orders.{frame_goes_on, frame-stops}
use Rattle.register_rules.specs.Verdict.{exchange_check}
use Rattle.register.proofs.check.check_exchange.Goals as goal

pub returns-in_err-read_frame : goal.returns-in_err-read_frame
unfolding exchange_check
returns-in_err-read_frame c = ap means (handed_on c.from_residual.ensures)
    ∙ frame-stops _ (rw c.exactly-expected.ensures at c.read_frame.ensures.says) c.in_err-read_frame.was

pub returns-in_err-read_frame-2 : goal.returns-in_err-read_frame-2
unfolding exchange_check
returns-in_err-read_frame-2 c = ap means (handed_on c.from_residual-in_err-read_frame-2.ensures)
    ∙ frame_goes_on (rw c.exactly-expected.ensures at c.read_frame.ensures.says) c.in_ok-read_frame.was
    (frame-stops _ (rw c.exactly-expected.ensures at c.read_frame-2.ensures.says) c.in_err-read_frame-2.was)

pub returns-in_err-read_frame-3 : goal.returns-in_err-read_frame-3
unfolding exchange_check
returns-in_err-read_frame-3 c = ap means (handed_on c.from_residual-in_err-read_frame-3.ensures)
    ∙ frame_goes_on (rw c.exactly-expected.ensures at c.read_frame.ensures.says) c.in_ok-read_frame.was
    (frame_goes_on (rw c.exactly-expected.ensures at c.read_frame-2.ensures.says) c.in_ok-read_frame-2.was
    (frame-stops _ (rw c.exactly-expected.ensures at c.read_frame-3.ensures.says) c.in_err-read_frame-3.was))

pub returns-in_err-read_frame-4 : goal.returns-in_err-read_frame-4
unfolding exchange_check
returns-in_err-read_frame-4 c = ap means (handed_on c.from_residual-in_err-read_frame-4.ensures)
    ∙ frame_goes_on (rw c.exactly-expected.ensures at c.read_frame.ensures.says) c.in_ok-read_frame.was
    (frame_goes_on (rw c.exactly-expected.ensures at c.read_frame-2.ensures.says) c.in_ok-read_frame-2.was
    (frame_goes_on (rw c.exactly-expected.ensures at c.read_frame-3.ensures.says) c.in_ok-read_frame-3.was
    (frame-stops _ (rw c.exactly-expected.ensures at c.read_frame-4.ensures.says) c.in_err-read_frame-4.was)))

pub returns : goal.returns
unfolding exchange_check
returns c = frame_goes_on (rw c.exactly-expected.ensures at c.read_frame.ensures.says) c.in_ok-read_frame.was
    (frame_goes_on (rw c.exactly-expected.ensures at c.read_frame-2.ensures.says) c.in_ok-read_frame-2.was
    (frame_goes_on (rw c.exactly-expected.ensures at c.read_frame-3.ensures.says) c.in_ok-read_frame-3.was
    (frame_goes_on (rw c.exactly-expected.ensures at c.read_frame-4.ensures.says) c.in_ok-read_frame-4.was
    refl)))
