-- `check_basis` meets its contract: the chain, as the code goes through it.
use mathlib.Core.Path.{refl, ap, ◌∙◌}
use native.Mathlib.Omega.{arith}
use Rattle.refusals.specs.Told.{means}
use Rattle.refusals.proofs.Chain.{handed_on}
use Rattle.frames.proofs.Facts.{FrameFits, frame-fits}
use Rattle.frames.proofs.Orders.{frame_goes_on, frame-stops}
use Rattle.readers.proofs.Passing.{system-fits}
use Rattle.kinds.specs.Kinds.{Modest, alone}
use Rattle.kinds.specs.declared.Kind.TheVariants.{System}
use Rattle.register_rules.specs.Verdict.{basis_check}
use Rattle.register.proofs.check.check_basis.Goals as goal
use Rattle.register.proofs.check.check_basis.Goals.{After-of_places-expected, In_ok-read}

-- past the system's frame
system_fine : (c : In_ok-read) → FrameFits System alone c.args.x.now.system.now
system_fine c = frame-fits System alone _ _ _ c.read.ensures c.in_ok-read.was

-- n is at most 64
modest : (c : After-of_places-expected) → Modest c.of_places-expected.result
modest c = let m = (system-fits _ (frame-fits System alone _ _ _ c.read.ensures c.in_ok-read.was)).most in
    rw c.of_places-expected.ensures (record { places = omega (arith, c.from.ensures); rounds = omega arith })

pub returns-in_err-read : goal.returns-in_err-read
unfolding basis_check
returns-in_err-read c = ap means (handed_on c.from_residual.ensures) ∙ frame-stops _ c.read.ensures.says c.in_err-read.was

pub bounds-x-4 : goal.bounds-x-4
bounds-x-4 c = let t = (system_fine (goal.at.bounds-x-4 c).In_ok-read).form.there in omega arith

pub read_frame-requires : goal.read_frame-requires
read_frame-requires c = modest (goal.at.read_frame-requires c).After-of_places-expected

pub returns-in_err-read_frame : goal.returns-in_err-read_frame
unfolding basis_check
returns-in_err-read_frame c = ap means (handed_on c.from_residual-in_err-read_frame.ensures) ∙ frame_goes_on c.read.ensures.says c.in_ok-read.was
    (frame-stops _ (rw (c.of_places-expected.ensures, c.from.ensures) at c.read_frame.ensures.says) c.in_err-read_frame.was)

pub read_frame-requires-2 : goal.read_frame-requires-2
read_frame-requires-2 c = modest (goal.at.read_frame-requires-2 c).After-of_places-expected

pub returns-in_err-read_frame-2 : goal.returns-in_err-read_frame-2
unfolding basis_check
returns-in_err-read_frame-2 c = ap means (handed_on c.from_residual-in_err-read_frame-2.ensures) ∙ frame_goes_on c.read.ensures.says c.in_ok-read.was
    (frame_goes_on (rw (c.of_places-expected.ensures, c.from.ensures) at c.read_frame.ensures.says) c.in_ok-read_frame.was
    (frame-stops _ (rw (c.of_places-expected.ensures, c.from.ensures) at c.read_frame-2.ensures.says) c.in_err-read_frame-2.was))

pub returns : goal.returns
unfolding basis_check
returns c = frame_goes_on c.read.ensures.says c.in_ok-read.was
    (frame_goes_on (rw (c.of_places-expected.ensures, c.from.ensures) at c.read_frame.ensures.says) c.in_ok-read_frame.was
    (frame_goes_on (rw (c.of_places-expected.ensures, c.from.ensures) at c.read_frame-2.ensures.says) c.in_ok-read_frame-2.was refl))
