-- `check_lent` meets its contract: the chain, as the code goes through it.
use mathlib.Core.Path.{ap, ◌∙◌}
use Rattle.refusals.specs.Told.{means}
use Rattle.refusals.proofs.Chain.{handed_on}
use Prim.Native.Nat.{◌≤◌}
use native.Mathlib.Omega.{arith}
use Rattle.algebra.specs.Permutations.{longest}
use Rattle.kinds.specs.Kinds.{alone, of_places}
use Rattle.frames.specs.Reading.{first_of, Reads}
use Rattle.frames.proofs.Facts.{FrameFits, frame-fits}
use Rattle.readers.proofs.Passing.{system-fits}
use Rattle.stand_in.proofs.Orders.{bad_numbers, bad_system, bad_key, choices-decide}
use Rattle.kinds.specs.declared.Kind.TheVariants.{System, Public}
use Rattle.stand_in.proofs.check_lent.Goals as goal
use Rattle.stand_in.proofs.check_lent.Goals.{After-read_frame, After-from-n, In_ok-read}

-- past the system's frame
system_fine : (c : In_ok-read) → FrameFits System alone c.args.system.now
system_fine c = frame-fits System alone _ _ _ c.read.ensures c.in_ok-read.was

-- n is at most 64
n_fits : (c : After-from-n) → c.from-n.result ≤ longest
n_fits c = let m = (system-fits _ (frame-fits System alone _ _ _ c.read.ensures c.in_ok-read.was)).most in omega (arith, c.from-n.ensures)

-- the key is asked to have the system's n
key_read : (c : After-read_frame) → Reads Public (of_places (first_of c.args.system.now)) c.args.key.now c.read_frame.result
key_read c = rw (c.of_places.ensures, c.from-n.ensures) at c.read_frame.ensures

pub returns-then-c : goal.returns-then-c
returns-then-c c = ap means c.refuse.ensures ∙ bad_numbers _ _ _ _ _ c.then-c.either

pub returns-in_err-read : goal.returns-in_err-read
returns-in_err-read c = ap means (handed_on c.from_residual.ensures) ∙ bad_system _ _ _ _ _ c.if-c.false c.if-bit-ge2.false _ c.read.ensures _ c.in_err-read.was

pub bounds-system-4 : goal.bounds-system-4
bounds-system-4 c = let t = (system_fine (goal.at.bounds-system-4 c).In_ok-read).form.there in omega arith

pub read_frame-requires : goal.read_frame-requires
read_frame-requires c = rw c.of_places.ensures (record { places = n_fits (goal.at.read_frame-requires c).After-from-n; rounds = omega arith })

pub returns-in_err-read_frame : goal.returns-in_err-read_frame
returns-in_err-read_frame c = ap means (handed_on c.from_residual-in_err-read_frame.ensures) ∙ bad_key _ _ _ _ _ c.if-c.false c.if-bit-ge2.false _ c.read.ensures _ c.in_ok-read.was _ (key_read (goal.at.returns-in_err-read_frame c).After-read_frame) _ c.in_err-read_frame.was

pub check_choices-requires : goal.check_choices-requires
check_choices-requires c = (n_fits (goal.at.check_choices-requires c).After-from-n, omega arith)

pub returns : goal.returns
returns c = choices-decide _ _ _ _ _ c.if-c.false c.if-bit-ge2.false _ c.read.ensures _ c.in_ok-read.was _ (key_read (goal.at.returns c).After-read_frame) _ c.in_ok-read_frame.was _
    (rw c.from-n.ensures at c.check_choices.ensures)
