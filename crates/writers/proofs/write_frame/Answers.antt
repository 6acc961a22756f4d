-- `write_frame` meets its contract: nothing is written before the last check.
use mathlib.Core.Path.{refl, sym, ap, ◌∙◌}
use mathlib.Core.List.{[]}
use native.Mathlib.Omega.{arith}
use Rattle.refusals.specs.Told.{means, means_count}
use Rattle.refusals.proofs.Chain.{goes_on, stops, handed_on}
use Rattle.kinds.specs.Kinds.{frame_size}
use Rattle.writers.specs.Writing.{writing}
use Rattle.frames.proofs.Facts.{numbers-small, size_small}
use Rattle.writers.proofs.Writing.{Plain, plain_told, no_room, room_enough}
use Rattle.writers.proofs.write_frame.Goals as goal
use Rattle.writers.proofs.write_frame.Goals.{In_ok-check_plain}

-- past the plain buffer
past_plain : (c : In_ok-check_plain) → Plain c.args.kind c.args.a c.args.b c.args.plain.now
past_plain c = plain_told _ _ _ _ [] (sym c.check_plain.ensures ∙ ap means c.in_ok-check_plain.was)

pub returns-in_err-check_plain : goal.returns-in_err-check_plain
unfolding writing
returns-in_err-check_plain c = let h = handed_on c.from_residual.ensures in
    record { says = ap means_count h ∙ stops _ c.check_plain.ensures c.in_err-check_plain.was; writes = rw h refl }

pub returns-then-out-need : goal.returns-then-out-need
unfolding writing
returns-then-out-need c = let g = c.args in
    let h = (past_plain (goal.at.returns-then-out-need c).In_ok-check_plain).size in
    record {
      says = ap means_count c.refuse.ensures ∙ goes_on c.check_plain.ensures c.in_ok-check_plain.was
          (no_room (frame_size g.kind g.a g.b) _ _ (omega (arith, c.start.ensures.0)) c.if-out-need.true);
      writes = rw c.refuse.ensures refl;
    }

pub put_frame-requires : goal.put_frame-requires
put_frame-requires c = let g = c.args in
    let h = past_plain (goal.at.put_frame-requires c).In_ok-check_plain in
    let z = h.size in
    let n = numbers-small g.kind g.a g.b h.numbers in
    let m = size_small g.kind g.a g.b n.0 n.1 in
    (omega arith, omega arith, omega arith, omega (arith, c.start.ensures.0))

pub returns : goal.returns
unfolding writing
returns c = let g = c.args in
    let h = (past_plain (goal.at.returns c).In_ok-check_plain).size in
    record {
      says = goes_on c.check_plain.ensures c.in_ok-check_plain.was
          (room_enough (frame_size g.kind g.a g.b) _ _ (omega (arith, c.start.ensures.0)) c.if-out-need.false);
      writes = c.put_frame.ensures;
    }
