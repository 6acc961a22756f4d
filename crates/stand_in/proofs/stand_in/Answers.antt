-- `stand_in` meets its contract: nothing is written before the last check.
use mathlib.Core.Path.{refl, sym, ap, ◌∙◌}
use mathlib.Core.List.{[]}
use native.Mathlib.Omega.{arith}
use lib.Seq.{length-take-le}
use Rattle.refusals.specs.Told.{means, means_count}
use Rattle.refusals.proofs.Chain.{goes_on, stops, handed_on}
use Rattle.algebra.specs.Lists.{over}
use Rattle.stand_in_round.specs.Bytes.{round_bytes}
use Rattle.stand_in.specs.Standing.{standing}
use Rattle.scheme.specs.Round.{Opened}
use Rattle.writers.proofs.Writing.{no_room, room_enough}
use Rattle.stand_in.proofs.Facts.{StandInFits, lent-told, parts_fit, parts_stand_in}
use Rattle.stand_in.proofs.stand_in.Goals as goal
use Rattle.stand_in.proofs.stand_in.Goals.{In_ok-check_lent}

-- past the checks
past_lent : (c : In_ok-check_lent) → StandInFits c.args.c c.args.bit c.args.system.now c.args.key.now c.args.lent.now
past_lent c = lent-told _ _ _ _ _ [] (sym c.check_lent.ensures ∙ ap means c.in_ok-check_lent.was)

pub returns-in_err-check_lent : goal.returns-in_err-check_lent
unfolding standing
returns-in_err-check_lent c = let e = handed_on c.from_residual.ensures in
    record { says = ap means_count e ∙ stops _ c.check_lent.ensures c.in_err-check_lent.was; writes = rw e refl }

pub matrix_of-a-requires : goal.matrix_of-a-requires
matrix_of-a-requires c = let h = past_lent (goal.at.matrix_of-a-requires c).In_ok-check_lent in (h.system_there, h.system_fits)

pub returns-then-out-need : goal.returns-then-out-need
unfolding standing
returns-then-out-need c = record {
  says = ap means_count c.refuse.ensures ∙ goes_on c.check_lent.ensures c.in_ok-check_lent.was (no_room _ _ _ (omega (arith, c.matrix_of-a.ensures.places)) c.if-out-need.true);
  writes = rw c.refuse.ensures refl;
}

pub slice_bounds-x-end : goal.slice_bounds-x-end
slice_bounds-x-end c = let t = (past_lent (goal.at.slice_bounds-x-end c).In_ok-check_lent).size in sym (length-take-le _ _ (omega (arith, c.matrix_of-a.ensures.places)))

pub slice_bounds-x-count : goal.slice_bounds-x-count
slice_bounds-x-count c = let t = (past_lent (goal.at.slice_bounds-x-count c).In_ok-check_lent).size in omega (arith, c.matrix_of-a.ensures.places)

pub slice_bounds-x-start : goal.slice_bounds-x-start
slice_bounds-x-start c = let t = (past_lent (goal.at.slice_bounds-x-start c).In_ok-check_lent).size in omega (arith, c.matrix_of-a.ensures.places)

pub slice_bounds-put_round-count : goal.slice_bounds-put_round-count
slice_bounds-put_round-count c = let t = (past_lent (goal.at.slice_bounds-put_round-count c).In_ok-check_lent).key_there in omega arith

pub slice_bounds-put_round-start : goal.slice_bounds-put_round-start
slice_bounds-put_round-start c = let t = (past_lent (goal.at.slice_bounds-put_round-start c).In_ok-check_lent).key_there in omega arith

pub overflow_cast-c : goal.overflow_cast-c
overflow_cast-c c = let t = (past_lent (goal.at.overflow_cast-c c).In_ok-check_lent).challenge in omega arith

pub invariant_of-x : goal.invariant_of-x
invariant_of-x c = let h = past_lent (goal.at.invariant_of-x c).In_ok-check_lent in
    let a = c.matrix_of-a.ensures in
    let f = parts_fit _ _ _ _ _ h _ _ _ a.entries a.places a.rows in
    record { even = f.2 ∙ sym f.4 }

pub put_round-requires : goal.put_round-requires
put_round-requires c = let h = past_lent (goal.at.put_round-requires c).In_ok-check_lent in
    let a = c.matrix_of-a.ensures in
    let f = parts_fit _ _ _ _ _ h _ _ _ a.entries a.places a.rows in
    (f.1, h.challenge, f.3, f.4, c.if-out-need.false)

pub returns : goal.returns
unfolding standing
returns c = let g = c.args in
    let h = past_lent (goal.at.returns c).In_ok-check_lent in
    let a = c.matrix_of-a.ensures in
    record {
      says = goes_on c.check_lent.ensures c.in_ok-check_lent.was (room_enough _ _ _ (omega (arith, c.matrix_of-a.ensures.places)) c.if-out-need.false);
      writes = c.put_round.ensures ∙ ap (λ (o : Opened). over (round_bytes o) g.out.now) (parts_stand_in _ _ _ _ _ h _ _ _ a.entries a.places a.rows);
    }
