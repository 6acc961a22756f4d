-- `read_frame` meets its contract: three checks in a row, and what a check that passed says is what the next one asks.
use mathlib.Core.Path.{ap, sym, ap₂, ◌∙◌}
use mathlib.Core.List.{[], ◌∷◌}
use native.Mathlib.Omega.{arith}
use lib.ListN.{length, length-drop}
use Rattle.refusals.specs.Told.{done, means}
use Rattle.refusals.proofs.Chain.{goes_on, stops, handed_on, demand_done}
use Rattle.kinds.specs.Kinds.{table}
use Rattle.frames.specs.Reading.{first_of, second_of, reading, read_means}
use Rattle.frames.proofs.Facts.{Headed, header-told, first_modest, Shaped, shape-told, rest-length, start_five}
use Rattle.frames.proofs.Orders.{rest_part, content-read, numbers-read}
use Rattle.frames.proofs.read.read_frame.Goals as goal
use Rattle.frames.proofs.read.read_frame.Goals.{In_ok-check_header, In_ok-check_shape}

-- past the header
past_header : (c : In_ok-check_header) → Headed c.args.kind c.args.s.now
past_header c = header-told _ _ [] (sym c.check_header.ensures ∙ ap means c.in_ok-check_header.was)

-- past SHAPE
past_shape : (c : In_ok-check_shape) → Shaped c.args.kind c.args.expected c.args.s.now
past_shape c = shape-told _ _ _ (demand_done _ _ _ _ [] (sym c.check_shape.ensures ∙ ap means c.in_ok-check_shape.was))

pub returns-in_err-check_header : goal.returns-in_err-check_header
unfolding reading
returns-in_err-check_header c = record { says = ap read_means (handed_on c.from_residual.ensures) ∙ stops _ c.check_header.ensures c.in_err-check_header.was }

pub check_shape-requires : goal.check_shape-requires
check_shape-requires c = let w = (past_header (goal.at.check_shape-requires c).In_ok-check_header).whole in
    let k = c.type_inv.s in
    omega (arith, k 0, k 1)

pub returns-in_err-check_shape : goal.returns-in_err-check_shape
unfolding reading
returns-in_err-check_shape c = record {
  says = ap read_means (handed_on c.from_residual-in_err-check_shape.ensures) ∙ goes_on c.check_header.ensures c.in_ok-check_header.was
      (stops _ c.check_shape.ensures c.in_err-check_shape.was);
}

pub bounds-s-4 : goal.bounds-s-4
bounds-s-4 c = let h = (past_shape (goal.at.bounds-s-4 c).In_ok-check_shape).there in let f = start_five c.args.kind in omega arith

pub second_of-second-requires : goal.second_of-second-requires
second_of-second-requires c = (past_shape (goal.at.second_of-second-requires c).In_ok-check_shape).there

pub slice_bounds-check_content-count : goal.slice_bounds-check_content-count
slice_bounds-check_content-count c = let h = (past_shape (goal.at.slice_bounds-check_content-count c).In_ok-check_shape).there in omega (arith, c.start-start.ensures.0)

pub slice_bounds-check_content-start : goal.slice_bounds-check_content-start
slice_bounds-check_content-start c = let h = (past_shape (goal.at.slice_bounds-check_content-start c).In_ok-check_shape).there in omega (arith, c.start-start.ensures.0)

pub check_content-requires : goal.check_content-requires
check_content-requires c = let s = c.args.s.now in
    let h = past_shape (goal.at.check_content-requires c).In_ok-check_shape in
    let w = h.whole in
    let a = c.from-first.ensures in
    let p = c.start-start.ensures.0 in
    let n = rest_part c.args.kind s _ p in
    let z = ap length n ∙ rest-length c.args.kind c.args.expected s h ∙ sym (ap₂ (table c.args.kind).size a c.second_of-second.ensures.0) in
    let e = ap length n in
    let m = (past_header (goal.at.check_content-requires c).In_ok-check_header).whole in
    let k = c.type_inv.s in (
      rw a (first_modest c.args.kind c.args.expected _ _ c.requires h.numbers),
      z,
      omega (arith, k 0, k 1, length-drop (table c.args.kind).start s),
    )

pub returns-in_err-check_content : goal.returns-in_err-check_content
unfolding reading
returns-in_err-check_content c = let k = c.args.kind in
    let s = c.args.s.now in
    record {
      says = ap read_means (handed_on c.from_residual-in_err-check_content.ensures) ∙ goes_on c.check_header.ensures c.in_ok-check_header.was
          (goes_on c.check_shape.ensures c.in_ok-check_shape.was
          (stops (done (first_of s ∷ second_of k s ∷ (table k).start ∷ [])) (c.check_content.ensures ∙ content-read k s _ _ _ c.from-first.ensures c.second_of-second.ensures.0 c.start-start.ensures.0)
          c.in_err-check_content.was));
    }

pub returns : goal.returns
unfolding reading
returns c = let k = c.args.kind in
    let s = c.args.s.now in
    let p = c.from-first.ensures in
    let q = c.second_of-second.ensures.0 in
    let r = c.start-start.ensures.0 in
    record {
      says = goes_on c.check_header.ensures c.in_ok-check_header.was
          (goes_on c.check_shape.ensures c.in_ok-check_shape.was
          (goes_on (c.check_content.ensures ∙ content-read k s _ _ _ p q r) c.in_ok-check_content.was (numbers-read k s _ _ _ p q r)));
    }
