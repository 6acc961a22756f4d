-- `write_below` meets its contract: those that are drawn stand over the front.
use mathlib.Core.Path.{◌≡◌, sym, ap, ◌∙◌, subst}
use mathlib.Core.List.{List}
use native.Mathlib.Omega.{arith}
use lib.ListN.{set, length-set}
use lib.Seq.{length-take-le}
use Rattle.std.specs.Prelude.{IsSome}
use Rattle.algebra.proofs.Lists.{over-more}
use Rattle.random.proofs.Sequences.{written_none, written_more, written_enough, written_front, one_got, one_enough, written_bytes}
use Rattle.random.proofs.sequence.write_below.Goals as goal

pub loop-place-init : goal.loop-place-init
loop-place-init c = written_none _ _ _

pub unwrap-requires : goal.unwrap-requires
unwrap-requires c =
    let t = length-take-le c.args.n c.args.out.now c.requires.1 in
    subst IsSome (sym c.draw_below.ensures)
    (one_enough _ _ _ (written_enough _ _ _ _ _ _ c.loop-place.invariant _ (omega arith) c.requires.0))

pub loop-place-preserved : goal.loop-place-preserved
loop-place-preserved c = let l = c.loop-place in
    let w = l.invariant in
    let x = c.unwrap.result.0 in
    written_more _ _ _ _ _ _ w _ _ _ (one_got _ _ _ _ _ (sym c.unwrap.ensures ∙ c.draw_below.ensures)) (simp length-set)
    (ap (λ (z : List _). set z l.place-index x) w.now ∙ over-more w.list _ l.place-index x (written_bytes _ _ _ _ _ _ _ w) (omega arith))

pub returns : goal.returns
returns c =
    let l = c.loop-place in
    let t = length-take-le c.args.n c.args.out.now c.requires.1 in
    let e : l.place-index ≡ c.args.n = omega arith in
    written_front _ _ _ _ _ _ _ l.invariant e (written_bytes _ _ _ _ _ _ _ l.invariant ∙ e) c.requires.1
