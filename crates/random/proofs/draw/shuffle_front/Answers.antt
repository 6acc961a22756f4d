-- `shuffle_front` meets its contract: after each turn the list over the front of the output goes on to the whole drawing.
use mathlib.Core.Path.{sym, ap, ◌∙◌, subst}
use native.Mathlib.Nat.{mod-lt}
use native.Mathlib.Omega.{arith}
use Prim.Native.Nat.{◌+◌, ◌-◌, ◌%◌}
use Rattle.std.specs.Prelude.{IsSome}
use Rattle.std.proofs.lemmas.List.Edits.{swap_is}
use Rattle.random.specs.Drawings.{Drawing, exchange, used_by, drawn_over}
use Rattle.random.proofs.Drawings.{shuffling_none, shuffling_more, shuffling_enough, shuffling_done}
use Rattle.random.proofs.draw.shuffle_front.Goals as goal

pub loop-i-init : goal.loop-i-init
loop-i-init c = shuffling_none _ _ _ _ c.requires.2

pub unwrap-x-requires : goal.unwrap-x-requires
unwrap-x-requires c =
    subst IsSome (sym c.draw_for.ensures) (shuffling_enough _ _ _ _ _ _ _ c.loop-i.invariant c.loop-i-test.true c.requires.0)

pub loop-i-preserved : goal.loop-i-preserved
unfolding exchange
loop-i-preserved c =
    let l = c.loop-i in
    let m = mod-lt c.unwrap-x.result.0 {m = l.i - 1 + 1} (omega arith) in
    rw (c.swap.ensures.after, ← swap_is l.out (l.i - 1) (c.unwrap-x.result.0 % (l.i - 1 + 1)) 0 (omega arith) (omega arith))
    (shuffling_more _ _ _ _ _ _ _ l.invariant c.loop-i-test.true l.auto.i _ _ (sym c.unwrap-x.ensures ∙ c.draw_for.ensures))

pub returns : goal.returns
returns c = let w = c.loop-i.invariant in
    let e = shuffling_done _ _ _ _ _ _ _ w c.loop-i-test.false in
    let d = c.args.out.now in
    (sym (ap used_by e), w.now ∙ sym (ap (λ (m : Drawing). drawn_over m d) e))
