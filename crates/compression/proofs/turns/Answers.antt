-- `turns` is the 64 turns: after t of them, where t is a multiple of 4, the working variables are those of the definition.
use mathlib.Core.Path.{◌≡◌, refl}
use Prim.Native.Nat.{◌+◌, ◌<◌}
use native.Mathlib.Omega.{arith}
use Rattle.compression.proofs.Loops.{turns_more}
use Rattle.compression.specs.Block.{turns_of}
use Rattle.compression.specs.Constants.{K}
use Rattle.compression.proofs.turns.Goals as goal

pub loop-t-init : goal.loop-t-init
unfolding turns_of
loop-t-init c = (omega arith, omega arith, refl)

pub loop-t-preserved : goal.loop-t-preserved
unfolding K
loop-t-preserved c = let w = c.args.w.now in
    let v = c.args.v in
    let t = c.loop-t.t in
    let h = c.loop-t.invariant in
    let e : t + 4 ≡ t + 3 + 1 = omega arith in
    let e3 : t + 3 ≡ t + 2 + 1 = omega arith in
    let e2 : t + 2 ≡ t + 1 + 1 = omega arith in
    let s1 : c.turn-s.result ≡ turns_of w (t + 1) v = rw (turns_more w t v, ← h.2) c.turn-s.ensures in
    let s2 : c.turn-s-in-loop-t.result ≡ turns_of w (t + 2) v = rw (e2, turns_more w (t + 1) v, ← s1) c.turn-s-in-loop-t.ensures in
    let s3 : c.turn-s-in-loop-t-2.result ≡ turns_of w (t + 3) v = rw (e3, turns_more w (t + 2) v, ← s2) c.turn-s-in-loop-t-2.ensures in
    let below : t < 64 = c.loop-t-test.true in
    (omega (arith, h.1), omega (arith, h.1), rw (e, turns_more w (t + 3) v, ← s3) c.turn-s-in-loop-t-3.ensures)

pub returns : goal.returns
returns c = let e : c.loop-t.t ≡ 64 = omega arith in
    rw e at c.loop-t.invariant.2
