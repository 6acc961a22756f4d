-- `open_all` meets its contract: after k turns the openings of the first k rounds stand over the front.
use mathlib.Core.Path.{◌≡◌}
use native.Mathlib.Omega.{arith}
use Rattle.algebra.proofs.Lists.{stretch-fits, joining_none, joining_more}
use Rattle.packed_bits.specs.PackedBits.{bit_at}
use Rattle.rounds.specs.Rounds.{opening_at}
use Rattle.rounds.proofs.Runs.{opening-length}
use Rattle.card_rounds.proofs.open_all.Goals as goal

pub loop-k-init : goal.loop-k-init
loop-k-init c = joining_none _ _

pub open_at-requires : goal.open_at-requires
open_at-requires c = let s = c.loop-k.invariant.size in
    let f = stretch-fits c.args.n c.loop-k.k c.args.rounds c.loop-k-test.true in
    (c.requires.0.each _ c.loop-k-test.true, omega arith, omega arith)

pub loop-k-preserved : goal.loop-k-preserved
loop-k-preserved c = let n = c.args.n in
    let after = c.open_at.new.out in
    joining_more n (opening_at n c.args.pi.now c.args.bits.now c.args.choices.now) _ _ after _
    (λ j l. opening-length n c.args.pi.now (bit_at c.args.bits.now j) _ (c.requires.0.each j (omega arith)).perm) c.loop-k.invariant
    (omega (arith, c.open_at.auto)) c.open_at.ensures

pub returns : goal.returns
returns c = let e : c.loop-k.k ≡ c.args.rounds = omega arith in
    rw e at c.loop-k.invariant.now
