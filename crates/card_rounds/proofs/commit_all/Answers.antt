-- `commit_all` meets its contract: after k turns the commitments of the first k rounds stand over the front.
use mathlib.Core.Path.{◌≡◌}
use native.Mathlib.Omega.{arith}
use Rattle.scheme.specs.Round.{as_system}
use Rattle.algebra.proofs.Lists.{stretch-fits, joining_none, joining_more}
use Rattle.rounds.specs.Rounds.{commitments_at}
use Rattle.rounds.proofs.Runs.{commitments-length}
use Rattle.card_rounds.proofs.commit_all.Goals as goal

pub loop-k-init : goal.loop-k-init
loop-k-init c = joining_none _ _

pub commit_at-requires : goal.commit_at-requires
commit_at-requires c = let s = c.loop-k.invariant.size in
    let f = stretch-fits 64 c.loop-k.k c.args.rounds c.loop-k-test.true in
    (c.requires.0.each _ c.loop-k-test.true, omega arith)

pub loop-k-preserved : goal.loop-k-preserved
loop-k-preserved c = let s = as_system c.args.a.now in
    let after = c.commit_at.new.out in
    joining_more 64 (commitments_at s c.args.pi.now c.args.choices.now) _ _ after _
    (λ j l. commitments-length s c.args.pi.now c.args.choices.now j) c.loop-k.invariant
    (omega (arith, c.commit_at.auto)) c.commit_at.ensures

pub returns : goal.returns
returns c = let e : c.loop-k.k ≡ c.args.rounds = omega arith in
    rw e at c.loop-k.invariant.now
