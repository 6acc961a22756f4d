-- `answer_all` meets its contract: after k turns the first answers of the first k rounds stand over the front.
use mathlib.Core.Path.{◌≡◌}
use native.Mathlib.Omega.{arith}
use Rattle.algebra.specs.Residues.{modulus}
use Rattle.algebra.proofs.Lists.{stretch-fits, joining_none, joining_more}
use Rattle.rounds.specs.Rounds.{answer_at}
use Rattle.rounds.proofs.Runs.{answer-length}
use Rattle.card_rounds.proofs.answer_all.Goals as goal

pub loop-k-init : goal.loop-k-init
loop-k-init c = joining_none _ _

pub answer_at-requires : goal.answer_at-requires
answer_at-requires c = let s = c.loop-k.invariant.size in
    let f = stretch-fits c.args.n c.loop-k.k c.args.rounds c.loop-k-test.true in
    (c.requires.0.each _ c.loop-k-test.true, omega arith, omega arith)

pub loop-k-preserved : goal.loop-k-preserved
loop-k-preserved c = let n = c.args.n in
    let after = c.answer_at.new.out in
    joining_more n (answer_at modulus n c.args.v.now c.args.pi.now c.args.challenges.now c.args.choices.now) _ _ after _
    (λ j l. answer-length modulus n c.args.v.now c.args.pi.now _ _ (c.requires.0.each j (omega arith)).key (c.requires.0.each j (omega arith)).perm) c.loop-k.invariant
    (omega (arith, c.answer_at.auto)) c.answer_at.ensures

pub returns : goal.returns
returns c = let e : c.loop-k.k ≡ c.args.rounds = omega arith in
    rw e at c.loop-k.invariant.now
