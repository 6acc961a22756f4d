-- `is_permutation` meets its contract: a mark is set where the value was seen, and then it was seen once; what was seen is below n.
use mathlib.Core.Path.{refl, ap, ◌∙◌}
use mathlib.Core.Bool.{Bool, cond}
use native.Mathlib.Omega.{arith}
use lib.ListN.{length-set}
use Rattle.algebra.proofs.Marks.{no_place, seen_before, marked_none, marked_more, all_seen}
use Rattle.algebra.proofs.permutation.is_permutation.Goals as goal
use Rattle.algebra.proofs.permutation.is_permutation.Goals.{then-n-k-via-then-n-k, then-n-k-via-else-n-k+then-seen-k}

pub loop-x-init : goal.loop-x-init
loop-x-init c = (refl, marked_none c.args.s.now)

pub returns-then-n-k : goal.returns-then-n-k
returns-then-n-k c =
    let l = c.loop-x in
    elim c.then-n-k.branch [
      | then-n-k-via-then-n-k w ↦ no_place _ _ _ c.loop-x-test.true c.from-k.ensures w.if-n-k.true
      | then-n-k-via-else-n-k+then-seen-k w ↦
          seen_before _ _ _ c.loop-x-test.true c.from-k.ensures w.if-n-k.false
          (l.invariant.1.mark _ (omega arith) ∙ ap (λ (b : Bool). cond b 1 0) w.if-seen-k.true)
    ]

pub loop-x-preserved : goal.loop-x-preserved
loop-x-preserved c = let l = c.loop-x in (
  simp length-set l.invariant.0,
  marked_more _ _ _ _ l.invariant.1 c.loop-x-test.true c.from-k.ensures c.if-n-k.false (omega arith) c.if-seen-k.false,
)

pub returns : goal.returns
returns c = let s = c.args.s.now in
    all_seen s _ _ c.requires c.loop-x-test.false c.loop-x.invariant.1
