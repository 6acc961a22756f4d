-- `schedule` is the schedule of the block: its first t words are those of the definition, through both loops.
use mathlib.Core.Path.{◌≡◌, refl, sym, ap, ◌∙◌}
use native.Mathlib.Omega.{arith}
use lib.ListN.{length-set}
use lib.Seq.{take_all}
use Rattle.compression.proofs.Loops.{W-more, word_low, word_high}
use Rattle.compression.specs.Block.{W, word_of}
use Rattle.compression.proofs.schedule.Goals as goal

pub loop-t-init : goal.loop-t-init
unfolding W
loop-t-init c = (refl, refl)

pub loop-t-preserved : goal.loop-t-preserved
loop-t-preserved c = let b = c.args.block.now in (
  W-more b c.loop-t.w c.loop-t.t c.word_at.result (omega arith) c.loop-t.invariant.0 (c.word_at.ensures ∙ sym (word_low b _ c.loop-t.t (omega arith))),
  simp length-set (omega arith),
)

pub loop-t-2-preserved : goal.loop-t-2-preserved
loop-t-2-preserved c = let b = c.args.block.now in
    let w = c.loop-t-2.w in
    let t = c.loop-t-2.t in (
      W-more b w t c.expand.result (omega arith) c.loop-t-2.invariant.0 (c.expand.ensures ∙ sym (word_high b w t (omega arith)) ∙ ap (word_of b t) c.loop-t-2.invariant.0),
      simp length-set (omega arith),
    )

pub returns : goal.returns
returns c = let e : c.loop-t-2.t ≡ 64 = omega arith in
    sym (take_all 64 c.loop-t-2.w (omega arith)) ∙ (rw e at c.loop-t-2.invariant.0)
