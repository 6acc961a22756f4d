-- `blocks` goes on from the hash value of whole blocks: after the blocks `done` of the part it has that of the message and those.
use Rattle.std.proofs.Common.{◌≡◌, ◌++◌, ◌∙◌, length, arith, rules, sym, ap, append_assoc, length-append}
use Rattle.sha256.proofs.Absorbing.{chained_more}
use Rattle.sha256.proofs.stream.blocks.Goals as goal

pub loop-block-preserved : goal.loop-block-preserved
loop-block-preserved c =
    let block = c.in-Some.block.now in
    let steps = c.in-Some.ensures.steps in
    let size : length block ≡ 64 = steps.1.1 ∙ c.loop-block.invariant.2 in
    let so_far = c.loop-block.invariant.3 in
    let done = so_far.0 in (
      search rules,
      tt,
      steps.0 ∙ c.loop-block.invariant.2,
      (
        done ++ block,
        so_far.1 ∙ ap (λ l. done ++ l) steps.1.0 ∙ sym (append_assoc done block _),
        rw (length-append done block) (omega (arith, so_far.2)),
        λ m k.
            rw (← append_assoc m done block, c.compress-v.ensures)
            (chained_more c.loop-block.v (m ++ done) block (so_far.3 m k) size),
      ),
    )
