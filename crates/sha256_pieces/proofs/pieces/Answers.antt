-- `pieces` has absorbed the front `done` of the message after each turn, and all of it at the end.
use Rattle.std.proofs.Common.{◌++◌, ◌∙◌, rules, sym, ap, append_assoc}
use Rattle.sha256_pieces.proofs.pieces.Goals as goal

pub loop-piece-preserved : goal.loop-piece-preserved
loop-piece-preserved c =
    let piece = c.in-Some.piece.now in
    let steps = c.in-Some.ensures.steps in
    let so_far = c.loop-piece.invariant.2 in
    let done = so_far.0 in (
      search rules,
      tt,
      (
        done ++ piece,
        so_far.1 ∙ ap (λ l. done ++ l) steps.1.0 ∙ sym (append_assoc done piece _),
        c.absorb-s.ensures.message done so_far.2,
      ),
    )
