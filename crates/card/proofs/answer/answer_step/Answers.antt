-- `answer_step` meets its contract: nothing is written before the last check.
use mathlib.Core.Path.{refl, sym, ap, ◌∙◌}
use mathlib.Core.List.{List, []}
use Prim.Native.Nat.{ℕ}
use native.Mathlib.Omega.{arith}
use lib.ListN.{length}
use Rattle.algebra.specs.Lists.{over}
use Rattle.card_rules.proofs.Facts.{AnswerFits, answer-told}
use Rattle.card_rules.specs.Parts.{as_keys}
use Rattle.card_rules.specs.Keys.{places_of}
use Rattle.card_steps.proofs.Parts.{answers-formed, card-parts, challenges-sent}
use Rattle.card_steps.specs.Steps.{answer_told, answered}
use Rattle.frames.proofs.Orders.{rest_part}
use Rattle.writers.specs.Writing.{frame}
use Rattle.kinds.specs.declared.Kind.TheVariants.{Answers, Challenges}
use Rattle.refusals.proofs.Chain.{goes_on, stops}
use Rattle.refusals.specs.Told.{means}
use Rattle.card.proofs.answer.answer_step.Goals as goal
use Rattle.card.proofs.answer.answer_step.Goals.{In_default}

-- past the checks
past : (c : In_default) → AnswerFits c.args.session (as_keys c.args.keys.now) c.args.message.now c.args.choices.now (length c.args.out.now)
past c = answer-told _ _ _ _ _ [] (sym c.check_answer.ensures ∙ ap means c.in_default.is)

pub returns-in-Err : goal.returns-in-Err
unfolding answer_told
returns-in-Err c = record { says = stops _ c.check_answer.ensures c.in-Err.is; moves = refl; writes = refl }

pub matrix-n-requires : goal.matrix-n-requires
matrix-n-requires c = (past (goal.at.matrix-n-requires c).In_default).lent.keys

pub vector-requires : goal.vector-requires
vector-requires c = (past (goal.at.vector-requires c).In_default).lent.keys

pub permutation-requires : goal.permutation-requires
permutation-requires c = (past (goal.at.permutation-requires c).In_default).lent.keys

pub slice_bounds-challenges-count : goal.slice_bounds-challenges-count
slice_bounds-challenges-count c = let t = (past (goal.at.slice_bounds-challenges-count c).In_default).sent.form.there in omega arith

pub slice_bounds-challenges-start : goal.slice_bounds-challenges-start
slice_bounds-challenges-start c = let t = (past (goal.at.slice_bounds-challenges-start c).In_default).sent.form.there in omega arith

pub put_answers-requires : goal.put_answers-requires
put_answers-requires c = let g = c.args in let h = past (goal.at.put_answers-requires c).In_default in let k = as_keys g.keys.now in
    let e = challenges-sent _ _ g.message.now h.sent in
    rw (c.matrix-n.ensures.places, c.from-rounds.ensures) (card-parts k _ _ h.lent _ _ _ refl c.vector.ensures c.permutation.ensures, h.lent.keys.system.most, h.lent.most, omega arith, h.enough)

pub with_challenges-requires : goal.with_challenges-requires
with_challenges-requires c = let g = c.args in let h = past (goal.at.with_challenges-requires c).In_default in let e = challenges-sent _ _ g.message.now h.sent in let m = h.lent.most in omega arith

pub returns : goal.returns
unfolding answer_told
returns c = let g = c.args in let h = past (goal.at.returns c).In_default in let k = as_keys g.keys.now in
    let n = places_of k in
    record {
      says = goes_on c.check_answer.ensures c.in_default.is (rw (c.matrix-n.ensures.places, c.from-rounds.ensures));
      moves = c.with_challenges.ensures ∙ ap (answered g.session) (rest_part Challenges g.message.now 5 refl);
      writes =
          rw (c.matrix-n.ensures.places, c.from-rounds.ensures) at c.put_answers.ensures
          ∙ ap (λ (l : List ℕ). over (frame Answers n g.session.rounds l) g.out.now) (answers-formed k _ _ h.lent _ _ _ refl c.vector.ensures c.permutation.ensures g.message.now);
    }
