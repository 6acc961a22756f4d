-- `draw_challenges` meets its contract: a law of the order for each answer.
use mathlib.Core.Path.{sym, ap, ◌∙◌}
use mathlib.Core.List.{[]}
use native.Mathlib.Omega.{arith}
use Rattle.refusals.specs.declared.Buffer.TheVariants.{Output}
use Rattle.refusals.specs.declared.Reason.TheVariants.{Room}
use Rattle.random.proofs.Drawings.{enough_of}
use Rattle.kinds.specs.Kinds.{within, alone}
use Rattle.writers.specs.Writing.{frame}
use Rattle.draw_rules.specs.Telling.{refusal}
use Rattle.frames.proofs.Facts.{within-told}
use Rattle.draw_rules.specs.Making.{draw_challenges}
use Rattle.random.specs.Sequences.{draw_residues}
use Rattle.draw_rules.proofs.Orders.{bad_numbers, no_room, good-numbers, runs-out, takes}
use Rattle.random.proofs.Sequences.{made_used}
use Rattle.kinds.specs.declared.Kind.TheVariants.{Challenges}
use Rattle.draw.proofs.messages.draw_challenges.Goals as goal

pub returns-then-not-rounds_fit : goal.returns-then-not-rounds_fit
returns-then-not-rounds_fit c = let g = c.args in
    bad_numbers _ _ _ _ (within alone.rounds g.rounds) (sym c.rounds_fit.ensures ∙ c.if-not-rounds_fit.true) c.refuse.ensures

pub returns-then-out-need : goal.returns-then-out-need
returns-then-out-need c = let g = c.args in
    let s = c.frame_size-need.ensures.0 in
    no_room _ _ _ _ _ [] (good-numbers (within alone.rounds g.rounds) (sym c.rounds_fit.ensures ∙ c.if-not-rounds_fit.false)) (omega arith) (c.refuse-then-out-need.ensures ∙ ap (refusal Room Output) s)

pub write_challenges-requires : goal.write_challenges-requires
write_challenges-requires c = let g = c.args in
    let w = within-told alone.rounds g.rounds (sym c.rounds_fit.ensures ∙ c.if-not-rounds_fit.false) in
    let s = c.frame_size-need.ensures.0 in
    (enough_of (draw_residues g.rounds g.random.now 0) _ (sym c.in-Some.is ∙ c.measure_below.ensures), omega arith, omega arith)

pub returns-in-None : goal.returns-in-None
unfolding draw_challenges
returns-in-None c = let g = c.args in
    let s = c.frame_size-need.ensures.0 in
    runs-out _ _ _ _ _ [] (good-numbers (within alone.rounds g.rounds) (sym c.rounds_fit.ensures ∙ c.if-not-rounds_fit.false)) (omega arith)
    (sym c.in-None.is ∙ c.measure_below.ensures ∙ sym (made_used (frame Challenges g.rounds 0) (draw_residues g.rounds g.random.now 0))) c.refuse-in-None.ensures

pub returns-in-Some : goal.returns-in-Some
unfolding draw_challenges
returns-in-Some c = let g = c.args in
    let s = c.frame_size-need.ensures.0 in
    takes _ _ _ _ _ [] (good-numbers (within alone.rounds g.rounds) (sym c.rounds_fit.ensures ∙ c.if-not-rounds_fit.false)) (omega arith)
    (sym c.in-Some.is ∙ c.measure_below.ensures ∙ sym (made_used (frame Challenges g.rounds 0) (draw_residues g.rounds g.random.now 0))) c.write_challenges.ensures
