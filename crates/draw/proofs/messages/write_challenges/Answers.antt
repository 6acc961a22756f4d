-- `write_challenges` meets its contract: the residues are the front of the room.
use mathlib.Core.Path.{sym, ap, ◌∙◌}
use mathlib.Core.List.{List}
use Prim.Native.Nat.{ℕ}
use Rattle.random.specs.Drawings.{Drawing, drawn_over}
use Rattle.algebra.specs.Lists.{over}
use Rattle.algebra.specs.Residues.{modulus}
use Rattle.writers.specs.Writing.{frame}
use Rattle.draw_rules.specs.Making.{draw_challenges}
use Rattle.random.specs.Sequences.{made, draw_residues}
use Rattle.random.proofs.Sequences.{drew_of, drawn_front}
use Rattle.kinds.specs.declared.Kind.TheVariants.{Challenges}
use Rattle.draw.proofs.messages.write_challenges.Goals as goal

pub returns : goal.returns
unfolding draw_challenges
returns c = let g = c.args in
    let n = g.rounds in
    let random = g.random.now in
    let w = c.write_below in
    let d = draw_residues n random 0 in
    let a = drew_of d w.result w.ensures.0 in
    c.put_frame.ensures
    ∙ ap (λ (l : List ℕ). over (frame Challenges n 0 l) g.out.now) (drawn_front modulus random n 0 _ a.0 _ _ a.1 w.ensures.1).1
    ∙ sym (ap (λ (z : Drawing). drawn_over (made (frame Challenges n 0) z) g.out.now) a.1)
