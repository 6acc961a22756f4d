-- `put_answers` meets its contract: the heading, and the body behind it.
use mathlib.Core.Path.{◌≡◌, refl, sym, ap, ◌∙◌}
use Prim.Native.Nat.{◌-◌, ◌*◌}
use native.Mathlib.Omega.{arith}
use native.Mathlib.Nat.{mul_comm}
use lib.ListN.{length, get_or}
use borrow.Rule.Slice.PartMut.{put_mid}
use Rattle.algebra.proofs.Lists.{length-joined}
use Rattle.algebra.specs.Lists.{joined}
use Rattle.algebra.specs.Residues.{modulus}
use Rattle.card_steps.proofs.Parts.{body_written}
use Rattle.kinds.specs.declared.Kind.TheVariants.{Answers}
use Rattle.rounds.proofs.Runs.{answer-length}
use Rattle.rounds.specs.Layout.{pair_at}
use Rattle.rounds.specs.Rounds.{answer_at}
use Rattle.card.proofs.answer.put_answers.Goals as goal

pub returns : goal.returns
returns c = let g = c.args in let f = answer_at modulus g.n g.v.now g.pi.now g.challenges.now g.choices.now in
    let e : length (joined g.rounds f) ≡ g.rounds * g.n = length-joined g.n g.rounds f (λ j l. answer-length modulus g.n g.v.now g.pi.now (get_or g.challenges.now j 0) (pair_at g.n g.choices.now j) (c.requires.0.each j l).key (c.requires.0.each j l).perm) in
    let d = c.put_heading.new.out in
    ap (put_mid 6 (length d - 6) d) c.answer_all.ensures
    ∙ body_written Answers g.n g.rounds (joined g.rounds f) g.out.now d 6 _ refl (mul_comm g.n g.rounds ∙ sym e) c.put_heading.ensures (let k = c.put_heading.auto.out in let h = c.requires in omega (arith, mul_comm g.n g.rounds))
