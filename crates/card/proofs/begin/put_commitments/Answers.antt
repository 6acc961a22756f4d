-- `put_commitments` meets its contract: the heading, and the body behind it.
use mathlib.Core.Path.{◌≡◌, refl, sym, ap, ◌∙◌}
use Prim.Native.Nat.{◌-◌, ◌*◌}
use native.Mathlib.Omega.{arith}
use native.Mathlib.Nat.{mul_comm}
use lib.ListN.{length}
use borrow.Rule.Slice.PartMut.{put_mid}
use Rattle.algebra.proofs.Lists.{length-joined}
use Rattle.algebra.specs.Lists.{joined}
use Rattle.card_steps.proofs.Parts.{body_written}
use Rattle.kinds.specs.declared.Kind.TheVariants.{Commitments}
use Rattle.scheme.specs.Round.{as_system}
use Rattle.rounds.proofs.Runs.{commitments-length}
use Rattle.rounds.specs.Rounds.{commitments_at}
use Rattle.card.proofs.begin.put_commitments.Goals as goal

pub returns : goal.returns
returns c = let g = c.args in let f = commitments_at (as_system g.a.now) g.pi.now g.choices.now in
    let e : length (joined g.rounds f) ≡ g.rounds * 64 = length-joined 64 g.rounds f (λ j l. commitments-length _ g.pi.now g.choices.now j) in
    let d = c.put_heading.new.out in
    ap (put_mid 5 (length d - 5) d) c.commit_all.ensures
    ∙ body_written Commitments g.rounds 0 (joined g.rounds f) g.out.now d 5 _ refl (mul_comm 64 g.rounds ∙ sym e) c.put_heading.ensures (let k = c.put_heading.auto.out in let h = c.requires in omega (arith, mul_comm g.a.now.n g.rounds))
