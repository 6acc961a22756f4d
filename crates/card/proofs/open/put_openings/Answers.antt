-- `put_openings` meets its contract: the heading, and the body behind it.
use mathlib.Core.Path.{◌≡◌, refl, sym, ap, ◌∙◌}
use Prim.Native.Nat.{◌-◌, ◌*◌}
use native.Mathlib.Omega.{arith}
use native.Mathlib.Nat.{mul_comm}
use lib.ListN.{length}
use borrow.Rule.Slice.PartMut.{put_mid}
use Rattle.algebra.proofs.Lists.{length-joined}
use Rattle.algebra.specs.Lists.{joined}
use Rattle.card_steps.proofs.Parts.{body_written}
use Rattle.packed_bits.specs.PackedBits.{bit_at}
use Rattle.kinds.specs.declared.Kind.TheVariants.{Openings}
use Rattle.rounds.proofs.Runs.{opening-length}
use Rattle.rounds.specs.Rounds.{opening_at}
use Rattle.card.proofs.open.put_openings.Goals as goal

pub returns : goal.returns
returns c = let g = c.args in let f = opening_at g.n g.pi.now g.bits.now g.choices.now in
    let e : length (joined g.rounds f) ≡ g.rounds * g.n = length-joined g.n g.rounds f (λ j l. opening-length g.n g.pi.now (bit_at g.bits.now j) _ (c.requires.0.each j l).perm) in
    let d = c.put_heading.new.out in
    ap (put_mid 6 (length d - 6) d) c.open_all.ensures
    ∙ body_written Openings g.n g.rounds (joined g.rounds f) g.out.now d 6 _ refl (mul_comm g.n g.rounds ∙ sym e) c.put_heading.ensures (let k = c.put_heading.auto.out in let h = c.requires in omega (arith, mul_comm g.n g.rounds))
