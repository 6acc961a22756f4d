-- `put_key` meets its contract: the second frame starts where the first ends.
use Prim.Native.Nat.{◌-◌}
use native.Mathlib.Omega.{arith}
use lib.ListN.{length}
use Rattle.writers.specs.Writing.{frame}
use Rattle.writers.proofs.Spelling.{frame-spells}
use Rattle.key_making.proofs.Making.{place-fits}
use Rattle.random.proofs.Sequences.{behind}
use Rattle.kinds.specs.declared.Kind.TheVariants.{Public, Secret}
use Rattle.key_making.proofs.put_key.Goals as goal

pub returns : goal.returns
returns c = let n = c.args.n in
    let one = c.put_frame in
    let two = c.put_frame-2 in
    let s = c.frame_size-second in
    let e = s.ensures.0 in
    let half = one.new.out in
    let f = place-fits n c.requires.0 c.requires.1 in
    let i = (frame-spells Public n 0 c.args.v.now f.0).size in
    let j = (frame-spells Secret n 0 c.args.pi.now f.1).size in
    behind (frame Public n 0 c.args.v.now) (frame Secret n 0 c.args.pi.now) c.args.out.now half _ s.result (length half - s.result) (omega arith) one.ensures two.ensures (omega (arith, one.auto)) (omega (arith, one.auto))
