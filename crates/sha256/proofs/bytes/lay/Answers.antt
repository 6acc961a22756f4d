-- `lay` copies: after j bytes the buffer has the part's first j from place `at` on, and else what it had.
use mathlib.Core.Path.{◌≡◌, refl}
use native.Mathlib.Numerals.{add-one}
use native.Mathlib.Omega.{arith}
use lib.ListN.{length, length-set}
use lib.Seq.{paste-zero, paste-suc}
use Rattle.sha256.proofs.bytes.lay.Goals as goal

pub loop-j-init : goal.loop-j-init
loop-j-init c = (refl, paste-zero c.args.buffer.now c.args.at c.args.part.now)

pub loop-j-preserved : goal.loop-j-preserved
loop-j-preserved c = let g = c.args in
    let j = c.loop-j.j in (
      simp length-set c.loop-j.invariant.0,
      rw (add-one, c.loop-j.invariant.1) (paste-suc g.buffer.now g.at g.part.now j 0 (omega arith) (omega arith)),
    )

pub returns : goal.returns
returns c = let e : c.loop-j.j ≡ length c.args.part.now = omega arith in
    rw (← e) c.loop-j.invariant.1
