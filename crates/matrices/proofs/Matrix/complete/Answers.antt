-- `complete` meets its contract: in each turn one more entry of the completed X stands in its place.
use mathlib.Core.Path.{ap, ◌∙◌}
use mathlib.Core.List.{List}
use Prim.Native.Nat.{ℕ, ◌+◌, ◌-◌}
use native.Mathlib.Omega.{arith}
use lib.ListN.{take, set}
use Rattle.algebra.specs.Residues.{modulus, negative}
use Rattle.matrices.specs.Matrices.{row_times}
use Rattle.matrices.proofs.Solving.{row_residue, completing_none, completing-row, completing-more, completing_all}
use Rattle.matrices.proofs.Matrix.complete.Goals as goal

pub loop-i-init : goal.loop-i-init
loop-i-init c = completing_none _ _ _ _ _ (omega arith)

pub negative-requires : goal.negative-requires
negative-requires c = rw c.row_times.ensures (row_residue modulus _ _ _ (omega arith))

pub loop-i-preserved : goal.loop-i-preserved
loop-i-preserved c = let s = c.args.self.now in
    let l = c.loop-i in
    let t = c.loop-i-test.true in
    completing-more modulus _ _ _ _ s.fits c.requires l.x l.i l.invariant t _
    (c.negative.ensures
    ∙ ap (negative modulus)
    (c.row_times.ensures
    ∙ ap (λ (row : List ℕ). row_times modulus row (take s.n (set l.x (s.n - s.m + l.i) 0)) l.i) c.row.ensures.cut
    ∙ completing-row modulus _ _ _ _ s.fits c.requires l.x l.i l.invariant t))

pub returns : goal.returns
returns c = completing_all _ _ _ _ _ _ _ c.loop-i.invariant (omega arith)
