-- `write_key` meets its contract: V and π are the fronts of their rooms.
use mathlib.Core.Path.{ap₂, ◌∙◌}
use mathlib.Core.List.{List, ◌++◌}
use Prim.Native.Nat.{ℕ}
use native.Mathlib.Omega.{arith}
use lib.ListN.{take, drop}
use Rattle.algebra.specs.Lists.{over}
use Rattle.algebra.proofs.Lists.{front}
use Rattle.writers.specs.Writing.{frame}
use Rattle.key_making.specs.Key.{key_frames, draw_pair, draw_key}
use Rattle.random.specs.Sequences.{list_of}
use Rattle.key_making.proofs.Making.{DrawnPair, pair-drawn, length-public_key, listed, made-over}
use Rattle.kinds.specs.declared.Kind.TheVariants.{Public, Secret}
use Rattle.key_making.proofs.write_key.Goals as goal

pub returns : goal.returns
unfolding draw_key key_frames
returns c = let n = c.args.a.now.n in
    let m = c.args.a.now.m in
    let fits = c.args.a.now.fits in
    let out = c.args.out.now in
    let entries = c.args.a.now.entries.now in
    let d = draw_pair n m c.args.random.now in
    let l = list_of d in
    let f = c.form_key in
    let h = listed (DrawnPair n m) d (pair-drawn n m c.args.random.now (omega arith)) c.requires.0 in
    c.put_key.ensures
    ∙ ap₂ (λ (v pi : List ℕ). over (frame Public n 0 v ++ frame Secret n 0 pi) out)
    (front _ _ _ n (length-public_key entries n m (take n l) (drop n l)) f.ensures.1)
    (front _ _ _ n h.perm.len f.ensures.0)
    ∙ made-over (λ (z : List ℕ). key_frames entries n m (take n z) (drop n z)) d out c.requires.0
