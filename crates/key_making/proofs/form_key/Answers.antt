-- `form_key` meets its contract: π and the start of X are drawn, X is completed, and V is X put to its places.
use mathlib.Core.Path.{◌≡◌, sym, ap, ap₂, ◌∙◌, subst}
use mathlib.Core.List.{List}
use Prim.Native.Nat.{ℕ, ◌-◌}
use native.Mathlib.Omega.{arith}
use lib.ListN.{length, take, drop}
use lib.Seq.{length-take-le, take_at, drop_at}
use Rattle.random.specs.Drawings.{Drawing, draw_permutation, drawn_over}
use Rattle.algebra.specs.Lists.{over}
use Rattle.algebra.specs.Permutations.{unpermute}
use Rattle.algebra.specs.Residues.{modulus}
use Rattle.matrices.specs.Solving.{completed}
use Rattle.random.proofs.Drawings.{Permutes, drawn-perm}
use Rattle.algebra.proofs.Lists.{front}
use Rattle.matrices.proofs.Solving.{length-completed}
use Rattle.key_making.specs.Key.{public_key, draw_pair}
use Rattle.random.specs.Sequences.{list_of, and_then, draw_residues}
use Rattle.random.proofs.Sequences.{drew_of, then_drew, enough-first, enough_next, drawn_front}
use Rattle.key_making.proofs.form_key.Goals as goal

pub write_permutation-p-requires : goal.write_permutation-p-requires
unfolding draw_pair
write_permutation-p-requires c = let s = c.args.a.now.fits in (
  enough-first (draw_permutation c.args.a.now.n c.args.random.now 0) (draw_residues (c.args.a.now.n - c.args.a.now.m) c.args.random.now) c.requires.0,
  omega arith,
  omega arith,
  omega arith,
)

pub write_below-requires : goal.write_below-requires
unfolding draw_pair
write_below-requires c = let s = c.args.a.now.fits in (
  enough_next (draw_permutation c.args.a.now.n c.args.random.now 0) (draw_residues (c.args.a.now.n - c.args.a.now.m) c.args.random.now) _ c.requires.0 c.write_permutation-p.ensures.0,
  omega arith,
)

pub unpermute_into-requires : goal.unpermute_into-requires
unpermute_into-requires c = let n = c.args.a.now.n in
    let s = c.args.a.now.fits in
    let p = c.write_permutation-p in
    let x = c.complete in
    let a = drew_of (draw_permutation n c.args.random.now 0) p.result p.ensures.0 in
    let h = subst (Permutes n) a.1 (drawn-perm n c.args.random.now 0 (omega arith)) in
    let e = front a.0 c.args.pi.now _ n h.len (p.ensures.1 ∙ ap (λ (z : Drawing). drawn_over z c.args.pi.now) a.1) in
    let i = length-take-le n p.new.out (omega (arith, p.auto)) in
    let j = length-take-le n x.new.x (omega (arith, x.auto, c.write_below.auto)) in
    (rw (e, h.len) h, j ∙ sym i, omega arith)

pub returns : goal.returns
unfolding draw_pair public_key
returns c = let n = c.args.a.now.n in
    let m = c.args.a.now.m in
    let entries = c.args.a.now.entries.now in
    let random = c.args.random.now in
    let fits = c.args.a.now.fits in
    let p = c.write_permutation-p in
    let w = c.write_below in
    let x = c.complete in
    let v = c.args.v.now in
    let a = drew_of (draw_permutation n random 0) p.result p.ensures.0 in
    let k = drew_of (draw_residues (n - m) random p.result) w.result w.ensures.0 in
    let h = subst (Permutes n) a.1 (drawn-perm n random 0 (omega arith)) in
    let t = then_drew (draw_permutation n random 0) (draw_residues (n - m) random) a.1 k.1 in
    let front-part : take n (list_of (and_then (draw_permutation n random 0) (draw_residues (n - m) random))) ≡ a.0 = ap (λ (d : Drawing). take n (list_of d)) t ∙ take_at a.0 k.0 n h.len in
    let rest : drop n (list_of (and_then (draw_permutation n random 0) (draw_residues (n - m) random))) ≡ k.0 = ap (λ (d : Drawing). drop n (list_of d)) t ∙ drop_at a.0 k.0 n h.len in
    let pi = p.ensures.1 ∙ ap (λ (d : Drawing). drawn_over d c.args.pi.now) a.1 in
    let half = w.new.out in
    let start = drawn_front modulus random (n - m) p.result _ k.0 _ half k.1 w.ensures.1 in
    let σ = front a.0 c.args.pi.now _ n h.len pi in
    let whole = x.new.x in
    let y = front (completed modulus entries n m k.0) half whole n (length-completed modulus entries n m k.0 start.0 fits.less) (x.ensures ∙ ap (λ (l : List ℕ). over (completed modulus entries n m l) half) start.1) in (
      pi ∙ sym (ap (λ (l : List ℕ). over l c.args.pi.now) front-part),
      c.unpermute_into.ensures
          ∙ ap (λ (l : List ℕ). over (unpermute (length l) (take n whole) l) v) σ
          ∙ ap₂ (λ (size : ℕ) (l : List ℕ). over (unpermute size l a.0) v) h.len y
          ∙ sym (ap₂ (λ (l r : List ℕ). over (unpermute n (completed modulus entries n m r) l) v) front-part rest),
    )
