-- A key that is drawn is two frames that their readers accept, and has no fault.
use mathlib.Core.Path.{◌≡◌, refl, sym, ap, ◌∙◌, subst}
use mathlib.Core.List.{List, [], ◌++◌}
use Prim.Native.Nat.{ℕ}
use native.Mathlib.Omega.{arith}
use lib.ListN.{take, drop, take-append-drop}
use Rattle.algebra.specs.Residues.{modulus}
use Rattle.matrices.specs.Matrices.{key_fault, SystemFits}
use Rattle.random.specs.Drawings.{drew}
use Rattle.matrices.proofs.Solving.{solved, residues-solved}
use Rattle.kinds.specs.declared.Kind.TheVariants.{Public, Secret}
use Rattle.readers.proofs.Passing.{residues-pass, permutation-passes}
use Rattle.writers.specs.Writing.{frame}
use Rattle.random.proofs.Sequences.{Always}
use Rattle.draw_rules.proofs.Theorems.{source, Accepted, accepted}
use Rattle.key_making.specs.Key.{public_key, key_frames, draw_pair, draw_key}
use Rattle.key_making.proofs.Making.{DrawnPair, pair-drawn, length-public_key, place-fits}

pub record KeyDrawn (a : List ℕ) (n m : ℕ) (random s : List ℕ) (next : ℕ) : Type 0 where
  pub π : List ℕ
  pub v : List ℕ
  pub start : List ℕ
  pub drawn : draw_pair n m random ≡ drew (π ++ start) next
  pub formed : v ≡ public_key a n m π start
  pub both : s ≡ frame Public n 0 v ++ frame Secret n 0 π
  pub public : Accepted Public n v (frame Public n 0 v)
  pub secret : Accepted Secret n π (frame Secret n 0 π)
  pub valid : key_fault modulus a n m v π ≡ m

pub key-drawn : (a : List ℕ) (n m : ℕ) (random s : List ℕ) (next : ℕ) → SystemFits a n m → draw_key a n m random ≡ drew s next
    → KeyDrawn a n m random s next
unfolding draw_key key_frames public_key
key-drawn a n m random s next f e =
    let q = source (λ (l : List ℕ). key_frames a n m (take n l) (drop n l)) (draw_pair n m random) s next e in
    let p = subst (Always (DrawnPair n m)) q.drawn (pair-drawn n m random (omega arith)) in
    let π = take n q.list in
    let start = drop n q.list in
    let v = public_key a n m π start in
    let t = place-fits n (omega arith) f.most in
    record {
      π = π;
      v = v;
      start = start;
      drawn = q.drawn ∙ ap (λ (l : List ℕ). drew l next) (sym (take-append-drop n q.list));
      formed = refl;
      both = q.same;
      public = accepted Public n v
          (record {
            numbers = t.0;
            size = length-public_key a n m π start;
            content = ([], residues-pass _ 0 v (residues-solved modulus a n m start (omega arith) f p.len π p.perm p.residues));
            spare = refl;
          });
      secret = accepted Secret n π (record { numbers = t.1; size = p.perm.len; content = ([], permutation-passes _ n 0 π p.perm); spare = refl });
      valid = solved modulus a n m start (omega arith) f p.len π p.perm;
    }
