-- Laws of key making, as the code needs them.
use mathlib.Core.Path.{◌≡◌, refl, ◌∙◌}
use mathlib.Core.Bool.{true}
use mathlib.Core.List.{List, ◌++◌}
use Prim.Native.Nat.{ℕ, ◌-◌, ◌≤◌, ◌<◌}
use borrow.Author.Tests.{le-leb}
use lib.ListN.{length, take, drop}
use lib.Seq.{take_at, drop_at}
use Rattle.algebra.specs.Lists.{over}
use Rattle.algebra.specs.Residues.{modulus, Residues}
use Rattle.algebra.specs.Permutations.{longest, IsPerm}
use Rattle.random.specs.Drawings.{Drawing, drew, ran_out, draw_permutation, drawn_over, Enough}
use Rattle.random.proofs.Drawings.{Permutes, drawn-perm}
use Rattle.algebra.proofs.Permutations.{length-permute, length-inverse}
use Rattle.kinds.specs.declared.Kind.TheVariants.{Public, Secret}
use Rattle.kinds.specs.Kinds.{alone, fits}
use Rattle.random.specs.Sequences.{list_of, made, and_then, draw_residues}
use Rattle.random.proofs.Sequences.{Always, some_below_lem}
use Rattle.key_making.specs.Key.{public_key, draw_pair}

-- the list drawn, where the bytes suffice
pub listed : (P : List ℕ → Type 0) (d : Drawing) → Always P d → Enough d → P (list_of d)
listed P (drew l at) h e = h
listed P ran_out h e = absurd e

pub made-over : (f : List ℕ → List ℕ) (d : Drawing) (out : List ℕ) → Enough d → over (f (list_of d)) out ≡ drawn_over (made f d) out
made-over f (drew l at) out e = refl
made-over f ran_out out e = absurd e

-- π and the start of X
pub record DrawnPair (n m : ℕ) (l : List ℕ) : Type 0 where
  pub perm : IsPerm n (take n l)
  pub len : length (drop n l) ≡ n - m
  pub residues : Residues modulus (drop n l)

pub pair-drawn : (n m : ℕ) (random : List ℕ) → 0 < n → Always (DrawnPair n m) (draw_pair n m random)
unfolding draw_pair
pair-drawn n m random pos = step (draw_permutation n random 0) (drawn-perm n random 0 pos)
  where
    join : (π : List ℕ) (d : Drawing) → IsPerm n π → Always (λ (l : List ℕ). (length l ≡ n - m) × Residues modulus l) d
        → Always (DrawnPair n m) (made (λ (s : List ℕ). π ++ s) d)
    join π (drew s q) h (e, r) =
        let a = take_at π s n h.len in
        let b = drop_at π s n h.len in
        record { perm = rw a h; len = rw b e; residues = rw b r }
    join π ran_out h r = tt

    step : (d : Drawing) → Permutes n d → Always (DrawnPair n m) (and_then d (draw_residues (n - m) random))
    step (drew π p) h = join π (draw_residues (n - m) random p) h (some_below_lem modulus random (n - m) p)
    step ran_out h = tt

pub length-public_key : (a : List ℕ) (n m : ℕ) (π start : List ℕ) → length (public_key a n m π start) ≡ n
unfolding public_key
length-public_key a n m π start = length-permute _ _ ∙ length-inverse n π

-- ---- numbers that fit a frame

pub place-fits : (n : ℕ) → 2 ≤ n → n ≤ longest → (fits Public alone n 0 ≡ true) × (fits Secret alone n 0 ≡ true)
place-fits n l h = (rw (le-leb 2 n l, le-leb n longest h), rw (le-leb 2 n l, le-leb n longest h))
