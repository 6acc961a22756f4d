-- A key for the matrix a of m rows and n columns (document 01, "Drawing from lent bytes").
use Rattle.std.specs.Prelude.{List, ◌++◌, ℕ, ◌+◌, ◌-◌, take, drop}
use Rattle.algebra.specs.Residues.{modulus}
use Rattle.algebra.specs.Permutations.{unpermute}
use Rattle.matrices.specs.Solving.{completed}
use Rattle.random.specs.Drawings.{Drawing, draw_permutation}
use Rattle.kinds.specs.declared.Kind.TheVariants.{System, Public, Secret}
use Rattle.kinds.specs.Kinds.{frame_size}
use Rattle.frames.specs.Reading.{first_of, second_of, rest_of}
use Rattle.writers.specs.Writing.{frame}
use Rattle.random.specs.Sequences.{made, and_then, draw_residues}

-- V[π[j]] = X[j], where X starts with `start` and A X is zero
unfoldable pub public_key : List ℕ → ℕ → ℕ → List ℕ → List ℕ → List ℕ
public_key a n m π start = unpermute n (completed modulus a n m start) π

-- kind 2 and then kind 3
unfoldable pub key_frames : List ℕ → ℕ → ℕ → List ℕ → List ℕ → List ℕ
key_frames a n m π start = frame Public n 0 (public_key a n m π start) ++ frame Secret n 0 π

-- π first, then n - m residues as the start of X
unfoldable pub draw_pair : ℕ → ℕ → List ℕ → Drawing
draw_pair n m random = and_then (draw_permutation n random 0) (draw_residues (n - m) random)

unfoldable pub draw_key : List ℕ → ℕ → ℕ → List ℕ → Drawing
draw_key a n m random = made (λ (l : List ℕ). key_frames a n m (take n l) (drop n l)) (draw_pair n m random)

-- of a system frame
abbrev pub draw_key_for : List ℕ → List ℕ → Drawing
draw_key_for system random = draw_key (rest_of System system) (first_of system) (second_of System system) random

-- the two frames of a key
abbrev pub key_size : ℕ → ℕ
key_size n = frame_size Public n 0 + frame_size Secret n 0
