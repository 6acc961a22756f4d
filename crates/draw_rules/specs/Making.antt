-- What each call draws (document 01, "Drawing from lent bytes"). A permutation is `draw_permutation` of the crate `random`.
use Rattle.std.specs.Prelude.{List, ℕ}
use Rattle.random.specs.Drawings.{Drawing, draw_permutation}
use Rattle.kinds.specs.declared.Kind.TheVariants.{Challenges, Bits}
use Rattle.packed_bits.specs.Clearing.{packed_size, cleared}
use Rattle.writers.specs.Writing.{frame}
use Rattle.random.specs.Sequences.{made, and_then, many_times, some_below, byte_limit, draw_residues}

-- challenges: N residues, as kind 5
unfoldable pub draw_challenges : ℕ → List ℕ → Drawing
draw_challenges N random = made (frame Challenges N 0) (draw_residues N random 0)

-- bits: ceil(N/8) bytes, unused low bits cleared, as kind 7; no byte is skipped
unfoldable pub draw_bits : ℕ → List ℕ → Drawing
draw_bits N random = made (λ (bytes : List ℕ). frame Bits N 0 (cleared N bytes)) (some_below byte_limit (packed_size N) random 0)

-- the choices of one round: R, then σ
unfoldable pub draw_choice : ℕ → List ℕ → ℕ → Drawing
draw_choice n random at = and_then (draw_residues n random at) (draw_permutation n random)

-- choices: N rounds, with no frame
unfoldable pub draw_choices : ℕ → ℕ → List ℕ → Drawing
draw_choices n N random = many_times N (draw_choice n random) 0
