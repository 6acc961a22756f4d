-- Drawing from lent bytes (document 01, "Drawing from lent bytes"). A drawing starts at a place of the lent bytes; the place where it ends
-- is the number of bytes used, skipped ones counted.
use Rattle.std.specs.Prelude.{cond, List, [], ◌∷◌, ℕ, zero, suc, ◌+◌, ◌-◌, ◌*◌, ◌/◌, ◌%◌, ltb, drop, get_or, set, Option, Some, None}
use Rattle.algebra.specs.Lists.{over}
use Rattle.algebra.specs.Permutations.{identity}

-- the first byte below the limit, others skipped, and the place after it: of the bytes that are left, whose first stands at the place `at`
unfoldable pub draw_left : ℕ → List ℕ → ℕ → Option (ℕ × ℕ)
draw_left limit [] at = None
draw_left limit (x ∷ left) at = cond (ltb x limit) (Some (x, at + 1)) (draw_left limit left (at + 1))

-- a residue is drawn below 251
unfoldable pub draw_below : ℕ → List ℕ → ℕ → Option (ℕ × ℕ)
draw_below limit random at = draw_left limit (drop at random) at

-- what a drawing of several gives: what was drawn, and the place after the last byte used; or that the bytes ran out
pub data Drawing : Type 0 where
  drew : List ℕ → ℕ → Drawing
  ran_out : Drawing

-- to draw a byte and go on with it from the place after it
abbrev pub with : Option (ℕ × ℕ) → (ℕ → ℕ → Drawing) → Drawing
with (Some (x, next)) rest = rest x next
with None rest = ran_out

-- the largest multiple of k up to 256
abbrev pub largest_multiple : ℕ → ℕ
largest_multiple k = 256 / k * k

-- places i and j exchanged
unfoldable pub exchange : List ℕ → ℕ → ℕ → List ℕ
exchange s i j = set (set s i (get_or s j 0)) j (get_or s i 0)

-- for i down to 1: take a byte x below the largest multiple of i + 1 up to 256, and exchange places i and x mod (i + 1)
unfoldable pub shuffle : ℕ → List ℕ → List ℕ → ℕ → Drawing
shuffle zero s random at = drew s at
shuffle (suc i) s random at =
    with (draw_below (largest_multiple (suc i + 1)) random at)
    (λ (x next : ℕ). shuffle i (exchange s (suc i) (x % (suc i + 1))) random next)

-- a permutation of n: from the identity, for i from n - 1 down to 1
unfoldable pub draw_permutation : ℕ → List ℕ → ℕ → Drawing
draw_permutation n random at = shuffle (n - 1) (identity n) random at

-- ---- what the code says of a drawing

-- the answer
abbrev pub used_by : Drawing → Option ℕ
used_by (drew list at) = Some at
used_by ran_out = None

-- the output afterwards: what was drawn over its front, or what it held
abbrev pub drawn_over : Drawing → List ℕ → List ℕ
drawn_over (drew list at) d = over list d
drawn_over ran_out d = d

-- the bytes suffice
abbrev pub Enough : Drawing → Type 0
Enough (drew list at) = Unit {0}
Enough ran_out = ⊥
