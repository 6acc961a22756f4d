-- A byte that is drawn is below the limit, and no value is favoured: by one test over all 256 bytes.
use mathlib.Core.Path.{◌≡◌, refl, ap, ◌∙◌}
use mathlib.Core.Bool.{Bool, true, false, cond}
use mathlib.Core.List.{List, [], ◌∷◌, ◌++◌}
use Prim.Native.Nat.{ℕ, zero, suc, ◌+◌, ◌/◌, ◌%◌, ◌≤◌, ◌<◌}
use native.Mathlib.Omega.{arith}
use borrow.Author.Tests.{ltb-true}
use lib.Dec.{ltb}
use lib.ListN.{length, get_or}
use Rattle.std.specs.Prelude.{Option, Some, None}
use Rattle.algebra.specs.Lists.{tab, all_below, count, same_bytes}
use Rattle.algebra.specs.Residues.{modulus}
use Rattle.algebra.specs.Permutations.{longest, identity}
use Rattle.random.specs.Drawings.{draw_left, draw_below, largest_multiple}
use Rattle.algebra.proofs.Lists.{all_below-at, same_true, count-append}
use Rattle.random.proofs.Drawings.{draw_hit}
use Rattle.algebra.proofs.Permutations.{identity-perm}

-- ---- below the limit

below_left : (limit : ℕ) (left : List ℕ) (at x next : ℕ) → Some (x, next) ≡ draw_left limit left at → x < limit
unfolding draw_left
below_left limit [] at x next e = let z : ◌≡◌ {A = ℕ} 0 1 = cc in absurd (omega arith)
below_left limit (y ∷ left) at x next e = step (ltb y limit) refl e (below_left limit left (at + 1) x next)
  where
    step : (b : Bool) → ltb y limit ≡ b → Some (x, next) ≡ cond b (Some (y, at + 1)) (draw_left limit left (at + 1))
        → (Some (x, next) ≡ draw_left limit left (at + 1) → x < limit) → x < limit
    step true t e ih = let q : ◌≡◌ {A = ℕ × ℕ} (x, next) (y, at + 1) = cc in let s : x ≡ y = ap (λ (d : ℕ × ℕ). d.0) q in let l = ltb-true y limit t in omega arith
    step false t e ih = ih e

pub drawn-below : (limit : ℕ) (random : List ℕ) (at x next : ℕ) → Some (x, next) ≡ draw_below limit random at → x < limit
unfolding draw_below
drawn-below limit random at x next e = below_left limit _ at x next e

-- a byte below the limit is the one drawn
pub drawn-at : (limit : ℕ) (random : List ℕ) (at : ℕ) → at < length random → get_or random at 0 < limit → draw_below limit random at ≡ Some (get_or random at 0, at + 1)
unfolding draw_below
drawn-at limit random at = draw_hit limit random at

-- ---- no value is favoured

-- the remainder by k of a byte that is taken; nothing of one that is skipped
abbrev remainder : ℕ → Option (ℕ × ℕ) → List ℕ
remainder k (Some (x, next)) = x % k ∷ []
remainder k None = []

-- of each byte from x on, `left` of them
unfoldable pub remainders : ℕ → ℕ → ℕ → ℕ → List ℕ
remainders limit k zero x = []
remainders limit k (suc left) x = remainder k (draw_below limit (x ∷ []) 0) ++ remainders limit k left (suc x)

-- of all 256 bytes
abbrev pub of_all_bytes : ℕ → ℕ → List ℕ
of_all_bytes limit k = remainders limit k 256 0

repeated : ℕ → List ℕ → List ℕ
repeated zero l = []
repeated (suc n) l = l ++ repeated n l

-- from k places, the bytes give 0 to k - 1 in order, as often as k goes into 256
in_order : ℕ → Bool
in_order i = same_bytes (of_all_bytes (largest_multiple (i + 1)) (i + 1)) (repeated (256 / (i + 1)) (identity (i + 1)))

all_in_order : all_below longest in_order ≡ true
unfolding all_below in_order same_bytes remainders repeated draw_below draw_left identity tab
all_in_order = refl

residues_in_order : of_all_bytes modulus modulus ≡ identity modulus
unfolding remainders draw_below draw_left identity tab
residues_in_order = refl

count-repeated : (x n : ℕ) (l : List ℕ) → count x l ≡ 1 → count x (repeated n l) ≡ n
unfolding count repeated
count-repeated x zero l e = refl
count-repeated x (suc n) l e = count-append x l (repeated n l) ∙ (let a = count-repeated x n l e in omega arith)

-- each residue comes from exactly one byte
pub one_byte_each : (r : ℕ) → r < modulus → count r (of_all_bytes modulus modulus) ≡ 1
one_byte_each r l = ap (count r) residues_in_order ∙ (identity-perm modulus).once r l

-- for each i, each place 0 to i comes from equally many bytes
pub equally_many : (i j : ℕ) → i < longest → j ≤ i → count j (of_all_bytes (largest_multiple (i + 1)) (i + 1)) ≡ 256 / (i + 1)
unfolding in_order
equally_many i j l h =
    ap (count j) (same_true _ _ (all_below-at longest in_order all_in_order i l))
    ∙ count-repeated j (256 / (i + 1)) (identity (i + 1)) ((identity-perm (i + 1)).once j (omega arith))
