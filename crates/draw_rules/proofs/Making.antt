-- Laws of what each call draws, as the code that writes it needs them.
use mathlib.Core.Bool.{true}
use Prim.Native.Nat.{◌≤◌, ℕ, ◌<◌}
use Rattle.algebra.specs.Permutations.{longest}
use Rattle.algebra.proofs.Lists.{&&-left, &&-right}
use Rattle.kinds.specs.Kinds.{limits, within, alone}
use Rattle.frames.proofs.Facts.{within-told}
use Rattle.draw_rules.specs.Telling.{choices_fit}
use mathlib.Core.Path.{◌≡◌, refl, ◌∙◌}
use mathlib.Core.List.{List, ◌++◌}
use native.Mathlib.Omega.{arith}
use lib.ListN.{length, length-append}
use Rattle.algebra.specs.Residues.{modulus, Residues}
use Rattle.random.specs.Drawings.{Drawing, drew, ran_out, draw_permutation}
use Rattle.random.proofs.Drawings.{Permutes, drawn-perm}
use Rattle.readers.specs.Choosing.{choice_size}
use Rattle.readers.proofs.Passing.{Chosen}
use Rattle.random.specs.Sequences.{made, and_then, draw_residues}
use Rattle.draw_rules.specs.Making.{draw_choice}
use Rattle.random.proofs.Sequences.{Always, some_below_lem}

-- the choices of one round are R and then σ
pub choice_chosen : (n : ℕ) (random : List ℕ) → 0 < n → (at : ℕ) → Always (λ (l : List ℕ). (length l ≡ choice_size n) × Chosen n l) (draw_choice n random at)
unfolding draw_choice
choice_chosen n random pos at = step (draw_residues n random at) (some_below_lem modulus random n at)
  where
    join : (r : List ℕ) (d : Drawing) → (length r ≡ n) × Residues modulus r → Permutes n d
        → Always (λ (l : List ℕ). (length l ≡ choice_size n) × Chosen n l) (made (λ (s : List ℕ). r ++ s) d)
    join r (drew s q) (e, h) p =
        let z = p.len in
        (length-append r s ∙ omega arith, record { vector = r; permutation = s; both = refl; len = e; residues = h; perm = p })
    join r ran_out h p = tt

    step : (d : Drawing) → Always (λ (l : List ℕ). (length l ≡ n) × Residues modulus l) d
        → Always (λ (l : List ℕ). (length l ≡ choice_size n) × Chosen n l) (and_then d (draw_permutation n random))
    step (drew r p) h = join r (draw_permutation n random p) h (drawn-perm n random p pos)
    step ran_out h = tt

pub choices_fit_told : (greatest n N : ℕ) → choices_fit greatest n N ≡ true → ((2 ≤ n) × (n ≤ longest)) × ((1 ≤ N) × (N ≤ greatest))
choices_fit_told greatest n N t = (
  within-told alone.places n (&&-left (within alone.places n) (within (limits 1 greatest) N) t),
  within-told (limits 1 greatest) N (&&-right (within alone.places n) (within (limits 1 greatest) N) t),
)
