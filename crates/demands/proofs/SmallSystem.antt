-- Document 01, "The small system, by hand": one table of its twelve cases, what the definitions of the contracts compute and what the document says,
-- and one claim: all rows agree. Vectors stand as the values of a success, refusals as number, buffer and place.
use mathlib.Core.Path.{◌≡◌, refl}
use mathlib.Core.Bool.{cond}
use mathlib.Core.List.{List, [], ◌∷◌, zip_with}
use Prim.Native.Nat.{ℕ}
use lib.ListN.{length}
use Rattle.refusals.specs.Told.{Told, done, refused, first_below}
use Rattle.algebra.specs.Lists.{tab, sum_below, all_below, first_from, count, stretch}
use Rattle.algebra.specs.Residues.{modulus, add_scaled}
use Rattle.algebra.specs.Permutations.{is_perm, permute, compose, identity}
use Rattle.matrices.specs.Matrices.{row_times, product, entry, product_at, key_fault}
use Rattle.random.specs.Drawings.{draw_left, draw_below, Drawing, used_by, exchange, shuffle, draw_permutation}
use Rattle.kinds.specs.declared.Kind.TheVariants.{Challenges, Bits}
use Rattle.kinds.specs.Kinds.{within, alone}
use Rattle.packed_bits.specs.PackedBits.{bit_at}
use Rattle.packed_bits.specs.Clearing.{cleared}
use Rattle.bodies.specs.Bodies.{values, permutations}
use Rattle.frames.specs.Reading.{header, shape, reading, rest_of}
use Rattle.writers.specs.Writing.{frame}
use Rattle.random.specs.Sequences.{list_of, many_times, one_below}
use Rattle.draw_rules.specs.Making.{draw_challenges, draw_bits}
use Rattle.draw_rules.specs.Telling.{bare, telling}
use Rattle.scheme.specs.Round.{pair, first_answer}
use Rattle.card_rules.specs.Keys.{keys, keys_check, valid_check, key_check}

abbrev three : ℕ → ℕ → ℕ → List ℕ
three a b c = a ∷ b ∷ c ∷ []

-- n = 3, m = 1
abbrev A' : List ℕ
A' = 1 ∷ 2 ∷ []

abbrev v : List ℕ
v = three 3 240 5

abbrev π : List ℕ
π = three 2 0 1

abbrev R : List ℕ
R = three 10 20 30

abbrev σ : List ℕ
σ = three 1 0 2

-- A X, A_σ W, and W for a challenge
abbrev times_A : List ℕ → Told
times_A x = done (product modulus A' 3 1 x)

abbrev W : ℕ → List ℕ
W c = first_answer modulus v π c (pair R σ)

abbrev times_A_σ : List ℕ → Told
times_A_σ w = done (product_at modulus A' 3 1 σ w)

-- what a drawing tells over an output of the very size, and what it has drawn
abbrev drawing_told : ℕ → Drawing → List ℕ → Told
drawing_told need d random = telling (bare (within alone.rounds 2)) need need (used_by d) (length random)

abbrev drawn : Drawing → Told
drawn d = done (list_of d)

-- frames
abbrev key-told : List ℕ → Told
key-told secret = key_check (keys (0 ∷ 6 ∷ 1 ∷ 1 ∷ 3 ∷ 1 ∷ A') (0 ∷ 6 ∷ 1 ∷ 2 ∷ 3 ∷ v) (0 ∷ 6 ∷ 1 ∷ 3 ∷ 3 ∷ secret))

abbrev challenge-read : ℕ → Told
challenge-read c = reading Challenges alone (0 ∷ 4 ∷ 1 ∷ 5 ∷ 1 ∷ c ∷ [])

abbrev bit : List ℕ → ℕ → ℕ
bit packed k = cond (bit_at packed k) 1 0

pub record Row : Type 0 where
  pub computed : List Told
  pub expected : List Told

abbrev row : List Told → List Told → Row
row computed expected = record { computed = computed; expected = expected }

abbrev pub table : List Row
table =
    row (done (permute v π) ∷ times_A (permute v π) ∷ []) (done (three 5 3 240) ∷ done (0 ∷ []) ∷ [])
    ∷ row (times_A R ∷ []) (done (80 ∷ []) ∷ [])
    ∷ row (done (permute R σ) ∷ []) (done (three 20 10 30) ∷ [])
    ∷ row (done (compose π σ) ∷ done (compose σ π) ∷ []) (done (three 0 2 1) ∷ done (three 2 1 0) ∷ [])
    ∷ row (done (W 7) ∷ times_A_σ (W 7) ∷ []) (done (three 41 45 204) ∷ done (80 ∷ []) ∷ [])
    ∷ row (done (W 250) ∷ times_A_σ (W 250) ∷ []) (done (three 17 5 41) ∷ done (80 ∷ []) ∷ [])
    ∷ row (done (W 0) ∷ []) (done (three 20 10 30) ∷ [])
    ∷ row (key-told (three 0 1 2) ∷ times_A (permute v (three 0 1 2)) ∷ []) (refused 8 3 0 ∷ done (237 ∷ []) ∷ [])
    ∷ row (drawing_told 3 (draw_permutation 3 (three 255 4 1) 0) (three 255 4 1) ∷ drawn (draw_permutation 3 (three 255 4 1) 0) ∷ []) (done (3 ∷ []) ∷ done (three 0 2 1) ∷ [])
    ∷ row
    (drawing_told 7 (draw_challenges 2 (three 251 250 0)) (three 251 250 0)
    ∷ done (rest_of Challenges (list_of (draw_challenges 2 (three 251 250 0))))
    ∷ drawing_told 7 (draw_challenges 2 (251 ∷ 250 ∷ [])) (251 ∷ 250 ∷ [])
    ∷ [])
    (done (3 ∷ []) ∷ done (250 ∷ 0 ∷ []) ∷ refused 10 10 2 ∷ [])
    ∷ row
    (done (rest_of Bits (list_of (draw_bits 3 (191 ∷ []))))
    ∷ done (three (bit (160 ∷ []) 0) (bit (160 ∷ []) 1) (bit (160 ∷ []) 2))
    ∷ [])
    (done (160 ∷ []) ∷ done (three 1 0 1) ∷ [])
    ∷ row (challenge-read 250 ∷ challenge-read 251 ∷ []) (done (three 1 0 5) ∷ refused 6 6 5 ∷ [])
    ∷ []

abbrev pub all : (Row → List Told) → List Row → List (List Told)
all f [] = []
all f (r ∷ rows) = f r ∷ all f rows

pub rows_agree : all (λ (r : Row). r.computed) table ≡ all (λ (r : Row). r.expected) table
unfolding product product_at row_times entry add_scaled zip_with permute stretch sum_below tab first_answer telling draw_permutation shuffle exchange identity draw_below draw_left draw_challenges draw_bits many_times one_below frame cleared bit_at key_check keys_check valid_check key_fault first_from reading header shape values permutations first_below is_perm all_below count
rows_agree = refl
