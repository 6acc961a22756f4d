-- For each call: no second outcome fits what it promises. Nothing is lent to it for writing. And the numbers that it refuses by.
use Rattle.frames.specs.declared.read.Frame.{Frame}
use Rattle.refusals.specs.declared.Refusal.{Refusal}
use Rattle.std.specs.Prelude.{⊤, Result}
use mathlib.Core.Path.{◌≡◌, refl, sym, ◌∙◌}
use mathlib.Core.List.{List, [], ◌∷◌}
use Prim.Native.Nat.{ℕ, ◌+◌, ◌*◌, ◌≤◌}
use native.Mathlib.Omega.{arith}
use lib.Dec.{eqb, ltb, leb}
use lib.ListN.{length, get_or}
use Rattle.refusals.specs.Number.{SHORT, LONG, VERSION, KIND, SHAPE, VALUE, PERM}
use Rattle.refusals.specs.Buffer.{NONE, CHOICES}
use Rattle.refusals.specs.Told.{Told, done, means, first, first_below, demand}
use Rattle.refusals.proofs.Chain.{means_fixes, outcome_fixes, UpTo, done_most, demand-most, first-most, below-most, test_most, most-more}
use Rattle.algebra.specs.Lists.{stretch}
use Rattle.algebra.specs.Residues.{modulus}
use Rattle.algebra.specs.Permutations.{is_perm}
use Rattle.kinds.specs.declared.Kind.{Kind}
use Rattle.kinds.specs.declared.Kind.TheVariants.{System, Public, Secret, Commitments, Challenges, Answers, Bits, Openings}
use Rattle.kinds.specs.declared.Expected.{Expected}
use Rattle.kinds.specs.Kinds.{alone, table}
use Rattle.bodies.specs.Bodies.{residue_at, values, permutation_at, permutations, content}
use Rattle.frames.specs.Reading.{count_of, header, first_of, second_of, rest_of, shape, reading, Reads, opening_check}
use Rattle.readers.specs.Choosing.{choice_size, choice_of, vector_of, permutation_of, choice_check, choice_at, choices_check}

-- ---- readers: they write nothing

frame_of : List ℕ → Frame
frame_of v = record { first = get_or v 0 0; second = get_or v 1 0; start = get_or v 2 0 }

pub one_reading : (k : Kind) (e : Expected) (s : List ℕ) (a b : Result Frame Refusal) → Reads k e s a → Reads k e s b → a ≡ b
unfolding frame_of
one_reading k e s a b p q = outcome_fixes (λ f. f.first ∷ f.second ∷ f.start ∷ []) frame_of (λ f. refl) a b (p.says ∙ sym q.says)

-- a reader refuses by the numbers up to PERM alone
values-most : (b at : ℕ) (l : List ℕ) → UpTo PERM (values b at l)
unfolding values
values-most b at l = below-most PERM (length l) (residue_at b at l) (λ j. demand-most PERM (ltb (get_or l j 0) modulus) VALUE b (at + j) (omega arith) (omega arith))

permutations-most : (b n at count : ℕ) (l : List ℕ) → UpTo PERM (permutations b n at count l)
unfolding permutations
permutations-most b n at count l =
    below-most PERM count (permutation_at b n at l) (λ k. demand-most PERM (is_perm n (stretch n k l)) PERM b (at + k * n) (omega arith) (omega arith))

pub content-most : (k : Kind) (a b at : ℕ) (rest : List ℕ) → UpTo PERM (content k a b at rest)
content-most System a b at rest = values-most _ at rest
content-most Public a b at rest = values-most _ at rest
content-most Secret a b at rest = permutations-most _ a at 1 rest
content-most Commitments a b at rest = done_most PERM []
content-most Challenges a b at rest = values-most _ at rest
content-most Answers a b at rest = values-most _ at rest
content-most Bits a b at rest = done_most PERM []
content-most Openings a b at rest = permutations-most _ a at b rest

header-most : (k : Kind) (s : List ℕ) → UpTo PERM (header k s)
unfolding header
header-most k s =
    let b = (table k).buffer in
    let r5 : Told = demand (eqb (get_or s 3 0) (table k).number) KIND b 3 in
    let r4 : Told = first (demand (eqb (get_or s 2 0) (table k).version) VERSION b 2) r5 in
    let r3 : Told = first (demand (leb (length s) (count_of s + 2)) LONG b 0) r4 in
    let r2 : Told = first (demand (leb (count_of s + 2) (length s)) SHORT b 0) r3 in
    test_most PERM (leb 4 (length s)) SHORT b 0 r2 (omega arith) (omega arith)
    (test_most PERM (leb (count_of s + 2) (length s)) SHORT b 0 r3 (omega arith) (omega arith)
    (test_most PERM (leb (length s) (count_of s + 2)) LONG b 0 r4 (omega arith) (omega arith)
    (test_most PERM (eqb (get_or s 2 0) (table k).version) VERSION b 2 r5 (omega arith) (omega arith)
    (demand-most PERM (eqb (get_or s 3 0) (table k).number) KIND b 3 (omega arith) (omega arith)))))

pub reading-most : (k : Kind) (e : Expected) (s : List ℕ) → UpTo PERM (reading k e s)
unfolding reading
reading-most k e s =
    let values = first_of s ∷ second_of k s ∷ (table k).start ∷ [] in
    let body = content k (first_of s) (second_of k s) (table k).start (rest_of k s) in
    first-most PERM (header k s) (first (demand (shape k e s) SHAPE (table k).buffer 4) (first body (done values))) (header-most k s)
    (test_most PERM (shape k e s) SHAPE (table k).buffer 4 (first body (done values)) (omega arith) (omega arith)
    (first-most PERM body (done values) (content-most k (first_of s) (second_of k s) (table k).start (rest_of k s)) (done_most PERM values)))

-- a frame in front of a chain
pub frame-most : (most : ℕ) (k : Kind) (e : Expected) (s : List ℕ) (rest : Told) → PERM ≤ most → UpTo most rest → UpTo most (first (reading k e s) rest)
frame-most most k e s rest h = first-most most (reading k e s) rest (most-more PERM most (reading k e s) h (reading-most k e s))

-- the check of choices refuses by the numbers up to PERM too
choice_most : (n at : ℕ) (choice : List ℕ) → UpTo PERM (choice_check n at choice)
unfolding choice_check
choice_most n at choice =
    let vector = vector_of n choice in
    let permutation = permutation_of n choice in
    first-most PERM (values CHOICES at vector) (permutations CHOICES n (at + n) 1 permutation) (values-most CHOICES at vector)
    (permutations-most CHOICES n (at + n) 1 permutation)

pub choices-most : (n N : ℕ) (choices : List ℕ) → UpTo PERM (choices_check n N choices)
unfolding choices_check
choices-most n N choices =
    test_most PERM (eqb (length choices) (N * choice_size n)) SHAPE CHOICES 0 (first_below N (choice_at n choices)) (omega arith) (omega arith)
    (below-most PERM N (choice_at n choices) (λ k. choice_most n (k * choice_size n) (choice_of choices n k)))

-- ---- the check of a named round: its contract is an equation, and so is that of the stretch handed back

pub one_opening_check : (s : List ℕ) (round : ℕ) (a b : Result ⊤ Refusal) → means a ≡ opening_check s round → means b ≡ opening_check s round → a ≡ b
one_opening_check s round a b p q = means_fixes a b (p ∙ sym q)

-- it refuses by the numbers up to PERM too
pub opening-most : (s : List ℕ) (round : ℕ) → UpTo PERM (opening_check s round)
unfolding opening_check
opening-most s round =
    let test = ltb round (second_of Openings s) in
    first-most PERM (reading Openings alone s) (demand test SHAPE NONE 0) (reading-most Openings alone s)
    (demand-most PERM test SHAPE NONE 0 (omega arith) (omega arith))
