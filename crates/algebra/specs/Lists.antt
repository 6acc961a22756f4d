-- The vocabulary of lists. Places count from 0.
use Rattle.std.specs.Prelude.{Bool, true, false, cond, ◌&&◌, List, [], ◌∷◌, ◌++◌, ℕ, zero, suc, ◌+◌, ◌*◌, eqb, length, take, drop}

-- f 0, f 1, .., f (n - 1)
unfoldable pub tab : ℕ → (ℕ → ℕ) → List ℕ
tab zero f = []
tab (suc n) f = tab n f ++ (f n ∷ [])

-- f 0 + f 1 + .. + f (n - 1)
unfoldable pub sum_below : ℕ → (ℕ → ℕ) → ℕ
sum_below zero f = 0
sum_below (suc n) f = sum_below n f + f n

-- whether f holds at each of 0, 1, .., n - 1
unfoldable pub all_below : ℕ → (ℕ → Bool) → Bool
all_below zero f = true
all_below (suc n) f = f n && all_below n f

-- the first of k, k + 1, .., k + left - 1 at which f holds; k + left where it holds at none
unfoldable pub first_from : ℕ → ℕ → (ℕ → Bool) → ℕ
first_from zero k f = k
first_from (suc left) k f = cond (f k) k (first_from left (suc k) f)

-- how often x stands in the list
unfoldable pub count : ℕ → List ℕ → ℕ
count x [] = 0
count x (y ∷ ys) = cond (eqb x y) 1 0 + count x ys

-- whether two lists are the same
unfoldable pub same_bytes : List ℕ → List ℕ → Bool
same_bytes [] [] = true
same_bytes [] (y ∷ ys) = false
same_bytes (x ∷ xs) [] = false
same_bytes (x ∷ xs) (y ∷ ys) = eqb x y && same_bytes xs ys

-- the stretch k of a list that is stretches of one size, one after the other
unfoldable pub stretch : ℕ → ℕ → List ℕ → List ℕ
stretch size k l = take size (drop (k * size) l)

-- f 0, f 1, .., f (n - 1), one after the other
unfoldable pub joined : ℕ → (ℕ → List ℕ) → List ℕ
joined zero f = []
joined (suc n) f = joined n f ++ f n

-- what an output d holds once l is written over its front: l, and then the rest of d as it was
unfoldable pub over : List ℕ → List ℕ → List ℕ
over l d = l ++ drop (length l) d

-- the same from the place a on
unfoldable pub over_at : List ℕ → ℕ → List ℕ → List ℕ
over_at l a d = take a d ++ over l (drop a d)

-- offsets in a list are below this, far from what a usize holds
abbrev pub offsets : ℕ
offsets = 1048576
