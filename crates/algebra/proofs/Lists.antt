-- Laws of the vocabulary of lists: tables, searches, stretches, and outputs that a loop writes from the front.
use mathlib.Core.Path.{◌≡◌, refl, sym, ap, ap₂, ◌∙◌, subst}
use mathlib.Core.Bool.{Bool, true, false, cond, ◌&&◌, false≢true}
use mathlib.Core.List.{List, [], ◌∷◌, ◌++◌, append_assoc}
use Prim.Native.Nat.{ℕ, zero, suc, ◌+◌, ◌-◌, ◌*◌, ◌≤◌, ◌<◌}
use native.Mathlib.Nat.{not-suc-le-zero, le_refl, le_trans, le_of_eq, zero-mul, suc-mul, mul-le-mul_right}
use native.Mathlib.Numerals.{add-one}
use native.Mathlib.Decide.{ℕ_discrete, dec_lt}
use native.Mathlib.Omega.{arith}
use borrow.Author.Tests.{eqb-true, eq-eqb}
use lib.Dec.{eqb}
use lib.ListN.{length, get_or, take, drop, set, length-append, length-take, length-drop, length-set, take-append-drop, get_or-append}
use borrow.Rule.Slice.PartMut.{put_mid, mid_of}
use lib.Seq.{take_all, take-append-le, take_at, drop_at, drop-cons, drop-drop, drop-append-le, set_at, append_snoc, get_or_at, ext_get_or}
use Rattle.std.specs.Prelude.{Option, Some, None, MatchOption}
use Rattle.std.specs.Option.{unwrap_or}
use Rattle.algebra.specs.Lists.{tab, all_below, same_bytes, count, first_from, stretch, joined, over, over_at}

-- two lists of n are equal by their entries
pub same-list : (n : ℕ) (s t : List ℕ) → length s ≡ n → length t ≡ n → ((j : ℕ) → j < n → get_or s j 0 ≡ get_or t j 0) → s ≡ t
same-list n s t p q h = ext_get_or 0 s t (p ∙ sym q) (λ i l. h i (subst (λ (z : ℕ). i < z) p l))

-- ---- the comparison

pub same_self : (x : List ℕ) → same_bytes x x ≡ true
unfolding same_bytes
same_self [] = refl
same_self (x ∷ xs) = rw (eq-eqb x x refl) (same_self xs)

pub same_true : (x y : List ℕ) → same_bytes x y ≡ true → x ≡ y
unfolding same_bytes
same_true [] [] e = refl
same_true [] (y ∷ ys) e = absurd (false≢true e)
same_true (x ∷ xs) [] e = absurd (false≢true e)
same_true (x ∷ xs) (y ∷ ys) e = step (eqb x y) refl e (same_true xs ys)
  where
    step : (b : Bool) → eqb x y ≡ b → (b && same_bytes xs ys) ≡ true → (same_bytes xs ys ≡ true → xs ≡ ys) → x ∷ xs ≡ y ∷ ys
    step true q t ih = rw (eqb-true x y q, ih t)
    step false q t ih = absurd (false≢true t)

-- ---- counts

pub count-append : (x : ℕ) (s t : List ℕ) → count x (s ++ t) ≡ count x s + count x t
unfolding count
count-append x [] t = omega arith
count-append x (y ∷ ys) t = let a = count-append x ys t in omega arith

-- ---- tables

pub length-tab : (n : ℕ) (f : ℕ → ℕ) → length (tab n f) ≡ n
unfolding tab
length-tab zero f = refl
length-tab (suc n) f = let a = length-tab n f in omega (arith, length-append (tab n f) (f n ∷ []))

pub get_or-tab : (n : ℕ) (f : ℕ → ℕ) (j : ℕ) → j < n → get_or (tab n f) j 0 ≡ f j
unfolding tab
get_or-tab zero f j h = absurd (not-suc-le-zero h)
get_or-tab (suc n) f j h = step (ℕ_discrete j n) (get_or-tab n f j)
  where
    step : Dec (j ≡ n) → (j < n → get_or (tab n f) j 0 ≡ f j) → get_or (tab n f ++ (f n ∷ [])) j 0 ≡ f j
    step (yes e) ih = get_or_at (tab n f) (f n) [] 0 j (length-tab n f ∙ sym e) ∙ ap f (sym e)
    step (no q) ih =
        let l : j < n = omega arith in
        get_or-append (tab n f) (f n ∷ []) 0 j (rw (length-tab n f) l) ∙ ih l

-- a list of n is the table of its entries
pub tab_of : (n : ℕ) (l : List ℕ) (f : ℕ → ℕ) → length l ≡ n → ((j : ℕ) → j < n → get_or l j 0 ≡ f j) → tab n f ≡ l
tab_of n l f e h = same-list n (tab n f) l (length-tab n f) e (λ j k. get_or-tab n f j k ∙ sym (h j k))

-- ---- tests of every place

pub &&-left : (a b : Bool) → (a && b) ≡ true → a ≡ true
&&-left true b e = refl
&&-left false b e = e

pub &&-right : (a b : Bool) → (a && b) ≡ true → b ≡ true
&&-right true b e = e
&&-right false b e = absurd (false≢true e)

pub all_below-at : (n : ℕ) (f : ℕ → Bool) → all_below n f ≡ true → (k : ℕ) → k < n → f k ≡ true
unfolding all_below
all_below-at zero f e k l = absurd (not-suc-le-zero l)
all_below-at (suc n) f e k l = step (ℕ_discrete k n) (all_below-at n f (&&-right (f n) (all_below n f) e) k)
  where
    step : Dec (k ≡ n) → (k < n → f k ≡ true) → f k ≡ true
    step (yes q) ih = ap f q ∙ &&-left (f n) (all_below n f) e
    step (no q) ih = ih (omega arith)

pub all_below-all : (n : ℕ) (f : ℕ → Bool) → ((k : ℕ) → k < n → f k ≡ true) → all_below n f ≡ true
unfolding all_below
all_below-all zero f h = refl
all_below-all (suc n) f h = rw (h n (le_refl (suc n))) (all_below-all n f (λ k l. h k (omega arith)))

pub all_below-none : (n : ℕ) (f : ℕ → Bool) (k : ℕ) → k < n → f k ≡ false → false ≡ all_below n f
all_below-none n f k l e = go (all_below n f) refl
  where
    go : (b : Bool) → all_below n f ≡ b → false ≡ b
    go true q = absurd (false≢true (sym e ∙ all_below-at n f q k l))
    go false q = refl

-- ---- searches, as a loop goes through them: k is the place looked at, of n

module _ (f : ℕ → Bool) (n k : ℕ) where
  pub first_hit : k < n → f k ≡ true → first_from (n - k) k f ≡ k
  unfolding first_from
  first_hit l e = let s : n - k ≡ suc (n - (k + 1)) = omega arith in rw (s, e)

  pub first_skip : k < n → f k ≡ false → first_from (n - k) k f ≡ first_from (n - (k + 1)) (k + 1) f
  unfolding first_from
  first_skip l e = let s : n - k ≡ suc (n - (k + 1)) = omega arith in rw (s, e, add-one)

  pub first_end : n ≤ k → first_from (n - k) k f ≡ k
  unfolding first_from
  first_end l = let s : n - k ≡ 0 = omega arith in rw s

-- what the place found says: f holds at none before it, and holds at it where it is below the end
pub record Found (f : ℕ → Bool) (from end at : ℕ) : Type 0 where
  pub most : at ≤ end
  pub before : (k : ℕ) → from ≤ k → k < at → f k ≡ false
  pub here : at < end → f at ≡ true

pub found : (f : ℕ → Bool) (left k : ℕ) → Found f k (k + left) (first_from left k f)
unfolding first_from
found f zero k = record { most = omega arith; before = λ j h l. absurd (omega arith); here = λ l. absurd (omega arith) }
found f (suc left) k = step (f k) refl (found f left (suc k))
  where
    step : (b : Bool) → f k ≡ b → Found f (suc k) (suc k + left) (first_from left (suc k) f)
        → Found f k (k + suc left) (cond b k (first_from left (suc k) f))
    step true e r = record { most = omega arith; before = λ j h l. absurd (omega arith); here = λ l. e }
    step false e r =
        let m = r.most in
        record {
          most = omega arith;
          before = λ j h l. at j h l (ℕ_discrete j k);
          here = λ l. r.here (omega arith);
        }
      where
        at : (j : ℕ) → k ≤ j → j < first_from left (suc k) f → Dec (j ≡ k) → f j ≡ false
        at j h l (yes q) = ap f q ∙ e
        at j h l (no q) = r.before j (omega arith) l

-- so it is the only such place
only : (f : ℕ → Bool) (n i k : ℕ) → i ≤ n → ((j : ℕ) → j < i → f j ≡ false) → (i < n → f i ≡ true) → Found f 0 (0 + n) k → i ≡ k
only f n i k most before here g = step (dec_lt i k) (dec_lt k i)
  where
    m : k ≤ 0 + n
    m = g.most

    step : Dec (i < k) → Dec (k < i) → i ≡ k
    step (yes l) d = absurd (false≢true (sym (g.before i (omega arith) l) ∙ here (omega arith)))
    step (no p) (yes l) = absurd (false≢true (sym (before k l) ∙ g.here (omega arith)))
    step (no p) (no q) = omega arith

-- what `find` over the numbers below n answers, and n where it finds none
pub first_of : (f : ℕ → Bool) (n : ℕ) (r : Option ℕ)
    → MatchOption r ((k : ℕ) → 0 ≤ k → k < n → f k ≡ false) (λ i. (0 ≤ i) × (i < n) × (f i ≡ true) × ((k : ℕ) → 0 ≤ k → k < i → f k ≡ false))
    → unwrap_or r n ≡ first_from n 0 f
first_of f n None h = only f n n (first_from n 0 f) (le_refl n) (λ j l. h j (omega arith) l) (λ l. absurd (omega arith)) (found f n 0)
first_of f n (Some i) h = only f n i (first_from n 0 f) (omega arith) (λ j l. h.3 j (omega arith) l) (λ l. h.2) (found f n 0)

-- ---- stretches

pub length-stretch : (size k : ℕ) (s : List ℕ) → k * size + size ≤ length s → length (stretch size k s) ≡ size
unfolding stretch
length-stretch size k s h = simp (length-take, length-drop) (omega arith)

-- as the code cuts it
pub part_stretch : (size k : ℕ) (s : List ℕ) → take (k * size + size - k * size) (drop (k * size) s) ≡ stretch size k s
unfolding stretch
part_stretch size k s = let e : k * size + size - k * size ≡ size = omega arith in rw e

-- as a loop cuts it that goes on by `size`
pub from-stretch : (size k from : ℕ) (s : List ℕ) → from ≡ k * size → take (from + size - from) (drop from s) ≡ stretch size k s
from-stretch size k from s e = ap (λ (z : ℕ). take (z + size - z) (drop z s)) e ∙ part_stretch size k s

-- the stretch k of m fits in
pub stretch-fits : (size k m : ℕ) → k < m → k * size + size ≤ m * size
stretch-fits size k m h = le_trans (le_of_eq (sym (suc-mul k size))) (mul-le-mul_right size h)

-- ---- stretches one after the other

pub length-joined : (size n : ℕ) (f : ℕ → List ℕ) → ((k : ℕ) → k < n → length (f k) ≡ size) → length (joined n f) ≡ n * size
unfolding joined
length-joined size zero f even = sym (zero-mul size)
length-joined size (suc n) f even =
    let a = length-joined size n f (λ k l. even k (omega arith)) in
    let b = even n (le_refl (suc n)) in
    simp length-append (omega (arith, suc-mul n size))

-- the stretch k is f k
pub stretch-joined : (size n : ℕ) (f : ℕ → List ℕ) → ((k : ℕ) → k < n → length (f k) ≡ size) → (k : ℕ) → k < n → stretch size k (joined n f) ≡ f k
unfolding joined stretch
stretch-joined size zero f even k h = absurd (not-suc-le-zero h)
stretch-joined size (suc n) f even k h = step (ℕ_discrete k n) (λ l. stretch-joined size n f (λ k l. even k (omega arith)) k l)
  where
    a : length (joined n f) ≡ n * size
    a = length-joined size n f (λ k l. even k (omega arith))

    step : Dec (k ≡ n) → (k < n → take size (drop (k * size) (joined n f)) ≡ f k) → take size (drop (k * size) (joined n f ++ f n)) ≡ f k
    step (yes e) ih =
        ap (λ (z : ℕ). take size (drop (z * size) (joined n f ++ f n))) e
        ∙ ap (take size) (drop_at (joined n f) (f n) (n * size) a)
        ∙ take_all size (f n) (let b = even n (le_refl (suc n)) in omega arith) ∙ ap f (sym e)
    step (no q) ih =
        let l : k < n = omega arith in
        let b = stretch-fits size k n l in
        let d : size ≤ length (drop (k * size) (joined n f)) = simp length-drop (omega (arith, a)) in
        ap (take size) (drop-append-le (k * size) (joined n f) (f n) (omega (arith, a)))
        ∙ take-append-le size (drop (k * size) (joined n f)) (f n) d ∙ ih l

-- ---- outputs

-- what a callee wrote over the front of a room y, lent on as the room's first n
pub front : (l d y : List ℕ) (n : ℕ) → length l ≡ n → y ≡ over l d → take n y ≡ l
unfolding over
front l d y n e h = ap (take n) h ∙ take_at l (drop (length l) d) n e

-- an output is known by its front and its rest
pub over-parts : (l d y : List ℕ) (n : ℕ) → length l ≡ n → take n y ≡ l → drop n y ≡ drop n d → y ≡ over l d
unfolding over
over-parts l d y n e t r =
    sym (take-append-drop n y) ∙ ap₂ (λ (a b : List ℕ). a ++ b) t (r ∙ ap (λ (k : ℕ). drop k d) (sym e))

-- what a callee wrote over the front of a lent part, back in its place
pub part_over : (l d : List ℕ) (a k : ℕ) → length l ≤ k → a + k ≤ length d → put_mid a k d (over l (mid_of a k d)) ≡ over_at l a d
unfolding over over_at
part_over l d a k h f =
    ap (λ (z : List ℕ). take a d ++ z)
    (append_assoc l _ _
    ∙ ap (λ (z : List ℕ). l ++ z)
    (sym (drop-append-le (length l) (take k (drop a d)) (drop k (drop a d)) (simp (length-take, length-drop) (omega arith)))
    ∙ ap (drop (length l)) (take-append-drop k (drop a d))))

-- two lists written one behind the other
pub over-behind : (l m d : List ℕ) (a : ℕ) → length l ≡ a → over_at m a (over l d) ≡ over (l ++ m) d
unfolding over over_at
over-behind l m d a e =
    ap₂ (λ (x y : List ℕ). x ++ y) (take_at l (drop (length l) d) a e)
    (ap (λ (z : List ℕ). m ++ drop (length m) z) (drop_at l (drop (length l) d) a e)
    ∙ ap (λ (z : List ℕ). m ++ z) (drop-drop (length m) (length l) d ∙ ap (λ (k : ℕ). drop k d) (sym (length-append l m))))
    ∙ sym (append_assoc l m _)

-- one more entry written behind those in front
pub over-more : (l d : List ℕ) (j x : ℕ) → length l ≡ j → j < length d → set (over l d) j x ≡ over (l ++ (x ∷ [])) d
unfolding over
over-more l d j x e h =
    let n : j + 1 ≡ length (l ++ (x ∷ [])) = omega (arith, length-append l (x ∷ [])) in
    ap (λ (k : ℕ). set (l ++ drop k d) j x) e
    ∙ (rw (drop-cons d j 0 h, set_at l (get_or d j 0) (drop (suc j) d) x j e) (sym (append_snoc l x (drop (suc j) d))))
    ∙ ap (λ (k : ℕ). (l ++ (x ∷ [])) ++ drop k d) (sym (add-one j) ∙ n)

-- ---- a loop that writes a table over the front of d: what out is after j turns

pub record Tabulated (f : ℕ → ℕ) (d out : List ℕ) (j : ℕ) : Type 0 where
  pub size : length out ≡ length d
  pub now : out ≡ over (tab j f) d

pub tabulated_none : (f : ℕ → ℕ) (d : List ℕ) → Tabulated f d d 0
unfolding over tab
tabulated_none f d = record { size = refl; now = refl }

pub tabulated_more : (f : ℕ → ℕ) (d out : List ℕ) (j x : ℕ) → Tabulated f d out j → j < length d → x ≡ f j → Tabulated f d (set out j x) (j + 1)
unfolding tab
tabulated_more f d out j x t l e =
    record {
      size = simp length-set t.size;
      now = ap (λ (z : List ℕ). set z j x) t.now ∙ over-more (tab j f) d j x (length-tab j f) l ∙ rw (add-one, e);
    }

-- after the last turn the table is a list
pub tabulated_all : (f : ℕ → ℕ) (d out : List ℕ) (j n : ℕ) (l : List ℕ) → Tabulated f d out j → j ≡ n → tab n f ≡ l → out ≡ over l d
tabulated_all f d out j n l t e q = t.now ∙ ap (λ (z : List ℕ). over z d) (ap (λ (k : ℕ). tab k f) e ∙ q)

-- ---- a loop that writes stretches over the front of d: what out is after k turns

pub record Joining (f : ℕ → List ℕ) (d out : List ℕ) (k : ℕ) : Type 0 where
  pub size : length out ≡ length d
  pub now : out ≡ over (joined k f) d

pub joining_none : (f : ℕ → List ℕ) (d : List ℕ) → Joining f d d 0
unfolding over joined
joining_none f d = record { size = refl; now = refl }

pub joining_more : (size : ℕ) (f : ℕ → List ℕ) (d out after : List ℕ) (k : ℕ) → ((j : ℕ) → j < k → length (f j) ≡ size) → Joining f d out k
    → length after ≡ length out → after ≡ over_at (f k) (k * size) out → Joining f d after (k + 1)
unfolding joined
joining_more size f d out after k even t l e =
    record {
      size = l ∙ t.size;
      now = e ∙ ap (over_at (f k) (k * size)) t.now ∙ over-behind (joined k f) (f k) d (k * size) (length-joined size k f even) ∙ rw add-one;
    }
