-- Laws of drawing: a turn of each loop, and that what is drawn as a permutation is one.
use mathlib.Core.Path.{◌≡◌, refl, sym, ap, ◌∙◌, subst}
use mathlib.Core.List.{List, ◌++◌}
use Prim.Native.Nat.{ℕ, zero, suc, ◌+◌, ◌-◌, ◌%◌, ◌<◌, ◌≤◌}
use native.Mathlib.Nat.{mod-lt, div-mul-le_self}
use native.Mathlib.Numerals.{add-one}
use native.Mathlib.Decide.{ℕ_discrete}
use native.Mathlib.Omega.{arith}
use borrow.Author.Tests.{lt-ltb, le-ltb}
use lib.ListN.{length, get_or, take, drop, set, length-set, drop_of_length-le, take-append-drop, get_or-append}
use lib.Seq.{drop_at, drop-cons, length-take-le, get_or-set_same, get_or-set_other, set-append_left}
use Rattle.std.specs.Prelude.{Option, Some, None, IsSome}
use Rattle.std.proofs.lemmas.List.{append-nil}
use Rattle.algebra.specs.Lists.{over}
use Rattle.algebra.specs.Permutations.{IsPerm, identity}
use Rattle.random.specs.Drawings.{draw_left, draw_below, Drawing, drew, ran_out, with, largest_multiple, exchange, shuffle, draw_permutation, used_by, drawn_over, Enough}
use Rattle.algebra.proofs.Lists.{front}
use Rattle.algebra.proofs.Permutations.{Stands, stands, from_places, identity-perm}

-- ---- a byte below the limit: a turn of the loop at the place i

module _ (limit : ℕ) (random : List ℕ) (i : ℕ) where
  pub draw_end : length random ≤ i → draw_left limit (drop i random) i ≡ None
  unfolding draw_left
  draw_end h = rw (drop_of_length-le random h)

  pub draw_hit : i < length random → get_or random i 0 < limit → draw_left limit (drop i random) i ≡ Some (get_or random i 0, i + 1)
  unfolding draw_left
  draw_hit h l = rw (drop-cons random i 0 h, lt-ltb (get_or random i 0) limit l)

  pub draw_skip : i < length random → limit ≤ get_or random i 0
      → draw_left limit (drop i random) i ≡ draw_left limit (drop (i + 1) random) (i + 1)
  unfolding draw_left
  draw_skip h l = rw (drop-cons random i 0 h, le-ltb (get_or random i 0) limit l, add-one)

-- what is written over the front of a lent front, with the rest behind it
pub over-taken : (l d : List ℕ) (n : ℕ) → length l ≡ n → n ≤ length d → over l (take n d) ++ drop n d ≡ over l d
unfolding over
over-taken l d n e h =
    let t : length (take n d) ≤ n = omega (arith, length-take-le n d h) in rw (e, drop_of_length-le (take n d) t, append-nil)

pub largest_multiple-le : (k : ℕ) → largest_multiple k ≤ 256
largest_multiple-le k = div-mul-le_self 256 k

-- ---- the exchange of two places

pub length-exchange : (s : List ℕ) (i j : ℕ) → length (exchange s i j) ≡ length s
unfolding exchange
length-exchange s i j = simp length-set

module _ (n : ℕ) (s : List ℕ) (i j : ℕ) (li : i < n) (lj : j < n) (h : IsPerm n s) where
  at_j : get_or (exchange s i j) j 0 ≡ get_or s i 0
  unfolding exchange
  at_j = get_or-set_same (set s i (get_or s j 0)) j (get_or s i 0) 0 (simp length-set (rw h.len lj))

  -- what stood at p stands at i or j now, or where it was
  moved : (p : ℕ) → p < n → Dec (p ≡ i) → Dec (p ≡ j) → Stands n (exchange s i j) (get_or s p 0)
  moved p l (yes e) d = (j, lj, at_j ∙ ap (λ (z : ℕ). get_or s z 0) (sym e))
  moved p l (no f) (yes e) = (i, li, at_i (λ q. f (e ∙ sym q)) ∙ ap (λ (z : ℕ). get_or s z 0) (sym e))
    where
      at_i : (i ≡ j → ⊥) → get_or (exchange s i j) i 0 ≡ get_or s j 0
      at_i q = unfold exchange in
          get_or-set_other (set s i (get_or s j 0)) j i (get_or s i 0) 0 q ∙ get_or-set_same s i (get_or s j 0) 0 (rw h.len li)
  moved p l (no f) (no g) = (p, l, same)
    where
      same : get_or (exchange s i j) p 0 ≡ get_or s p 0
      same = unfold exchange in
          get_or-set_other (set s i (get_or s j 0)) j p (get_or s i 0) 0 g ∙ get_or-set_other s i p (get_or s j 0) 0 f

  exchange-perm : IsPerm n (exchange s i j)
  exchange-perm =
      from_places n (exchange s i j) (length-exchange s i j ∙ h.len)
      (λ k l.
      let p = stands n s h k l in
      let q = moved p.0 p.1 (ℕ_discrete p.0 i) (ℕ_discrete p.0 j) in
      (q.0, q.1, q.2 ∙ p.2))

-- ---- what is drawn as a permutation is one

-- a permutation, where the bytes suffice
abbrev pub Permutes : ℕ → Drawing → Type 0
Permutes n (drew s at) = IsPerm n s
Permutes n ran_out = Unit {0}

shuffle-perm : (n i : ℕ) (s random : List ℕ) (at : ℕ) → i < n → IsPerm n s → Permutes n (shuffle i s random at)
unfolding shuffle
shuffle-perm n zero s random at l h = h
shuffle-perm n (suc i) s random at l h =
    step (draw_below (largest_multiple (suc i + 1)) random at)
    (λ x next. shuffle-perm n i (exchange s (suc i) (x % (suc i + 1))) random next (omega arith)
    (exchange-perm n s (suc i) (x % (suc i + 1)) l (let m = mod-lt x {m = suc i + 1} (omega arith) in omega arith) h))
  where
    step : (d : Option (ℕ × ℕ)) → ((x next : ℕ) → Permutes n (shuffle i (exchange s (suc i) (x % (suc i + 1))) random next))
        → Permutes n (with d (λ (x next : ℕ). shuffle i (exchange s (suc i) (x % (suc i + 1))) random next))
    step (Some (x, next)) ih = ih x next
    step None ih = tt

pub drawn-perm : (n : ℕ) (random : List ℕ) (at : ℕ) → 0 < n → Permutes n (draw_permutation n random at)
unfolding draw_permutation
drawn-perm n random at h = shuffle-perm n (n - 1) (identity n) random at (omega arith) (identity-perm n)

-- ---- a turn of a loop over the places, of which i are still to be drawn for

pub shuffle-more : (i : ℕ) (s random : List ℕ) (p x next : ℕ) → 0 < i → Some (x, next) ≡ draw_below (largest_multiple (i + 1)) random p
    → shuffle i s random p ≡ shuffle (i - 1) (exchange s i (x % (i + 1))) random next
unfolding shuffle
shuffle-more zero s random p x next h e = absurd (omega arith)
shuffle-more (suc j) s random p x next h e = rw (← e) (ap (λ (k : ℕ). shuffle k (exchange s (suc j) (x % (suc j + 1))) random next) (omega arith))

pub shuffle_short : (i : ℕ) (s random : List ℕ) (p : ℕ) → 0 < i → None ≡ draw_below (largest_multiple (i + 1)) random p → shuffle i s random p ≡ ran_out
unfolding shuffle
shuffle_short zero s random p h e = absurd (omega arith)
shuffle_short (suc j) s random p h e = rw (← e)

pub shuffle_done : (i : ℕ) (s random : List ℕ) (p : ℕ) → i ≤ 1 → shuffle (i - 1) s random p ≡ drew s p
unfolding shuffle
shuffle_done i s random p h = let e : i - 1 ≡ 0 = omega arith in rw e

-- the bytes used do not depend on the list
pub shuffle_used : (i : ℕ) (s t random : List ℕ) (at : ℕ) → used_by (shuffle i s random at) ≡ used_by (shuffle i t random at)
unfolding shuffle
shuffle_used zero s t random at = refl
shuffle_used (suc i) s t random at =
    step (draw_below (largest_multiple (suc i + 1)) random at)
    (λ x next. shuffle_used i (exchange s (suc i) (x % (suc i + 1))) (exchange t (suc i) (x % (suc i + 1))) random next)
  where
    rest : List ℕ → ℕ → ℕ → Drawing
    rest l x next = shuffle i (exchange l (suc i) (x % (suc i + 1))) random next

    step : (d : Option (ℕ × ℕ)) → ((x next : ℕ) → used_by (rest s x next) ≡ used_by (rest t x next))
        → used_by (with d (rest s)) ≡ used_by (with d (rest t))
    step (Some (x, next)) ih = ih x next
    step None ih = refl

-- ---- the loop that writes

-- what it has come to: a list over the front of d that goes on to the whole drawing
pub record Shuffling (n : ℕ) (random : List ℕ) (at : ℕ) (d out : List ℕ) (p i : ℕ) : Type 0 where
  pub list : List ℕ
  pub len : length list ≡ n
  pub rest : shuffle (i - 1) list random p ≡ shuffle (n - 1) (take n d) random at
  pub now : out ≡ over list d

pub shuffling_none : (n : ℕ) (random : List ℕ) (at : ℕ) (d : List ℕ) → n ≤ length d → Shuffling n random at d d at n
unfolding over
shuffling_none n random at d h =
    let e = length-take-le n d h in
    record {
      list = take n d;
      len = e;
      rest = refl;
      now = sym (ap (λ (k : ℕ). take n d ++ drop k d) e ∙ take-append-drop n d);
    }

exchange-over : (s d : List ℕ) (i j : ℕ) → i < length s → j < length s → exchange (over s d) i j ≡ over (exchange s i j) d
unfolding exchange over
exchange-over s d i j hi hj =
    rw (
      get_or-append s (drop (length s) d) 0 i hi,
      get_or-append s (drop (length s) d) 0 j hj,
      set-append_left s (drop (length s) d) i (get_or s j 0) hi,
      set-append_left (set s i (get_or s j 0)) (drop (length s) d) j (get_or s i 0) (simp length-set hj),
    )
    (ap (λ (k : ℕ). set (set s i (get_or s j 0)) j (get_or s i 0) ++ drop k d) (sym (length-exchange s i j)))

module _ (n : ℕ) (random : List ℕ) (at : ℕ) (d out : List ℕ) (p i : ℕ) (w : Shuffling n random at d out p i) where
  pub shuffling_more : 1 < i → i ≤ n → (x next : ℕ) → Some (x, next) ≡ draw_below (largest_multiple (i - 1 + 1)) random p
      → Shuffling n random at d (exchange out (i - 1) (x % (i - 1 + 1))) next (i - 1)
  shuffling_more h l x next e =
      let y = x % (i - 1 + 1) in
      let m = mod-lt x {m = i - 1 + 1} (omega arith) in
      let len = w.len in
      record {
        list = exchange w.list (i - 1) y;
        len = length-exchange w.list (i - 1) y ∙ len;
        rest = sym (shuffle-more (i - 1) w.list random p x next (omega arith) e) ∙ w.rest;
        now = ap (λ (z : List ℕ). exchange z (i - 1) y) w.now ∙ exchange-over w.list d (i - 1) y (omega arith) (omega arith);
      }

  -- where the whole has enough, so has the next byte
  pub shuffling_enough : 1 < i → Enough (shuffle (n - 1) (take n d) random at) → IsSome (draw_below (largest_multiple (i - 1 + 1)) random p)
  shuffling_enough h enough = step _ refl
    where
      step : (b : Option (ℕ × ℕ)) → b ≡ draw_below (largest_multiple (i - 1 + 1)) random p → IsSome b
      step (Some drawn) e = refl
      step None e = absurd (subst Enough (sym w.rest ∙ shuffle_short (i - 1) w.list random p (omega arith) e) enough)

  pub shuffling_short : 1 < i → None ≡ draw_below (largest_multiple i) random p → shuffle (n - 1) (take n d) random at ≡ ran_out
  shuffling_short h e =
      let k : i - 1 + 1 ≡ i = omega arith in
      sym w.rest ∙ shuffle_short (i - 1) w.list random p (omega arith) (rw k e)

  pub shuffling_done : i ≤ 1 → shuffle (n - 1) (take n d) random at ≡ drew w.list p
  shuffling_done h = sym w.rest ∙ shuffle_done i w.list random p h

-- ---- the whole drawing: the identity is written first

pub shuffle-identity : (n : ℕ) (random : List ℕ) (at : ℕ) (d out : List ℕ) → out ≡ over (identity n) d
    → shuffle (n - 1) (take n out) random at ≡ draw_permutation n random at
unfolding draw_permutation
shuffle-identity n random at d out e =
    ap (λ (s : List ℕ). shuffle (n - 1) s random at) (front (identity n) d out n (identity-perm n).len e)

over-over : (s t d : List ℕ) → length s ≡ length t → over s (over t d) ≡ over s d
unfolding over
over-over s t d e = ap (λ (z : List ℕ). s ++ z) (drop_at t (drop (length t) d) (length s) (sym e) ∙ ap (λ (k : ℕ). drop k d) (sym e))

pub drawn-over-identity : (n : ℕ) (m : Drawing) (d : List ℕ) → Permutes n m → Enough m → drawn_over m (over (identity n) d) ≡ drawn_over m d
drawn-over-identity n (drew s at) d h e = over-over s (identity n) d (h.len ∙ sym (identity-perm n).len)
drawn-over-identity n ran_out d h e = absurd e

-- ---- what the measured answer says of the drawing

pub enough_of : (m : Drawing) (q : ℕ) → Some q ≡ used_by m → Enough m
enough_of (drew s at) q e = tt
enough_of ran_out q e = let z : ◌≡◌ {A = ℕ} 0 1 = cc in absurd (omega arith)

pub untouched : (m : Drawing) (d : List ℕ) → None ≡ used_by m → d ≡ drawn_over m d
untouched (drew s at) d e = let z : ◌≡◌ {A = ℕ} 0 1 = cc in absurd (omega arith)
untouched ran_out d e = refl
