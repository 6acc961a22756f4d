-- Laws of finite sums, and of sums and products modulo p.
use mathlib.Core.Path.{◌≡◌, refl, sym, ap, ◌∙◌}
use Prim.Native.Nat.{ℕ, zero, suc, ◌+◌, ◌*◌, ◌/◌, ◌%◌, ◌<◌, ◌≤◌}
use native.Mathlib.Nat.{add-zero, add-suc, add-mod, mul-add, add-mul, mul_assoc, mul_comm, mul-zero, le_refl, not-suc-le-zero, mod-add-div, add-mul-mod_self_left, le_trans, mul-le-mul_left}
use native.Mathlib.Numerals.{add-one}
use native.Mathlib.Decide.{ℕ_discrete}
use native.Mathlib.Omega.{arith}
use Rattle.algebra.specs.Lists.{sum_below}

-- ---- sums

-- one more term, as a loop adds it
pub sum_next : (n : ℕ) (f : ℕ → ℕ) → sum_below (n + 1) f ≡ sum_below n f + f n
unfolding sum_below
sum_next n f = ap (λ (k : ℕ). sum_below k f) (add-one n)

pub sum_cong : (n : ℕ) (f g : ℕ → ℕ) → ((j : ℕ) → j < n → f j ≡ g j) → sum_below n f ≡ sum_below n g
unfolding sum_below
sum_cong zero f g h = refl
sum_cong (suc n) f g h =
    let a = sum_cong n f g (λ j l. h j (omega arith)) in
    let b = h n (le_refl (suc n)) in
    cc

pub sum-add : (n : ℕ) (f g : ℕ → ℕ) → sum_below n (λ (j : ℕ). f j + g j) ≡ sum_below n f + sum_below n g
unfolding sum_below
sum-add zero f g = refl
sum-add (suc n) f g = let a = sum-add n f g in omega arith

pub sum-mul : (n c : ℕ) (f : ℕ → ℕ) → sum_below n (λ (j : ℕ). c * f j) ≡ c * sum_below n f
unfolding sum_below
sum-mul zero c f = sym (mul-zero c)
sum-mul (suc n) c f = let a = sum-mul n c f in omega (arith, mul-add c (sum_below n f) (f n))

-- the first term apart
pub sum-front : (n : ℕ) (f : ℕ → ℕ) → sum_below (suc n) f ≡ f 0 + sum_below n (λ (j : ℕ). f (suc j))
unfolding sum_below
sum-front zero f = omega arith
sum-front (suc n) f = let a = sum-front n f in omega arith

-- the first d terms apart
pub sum_split : (d m : ℕ) (f : ℕ → ℕ) → sum_below (d + m) f ≡ sum_below d f + sum_below m (λ (j : ℕ). f (d + j))
unfolding sum_below
sum_split d zero f = ap (λ (k : ℕ). sum_below k f) (add-zero d) ∙ sym (add-zero (sum_below d f))
sum_split d (suc m) f = ap (λ (k : ℕ). sum_below k f) (add-suc d m) ∙ (let a = sum_split d m f in omega arith)

pub sum-none : (m : ℕ) (f : ℕ → ℕ) → ((j : ℕ) → j < m → f j ≡ 0) → sum_below m f ≡ 0
unfolding sum_below
sum-none zero f h = refl
sum-none (suc m) f h = let a = sum-none m f (λ j l. h j (omega arith)) in let b = h m (le_refl (suc m)) in omega arith

-- one term alone
pub sum_one : (m i : ℕ) (f : ℕ → ℕ) → i < m → ((j : ℕ) → (j ≡ i → ⊥) → f j ≡ 0) → sum_below m f ≡ f i
unfolding sum_below
sum_one zero i f l h = absurd (not-suc-le-zero l)
sum_one (suc m) i f l h = step (ℕ_discrete i m) (λ k. sum_one m i f k h)
  where
    step : Dec (i ≡ m) → (i < m → sum_below m f ≡ f i) → sum_below m f + f m ≡ f i
    step (yes e) ih = let a = sum-none m f (λ j k. h j (λ q. omega arith)) in let b : f i ≡ f m = ap f e in omega arith
    step (no q) ih = let a = ih (omega arith) in let b = h m (λ e. q (sym e)) in omega arith

-- ---- modulo p

pub cong_add : (p a b c d : ℕ) → a % p ≡ b % p → c % p ≡ d % p → (a + c) % p ≡ (b + d) % p
cong_add p a b c d h k = rw (add-mod a c p, h, k, ← add-mod b d p)

pub mod-mul-left : (a c p : ℕ) → (a % p * c) % p ≡ (a * c) % p
mod-mul-left a c p =
    sym (add-mul-mod_self_left (a % p * c) p (a / p * c))
    ∙ ap (λ (x : ℕ). x % p)
    (ap (λ (x : ℕ). a % p * c + x) (sym (mul_assoc p (a / p) c)) ∙ sym (add-mul (a % p) (p * (a / p)) c) ∙ ap (λ (x : ℕ). x * c) (mod-add-div a p))

mul-mod : (a c p : ℕ) → (a * c) % p ≡ (a % p * (c % p)) % p
mul-mod a c p =
    sym (mod-mul-left a c p) ∙ ap (λ (x : ℕ). x % p) (mul_comm (a % p) c) ∙ sym (mod-mul-left c (a % p) p)
    ∙ ap (λ (x : ℕ). x % p) (mul_comm (c % p) (a % p))

pub cong_mul : (p a b c d : ℕ) → a % p ≡ b % p → c % p ≡ d % p → (a * c) % p ≡ (b * d) % p
cong_mul p a b c d h k = rw (mul-mod a c p, h, k, ← mul-mod b d p)

pub sum-mod : (p n : ℕ) (f g : ℕ → ℕ) → ((j : ℕ) → j < n → f j % p ≡ g j % p) → sum_below n f % p ≡ sum_below n g % p
unfolding sum_below
sum-mod p zero f g h = refl
sum-mod p (suc n) f g h =
    cong_add p (sum_below n f) (sum_below n g) (f n) (g n) (sum-mod p n f g (λ j l. h j (omega arith))) (h n (le_refl (suc n)))

-- ---- the product of two bytes

pub byte_mul : (a b : ℕ) → a < 256 → b < 256 → a * b ≤ 65025
byte_mul a b h k = let l : a ≤ 255 = omega arith in let m : b ≤ 255 = omega arith in le_trans (mul-le-mul_left a m) (omega arith)
