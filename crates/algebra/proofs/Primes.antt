-- Residues modulo a prime: each but 0 has an inverse, and a product is 0 only where a factor is. The inverse of a comes by descent, from that of p % a.
use mathlib.Core.Path.{◌≡◌, refl, sym, ap, ◌∙◌}
use mathlib.Core.Bool.{Bool, true, false, not, ◌||◌, false≢true}
use Prim.Native.Nat.{ℕ, zero, suc, ◌+◌, ◌*◌, ◌/◌, ◌%◌, ◌<◌, ◌≤◌}
use native.Mathlib.Nat.{mul_comm, mul_assoc, mul-add, add-mul, one-mul, mul-one, mul-zero, mod-lt, mod-eq_of_lt, zero-mod, not-suc-le-zero, le_refl, mod-add-div, mul-mod_right, add-mod_right}
use native.Mathlib.Decide.{ℕ_discrete}
use native.Mathlib.Omega.{arith}
use borrow.Author.Tests.{leb-true}
use lib.Dec.{eqb, leb}
use Rattle.algebra.specs.Lists.{all_below}
use Rattle.algebra.specs.Residues.{Prime, modulus}
use Rattle.algebra.proofs.Lists.{all_below-at}
use Rattle.algebra.proofs.Sums.{cong_add, cong_mul, mod-mul-left}

-- ---- a prime by a test that computes

no_factor : ℕ → ℕ → Bool
no_factor p d = leb d 1 || not (eqb (p % d) 0)

prime_by : (p : ℕ) → 1 < p → all_below p (no_factor p) ≡ true → Prime p
unfolding no_factor
prime_by p above t = record { above = above; whole = λ d l h e. no_zero d l e (leb d 1) refl (all_below-at p (no_factor p) t d h) }
  where
    no_zero : (d : ℕ) → 1 < d → p % d ≡ 0 → (b : Bool) → leb d 1 ≡ b → (b || not (eqb (p % d) 0)) ≡ true → ⊥
    no_zero d l e true q t = let a = leb-true d 1 q in omega arith
    no_zero d l e false q t = false≢true (ap (λ (x : ℕ). not (eqb x 0)) (sym e) ∙ t)

pub modulus_prime : Prime modulus
unfolding all_below no_factor
modulus_prime = prime_by modulus (omega arith) refl

-- ---- the inverse

nonzero : (x : ℕ) → (x ≡ 0 → ⊥) → 0 < x
nonzero zero f = absurd (f refl)
nonzero (suc x) f = omega arith

-- one step of the descent: where r = p - a·q has the inverse b, a has (p - 1)·q·b
descend : (p k a q r b : ℕ) → p ≡ suc k → 1 < p → r + a * q ≡ p → (r * b) % p ≡ 1 → (a * (k * (q * b))) % p ≡ 1
descend p k a q r b ek above e h = ap (λ (x : ℕ). x % p) e5 ∙ e4
  where
    t : ℕ
    t = a * (q * b)

    one : 1 % p ≡ 1
    one = mod-eq_of_lt above

    e1 : t + r * b ≡ p * b
    e1 = omega (arith, sym (mul_assoc a q b), add-mul r (a * q) b, ap (λ (x : ℕ). x * b) e)

    e2 : (t + 1) % p ≡ 0 % p
    e2 = cong_add p t t 1 (r * b) refl (one ∙ sym h) ∙ ap (λ (x : ℕ). x % p) e1 ∙ mul-mod_right p b ∙ sym (zero-mod p)

    e3 : (k * (t + 1)) % p ≡ 0 % p
    e3 = cong_mul p k k (t + 1) 0 refl e2 ∙ ap (λ (x : ℕ). x % p) (mul-zero k)

    e4 : (k * t) % p ≡ 1
    e4 =
        sym (add-mod_right (k * t) p) ∙ ap (λ (x : ℕ). x % p) (omega (arith, mul-add k t 1, mul-one k))
        ∙ cong_add p (k * (t + 1)) 0 1 1 e3 refl ∙ one

    e5 : a * (k * (q * b)) ≡ k * t
    e5 = sym (mul_assoc a k (q * b)) ∙ ap (λ (x : ℕ). x * (q * b)) (mul_comm a k) ∙ mul_assoc k a (q * b)

abbrev Inverse : ℕ → ℕ → Type 0
Inverse p a = (b : ℕ) × ((a * b) % p ≡ 1)

-- every residue but 0 has an inverse
pub inverse_of : (p : ℕ) → Prime p → (a : ℕ) → 0 < a → a < p → (b : ℕ) × ((a * b) % p ≡ 1)
inverse_of p h a pos l = go a a (le_refl a) pos l
  where
    before : (x : ℕ) → 1 < x → (k : ℕ) × (x ≡ suc k)
    before zero l = absurd (not-suc-le-zero l)
    before (suc k) l = (k, refl)

    branch : (f a : ℕ) → a ≤ suc f → 0 < a → a < p → ((r : ℕ) → r ≤ f → 0 < r → r < p → Inverse p r) → Dec (a ≡ 1) → Inverse p a
    branch f a le pos l ih (yes e) = (1, ap (λ (x : ℕ). x % p) (mul-one a ∙ e) ∙ mod-eq_of_lt h.above)
    branch f a le pos l ih (no ne) =
        let k = before p h.above in
        let lt = mod-lt p pos in
        let more : 1 < a = omega arith in
        let i = ih (p % a) (omega arith) (nonzero (p % a) (h.whole a more l)) (omega arith) in
        (k.0 * (p / a * i.0), descend p k.0 a (p / a) (p % a) i.0 k.1 h.above (mod-add-div p a) i.1)

    go : (f a : ℕ) → a ≤ f → 0 < a → a < p → Inverse p a
    go zero a le pos l = absurd (omega arith)
    go (suc f) a le pos l = branch f a le pos l (go f) (ℕ_discrete a 1)

-- no zero divisors
pub no_zero_divisors : (p : ℕ) → Prime p → (a b : ℕ) → (a * b) % p ≡ 0 → (a % p ≡ 0 → ⊥) → b % p ≡ 0
no_zero_divisors p h a b e f =
    let above = h.above in
    let i = inverse_of p h (a % p) (nonzero (a % p) f) (mod-lt a (omega arith)) in
    let c = i.0 in
    let one : (c * a) % p ≡ 1 % p = ap (λ (x : ℕ). x % p) (mul_comm c a) ∙ sym (mod-mul-left a c p) ∙ i.1 ∙ sym (mod-eq_of_lt above) in
    ap (λ (x : ℕ). x % p) (sym (one-mul b)) ∙ sym (cong_mul p (c * a) 1 b b one refl)
    ∙ ap (λ (x : ℕ). x % p) (mul_assoc c a b) ∙ cong_mul p c c (a * b) 0 refl (e ∙ sym (zero-mod p))
    ∙ ap (λ (x : ℕ). x % p) (mul-zero c) ∙ zero-mod p
