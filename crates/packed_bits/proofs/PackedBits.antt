-- Bytes are told by their bits: two lists of bytes whose bits below N agree, and that have no other bit set, are equal.
-- Packing gives the bytes that have the bits asked for and no others.
use mathlib.Core.Path.{◌≡◌, refl, sym, ap, ◌∙◌}
use mathlib.Core.Bool.{Bool, true, false, cond, not, ◌&&◌}
use mathlib.Core.List.{List}
use Prim.Native.Nat.{ℕ, zero, suc, ◌+◌, ◌-◌, ◌*◌, ◌/◌, ◌%◌, ◌^◌, ◌≤◌, ◌<◌}
use native.Mathlib.Nat.{mul-one, mul-zero}
use native.Mathlib.Decide.{dec_lt}
use native.Mathlib.Omega.{arith}
use borrow.Author.Tests.{eqb-true, not-true, lt-ltb, le-ltb}
use lib.Dec.{eqb, ltb}
use lib.ListN.{length, get_or, get_or-eq_default}
use lib.Seq.{ext_get_or}
use Rattle.algebra.specs.Lists.{tab, sum_below, all_below}
use Rattle.algebra.proofs.Lists.{all_below-at, all_below-all, length-tab, get_or-tab, tab_of}
use Rattle.algebra.proofs.Sums.{sum_cong}
use Rattle.packed_bits.specs.PackedBits.{bit_at, clear_from, unused_clear, byte_of, pack, Bytes}

-- ---- a byte by its bits

-- bit j of a byte, highest first
abbrev bit_of : ℕ → ℕ → ℕ
bit_of x j = cond (eqb (x / 2 ^ (7 - j) % 2) 1) 1 0

by_bits : ℕ → ℕ
by_bits x = sum_below 8 (λ (j : ℕ). bit_of x j * 2 ^ (7 - j))

-- by a test of all bytes
by_bits_lem : (x : ℕ) → x < 256 → by_bits x ≡ x
by_bits_lem x l = eqb-true (by_bits x) x (all_below-at 256 (λ (y : ℕ). eqb (by_bits y) y) all x l)
  where
    all : all_below 256 (λ (y : ℕ). eqb (by_bits y) y) ≡ true
    all = unfold all_below by_bits sum_below in refl

same_byte : (x y : ℕ) → x < 256 → y < 256 → ((j : ℕ) → j < 8 → bit_of x j ≡ bit_of y j) → x ≡ y
unfolding by_bits
same_byte x y lx ly h =
    sym (by_bits_lem x lx) ∙ sum_cong 8 (λ (j : ℕ). bit_of x j * 2 ^ (7 - j)) (λ (j : ℕ). bit_of y j * 2 ^ (7 - j)) (λ j l. ap (λ (z : ℕ). z * 2 ^ (7 - j)) (h j l))
    ∙ by_bits_lem y ly

-- ---- lists of bytes

-- bit i·8 + j of a list is bit j of its byte i
bit_of_byte : (s : List ℕ) (i j : ℕ) → j < 8 → cond (bit_at s (i * 8 + j)) 1 0 ≡ bit_of (get_or s i 0) j
unfolding bit_at
bit_of_byte s i j l =
    let q : (i * 8 + j) / 8 ≡ i = omega arith in
    let r : (i * 8 + j) % 8 ≡ j = omega arith in
    rw (q, r)

pub same_bits : (N : ℕ) (s t : List ℕ) → Bytes s → Bytes t → length s ≡ length t → unused_clear N s ≡ true → unused_clear N t ≡ true
    → tab N (λ (k : ℕ). cond (bit_at s k) 1 0) ≡ tab N (λ (k : ℕ). cond (bit_at t k) 1 0) → s ≡ t
unfolding unused_clear
same_bits N s t bs bt e cs ct h =
    ext_get_or 0 s t e
    (λ i l. same_byte (get_or s i 0) (get_or t i 0) (bs i) (bt i) (λ j m. sym (bit_of_byte s i j m) ∙ bit (i * 8 + j) (omega arith) (dec_lt (i * 8 + j) N) ∙ bit_of_byte t i j m))
  where
    -- a bit from N on is clear
    spare : (u : List ℕ) → all_below (8 * length u - N) (clear_from N u) ≡ true → (k : ℕ) → k < 8 * length u → N ≤ k → bit_at u k ≡ false
    spare u c k l m =
        let q : N + (k - N) ≡ k = omega arith in
        ap (bit_at u) (sym q) ∙ not-true _ (all_below-at (8 * length u - N) (clear_from N u) c (k - N) (omega arith))

    bit : (k : ℕ) → k < 8 * length s → Dec (k < N) → ◌≡◌ {A = ℕ} (cond (bit_at s k) 1 0) (cond (bit_at t k) 1 0)
    bit k l (yes m) = sym (get_or-tab N _ k m) ∙ ap (λ (z : List ℕ). get_or z k 0) h ∙ get_or-tab N _ k m
    bit k l (no f) =
        let m : N ≤ k = omega arith in
        ap (λ (z : Bool). cond z 1 0) (spare s cs k l m ∙ sym (spare t ct k (omega arith) m))

-- ---- packing

-- a byte that is put together of eight bits has them
digits : (x0 x1 x2 x3 x4 x5 x6 x7 : ℕ) → x0 ≤ 1 → x1 ≤ 1 → x2 ≤ 1 → x3 ≤ 1 → x4 ≤ 1 → x5 ≤ 1 → x6 ≤ 1 → x7 ≤ 1 → (x : ℕ)
    → x ≡ 0 + 128 * x0 + 64 * x1 + 32 * x2 + 16 * x3 + 8 * x4 + 4 * x5 + 2 * x6 + 1 * x7
    → (x / 128 % 2 ≡ x0) × (x / 64 % 2 ≡ x1) × (x / 32 % 2 ≡ x2) × (x / 16 % 2 ≡ x3) × (x / 8 % 2 ≡ x4) × (x / 4 % 2 ≡ x5) × (x / 2 % 2 ≡ x6) × (x / 1 % 2 ≡ x7)
digits x0 x1 x2 x3 x4 x5 x6 x7 h0 h1 h2 h3 h4 h5 h6 h7 x e =
    (omega arith, omega arith, omega arith, omega arith, omega arith, omega arith, omega arith, omega arith)

flag : Bool → ℕ
flag t = cond t 1 0

flag_small : (t : Bool) → flag t ≤ 1
flag_small true = unfold flag in omega arith
flag_small false = unfold flag in omega arith

weighed : (t : Bool) (n : ℕ) → cond t n 0 ≡ n * flag t
weighed true n = unfold flag in sym (mul-one n)
weighed false n = unfold flag in sym (mul-zero n)

put_together : (b : ℕ → Bool)
    → byte_of b ≡ 0 + 128 * flag (b 0) + 64 * flag (b 1) + 32 * flag (b 2) + 16 * flag (b 3) + 8 * flag (b 4) + 4 * flag (b 5) + 2 * flag (b 6) + 1 * flag (b 7)
put_together b = unfold byte_of sum_below in
    (let e0 = weighed (b 0) 128 in
    let e1 = weighed (b 1) 64 in
    let e2 = weighed (b 2) 32 in
    let e3 = weighed (b 3) 16 in
    let e4 = weighed (b 4) 8 in
    let e5 = weighed (b 5) 4 in
    let e6 = weighed (b 6) 2 in
    let e7 = weighed (b 7) 1 in
    omega arith)

taken_apart : (b : ℕ → Bool) (j : ℕ) → j < 8 → byte_of b / 2 ^ (7 - j) % 2 ≡ flag (b j)
taken_apart b j l = pick j l
    (digits (flag (b 0)) (flag (b 1)) (flag (b 2)) (flag (b 3)) (flag (b 4)) (flag (b 5)) (flag (b 6)) (flag (b 7))
    (flag_small (b 0)) (flag_small (b 1)) (flag_small (b 2)) (flag_small (b 3))
    (flag_small (b 4)) (flag_small (b 5)) (flag_small (b 6)) (flag_small (b 7)) (byte_of b) (put_together b))
  where
    pick : (j : ℕ) → j < 8
        → (byte_of b / 128 % 2 ≡ flag (b 0)) × (byte_of b / 64 % 2 ≡ flag (b 1)) × (byte_of b / 32 % 2 ≡ flag (b 2)) × (byte_of b / 16 % 2 ≡ flag (b 3))
        × (byte_of b / 8 % 2 ≡ flag (b 4)) × (byte_of b / 4 % 2 ≡ flag (b 5)) × (byte_of b / 2 % 2 ≡ flag (b 6)) × (byte_of b / 1 % 2 ≡ flag (b 7))
        → byte_of b / 2 ^ (7 - j) % 2 ≡ flag (b j)
    pick zero l d = d.0
    pick (suc zero) l d = d.1
    pick (suc (suc zero)) l d = d.2
    pick (suc (suc (suc zero))) l d = d.3
    pick (suc (suc (suc (suc zero)))) l d = d.4
    pick (suc (suc (suc (suc (suc zero))))) l d = d.5
    pick (suc (suc (suc (suc (suc (suc zero)))))) l d = d.6
    pick (suc (suc (suc (suc (suc (suc (suc zero))))))) l d = d.7
    pick (suc (suc (suc (suc (suc (suc (suc (suc j)))))))) l d = absurd (omega arith)

byte_of-small : (b : ℕ → Bool) → byte_of b < 256
byte_of-small b =
    let e = put_together b in
    let h0 = flag_small (b 0) in
    let h1 = flag_small (b 1) in
    let h2 = flag_small (b 2) in
    let h3 = flag_small (b 3) in
    let h4 = flag_small (b 4) in
    let h5 = flag_small (b 5) in
    let h6 = flag_small (b 6) in
    let h7 = flag_small (b 7) in
    omega arith

-- a bit within the packed bytes
bit-within : (N : ℕ) (f : ℕ → Bool) (k : ℕ) → k < 8 * ((N + 7) / 8) → bit_at (pack N f) k ≡ (ltb k N && f k)
unfolding bit_at pack
bit-within N f k l =
    let b : ℕ → Bool = λ j. ltb (k / 8 * 8 + j) N && f (k / 8 * 8 + j) in
    let q : k / 8 * 8 + k % 8 ≡ k = omega arith in
    ap (λ (z : ℕ). eqb (z / 2 ^ (7 - k % 8) % 2) 1) (get_or-tab ((N + 7) / 8) (λ (i : ℕ). byte_of (λ (j : ℕ). ltb (i * 8 + j) N && f (i * 8 + j))) (k / 8) (omega arith))
    ∙ ap (λ (z : ℕ). eqb z 1) (taken_apart b (k % 8) (omega arith)) ∙ raised (b (k % 8)) ∙ ap (λ (z : ℕ). ltb z N && f z) q
  where
    raised : (t : Bool) → eqb (flag t) 1 ≡ t
    raised true = unfold flag in refl
    raised false = unfold flag in refl

pub packed_bit : (N : ℕ) (f : ℕ → Bool) (k : ℕ) → k < N → bit_at (pack N f) k ≡ f k
packed_bit N f k l = bit-within N f k (omega arith) ∙ ap (λ (z : Bool). z && f k) (lt-ltb k N l)

pub packed_clear : (N : ℕ) (f : ℕ → Bool) → unused_clear N (pack N f) ≡ true
unfolding unused_clear clear_from
packed_clear N f = all_below-all (8 * length (pack N f) - N) (clear_from N (pack N f)) at
  where
    at : (k : ℕ) → k < 8 * length (pack N f) - N → clear_from N (pack N f) k ≡ true
    at k l =
        let e : length (pack N f) ≡ (N + 7) / 8 = unfold pack in length-tab ((N + 7) / 8) _ in
        ap not (bit-within N f (N + k) (omega arith) ∙ ap (λ (z : Bool). z && f (N + k)) (le-ltb (N + k) N (omega arith)))

-- packing the bits of bytes gives the bytes
pub pack-bits : (N : ℕ) (s : List ℕ) → Bytes s → length s ≡ (N + 7) / 8 → unused_clear N s ≡ true → pack N (bit_at s) ≡ s
pack-bits N s bs e c =
    same_bits N (pack N (bit_at s)) s packed-bytes bs (packed-length ∙ sym e) (packed_clear N (bit_at s)) c
    (tab_of N _ _ (length-tab N _) (λ k l. get_or-tab N _ k l ∙ ap (λ (z : Bool). cond z 1 0) (sym (packed_bit N (bit_at s) k l))))
  where
    packed-length : length (pack N (bit_at s)) ≡ (N + 7) / 8
    packed-length = unfold pack in length-tab ((N + 7) / 8) _

    packed-bytes : Bytes (pack N (bit_at s))
    packed-bytes j = at (dec_lt j ((N + 7) / 8))
      where
        at : Dec (j < (N + 7) / 8) → get_or (pack N (bit_at s)) j 0 < 256
        at (yes l) = unfold pack in rw (get_or-tab ((N + 7) / 8) (λ (i : ℕ). byte_of (λ (j : ℕ). ltb (i * 8 + j) N && bit_at s (i * 8 + j))) j l) (byte_of-small _)
        at (no f) = rw (get_or-eq_default (pack N (bit_at s)) 0 {n = j} (omega (arith, packed-length))) (omega arith)
