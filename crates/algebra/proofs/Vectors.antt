-- Laws of vectors: R + c·V and W - c·V, entry by entry, under a permutation, and one undoing the other.
use mathlib.Core.Path.{◌≡◌, refl, sym, ap, ◌∙◌}
use mathlib.Core.List.{List, [], ◌∷◌, ◌++◌, zip_with}
use Prim.Native.Nat.{ℕ, zero, suc, ◌+◌, ◌-◌, ◌*◌, ◌%◌, ◌<◌, ◌≤◌}
use native.Mathlib.Nat.{not-suc-le-zero, le_of_suc-le-suc, mod-mod, mod-lt, mod-eq_of_lt, mod_self, zero-mod, zero-mul, add-mul}
use native.Mathlib.Decide.{dec_lt}
use native.Mathlib.Omega.{arith}
use lib.ListN.{length, get_or, length-append, get_or-append}
use lib.Seq.{drop_at, get_or-drop}
use Rattle.algebra.specs.Lists.{tab, joined}
use Rattle.algebra.specs.Residues.{Residues, negative, plus_times, add_scaled, sub_scaled}
use Rattle.algebra.specs.Permutations.{IsPerm, permute}
use Rattle.algebra.proofs.Lists.{same-list, tab_of}
use Rattle.algebra.proofs.Sums.{cong_add, cong_mul}
use Rattle.algebra.proofs.Permutations.{below, length-permute, get_or-permute}

-- ---- entry by entry

length-zip_with : (f : ℕ → ℕ → ℕ) (xs ys : List ℕ) → length xs ≡ length ys → length (zip_with f xs ys) ≡ length xs
unfolding zip_with
length-zip_with f [] ys e = refl
length-zip_with f (x ∷ xs) [] e = absurd (omega arith)
length-zip_with f (x ∷ xs) (y ∷ ys) e = ap suc (length-zip_with f xs ys (omega arith))

get_or-zip_with : (f : ℕ → ℕ → ℕ) (xs ys : List ℕ) → length xs ≡ length ys → (j : ℕ) → j < length xs
    → get_or (zip_with f xs ys) j 0 ≡ f (get_or xs j 0) (get_or ys j 0)
unfolding zip_with
get_or-zip_with f [] ys e j h = absurd (not-suc-le-zero h)
get_or-zip_with f (x ∷ xs) [] e j h = absurd (omega arith)
get_or-zip_with f (x ∷ xs) (y ∷ ys) e zero h = refl
get_or-zip_with f (x ∷ xs) (y ∷ ys) e (suc j) h = get_or-zip_with f xs ys (omega arith) j (le_of_suc-le-suc h)

module _ (p : ℕ) (r : List ℕ) (c : ℕ) (v : List ℕ) (e : length r ≡ length v) where
  pub length-add_scaled : length (add_scaled p r c v) ≡ length r
  unfolding add_scaled
  length-add_scaled = length-zip_with (plus_times p c) r v e

  pub get_or-add_scaled : (j : ℕ) → j < length r → get_or (add_scaled p r c v) j 0 ≡ plus_times p c (get_or r j 0) (get_or v j 0)
  unfolding add_scaled
  get_or-add_scaled j l = get_or-zip_with (plus_times p c) r v e j l

  -- as a table, which a loop writes
  pub tab-add_scaled : tab (length r) (λ (j : ℕ). plus_times p c (get_or r j 0) (get_or v j 0)) ≡ add_scaled p r c v
  tab-add_scaled = tab_of (length r) (add_scaled p r c v) _ length-add_scaled get_or-add_scaled

  pub residues-add_scaled : 0 < p → Residues p (add_scaled p r c v)
  residues-add_scaled pos j l = let k : j < length r = rw length-add_scaled at l in rw (get_or-add_scaled j k) (mod-lt _ pos)

-- the same of W - c·V, which is a sum too
module _ (p : ℕ) (w : List ℕ) (c : ℕ) (v : List ℕ) (e : length w ≡ length v) where
  pub length-sub_scaled : length (sub_scaled p w c v) ≡ length w
  unfolding sub_scaled
  length-sub_scaled = length-add_scaled p w (negative p c) v e

  pub residues-sub_scaled : 0 < p → Residues p (sub_scaled p w c v)
  unfolding sub_scaled
  residues-sub_scaled = residues-add_scaled p w (negative p c) v e

pub residues-permute : (p n : ℕ) (v θ : List ℕ) → length v ≡ n → IsPerm n θ → Residues p v → Residues p (permute v θ)
residues-permute p n v θ e h r j l =
    let k : j < length θ = rw (length-permute v θ) at l in
    rw (get_or-permute v θ j k) (r (get_or θ j 0) (rw e (below n θ h j (rw h.len at k))))

-- (R + c·V)_σ = R_σ + c·V_σ
pub permute-add_scaled : (p n c : ℕ) (r v σ : List ℕ) → length r ≡ n → length v ≡ n → IsPerm n σ
    → permute (add_scaled p r c v) σ ≡ add_scaled p (permute r σ) c (permute v σ)
permute-add_scaled p n c r v σ hr hv h =
    let er : length (permute r σ) ≡ n = length-permute r σ ∙ h.len in
    let ev : length (permute v σ) ≡ n = length-permute v σ ∙ h.len in
    same-list n _ _ (length-permute (add_scaled p r c v) σ ∙ h.len) (length-add_scaled p (permute r σ) c (permute v σ) (er ∙ sym ev) ∙ er)
    (λ j l.
    let k : j < length σ = rw h.len l in
    get_or-permute (add_scaled p r c v) σ j k ∙ get_or-add_scaled p r c v (hr ∙ sym hv) (get_or σ j 0) (rw hr (below n σ h j l))
    ∙ sym (get_or-add_scaled p (permute r σ) c (permute v σ) (er ∙ sym ev) j (rw er l) ∙ (rw (get_or-permute r σ j k, get_or-permute v σ j k))))

-- R + c·0 = R
pub add-zeros : (p c : ℕ) (r v : List ℕ) → length r ≡ length v → Residues p r → ((j : ℕ) → j < length v → get_or v j 0 ≡ 0)
    → add_scaled p r c v ≡ r
add-zeros p c r v e hr hv =
    same-list (length r) _ r (length-add_scaled p r c v e) refl
    (λ j l.
    get_or-add_scaled p r c v e j l
    ∙ ap (λ (z : ℕ). (get_or r j 0 + c * z) % p) (hv j (rw e at l))
    ∙ ap (λ (z : ℕ). z % p) (omega arith) ∙ mod-eq_of_lt (hr j l))

-- ---- W - c·V undoes R + c·V, and R + c·V undoes W - c·V

pub negative_residue : (p x : ℕ) → 0 < p → negative p x < p
unfolding negative
negative_residue p x pos = mod-lt (p - x) pos

pub plus_negative : (p x : ℕ) → x ≤ p → (x + negative p x) % p ≡ 0
unfolding negative
plus_negative p x l =
    cong_add p x x ((p - x) % p) (p - x) refl (mod-mod (p - x) p) ∙ ap (λ (z : ℕ). z % p) whole ∙ mod_self p
  where
    whole : x + (p - x) ≡ p
    whole = omega arith

-- d undoes c where c + d is 0
undoes : (p c d x y : ℕ) → (c + d) % p ≡ 0 → x < p → plus_times p d (plus_times p c x y) y ≡ x
undoes p c d x y e l =
    cong_add p ((x + c * y) % p) (x + c * y) (d * y) (d * y) (mod-mod (x + c * y) p) refl
    ∙ ap (λ (z : ℕ). z % p) (let q = add-mul c d y in omega arith)
    ∙ cong_add p x x ((c + d) * y) 0 refl (cong_mul p (c + d) 0 y y (e ∙ sym (zero-mod p)) refl ∙ ap (λ (z : ℕ). z % p) (zero-mul y))
    ∙ ap (λ (z : ℕ). z % p) (omega arith) ∙ mod-eq_of_lt l

undo : (p c d : ℕ) (x y : List ℕ) → (c + d) % p ≡ 0 → length x ≡ length y → Residues p x → add_scaled p (add_scaled p x c y) d y ≡ x
undo p c d x y z e r =
    let f : length (add_scaled p x c y) ≡ length x = length-add_scaled p x c y e in
    same-list (length x) _ x (length-add_scaled p (add_scaled p x c y) d y (f ∙ e) ∙ f) refl
    (λ j l.
    get_or-add_scaled p (add_scaled p x c y) d y (f ∙ e) j (rw f l)
    ∙ ap (λ (t : ℕ). plus_times p d t (get_or y j 0)) (get_or-add_scaled p x c y e j l)
    ∙ undoes p c d (get_or x j 0) (get_or y j 0) z (r j l))

module _ (p c : ℕ) (x v : List ℕ) (small : c ≤ p) (e : length x ≡ length v) (r : Residues p x) where
  pub sub-add : sub_scaled p (add_scaled p x c v) c v ≡ x
  unfolding sub_scaled
  sub-add = undo p c (negative p c) x v (plus_negative p c small) e r

  pub add-sub : add_scaled p (sub_scaled p x c v) c v ≡ x
  unfolding sub_scaled
  add-sub = undo p (negative p c) c x v (turn (negative p c) ∙ plus_negative p c small) e r
    where
      turn : (n : ℕ) → (n + c) % p ≡ (c + n) % p
      turn n = ap (λ (z : ℕ). z % p) (omega arith)

-- ---- vectors one after the other

pub residues-joined : (p n : ℕ) (f : ℕ → List ℕ) → ((k : ℕ) → k < n → Residues p (f k)) → Residues p (joined n f)
unfolding joined
residues-joined p zero f h j l = absurd (not-suc-le-zero l)
residues-joined p (suc n) f h j l = step (dec_lt j (length (joined n f))) (residues-joined p n f (λ k m. h k (omega arith)))
  where
    step : Dec (j < length (joined n f)) → Residues p (joined n f) → get_or (joined n f ++ f n) j 0 < p
    step (yes m) ih = rw (get_or-append (joined n f) (f n) 0 j m) (ih j m)
    step (no m) ih =
        let a = length (joined n f) in
        let e : a + (j - a) ≡ j = omega arith in
        let q : get_or (joined n f ++ f n) j 0 ≡ get_or (f n) (j - a) 0 =
        ap (λ (z : ℕ). get_or (joined n f ++ f n) z 0) (sym e) ∙ sym (get_or-drop a (joined n f ++ f n) (j - a) 0) ∙ ap (λ (z : List ℕ). get_or z (j - a) 0) (drop_at (joined n f) (f n) a refl) in
        rw q (h n (omega arith) (j - a) (omega (arith, length-append (joined n f) (f n))))
