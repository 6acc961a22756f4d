-- Laws of the orders of refusals, an answer each, as the code finds them.
use mathlib.Core.Path.{◌≡◌, ap, ◌∙◌}
use mathlib.Core.Bool.{Bool, true, false}
use mathlib.Core.List.{List, [], ◌∷◌}
use Prim.Native.Nat.{ℕ, ◌+◌, ◌-◌, ◌≤◌, ◌<◌}
use native.Mathlib.Omega.{arith}
use borrow.Author.Tests.{lt-leb, le-leb, eq-eqb, ne_eqb}
use lib.ListN.{length, get_or, take, drop, length-drop}
use lib.Seq.{take_all}
use Rattle.refusals.specs.Number.{SHORT, LONG, VERSION, KIND}
use Rattle.refusals.specs.Told.{Told, done, refused, fine, told, first}
use Rattle.refusals.proofs.Chain.{past, ends}
use Rattle.refusals.specs.declared.Refusal.{Refusal}
use Rattle.frames.specs.declared.read.Frame.{Frame}
use Rattle.std.specs.Prelude.{Result, Ok, Err}
use Rattle.kinds.specs.declared.Kind.{Kind}
use Rattle.kinds.specs.declared.Expected.{Expected}
use Rattle.kinds.specs.Kinds.{table, fits}
use Rattle.bodies.specs.Bodies.{spare_clear, content}
use Rattle.frames.specs.Reading.{count_of, header, first_of, second_of, rest_of, shape, read_means}

-- ---- the header; b is the kind's buffer

module _ (k : Kind) (s : List ℕ) (b : ℕ) (e : b ≡ (table k).buffer) where
  pub too_few : length s < 4 → refused SHORT b 0 ≡ header k s
  unfolding header
  too_few h = rw (e, lt-leb 4 (length s) h)

  pub too_short : 4 ≤ length s → length s < count_of s + 2 → refused SHORT b 0 ≡ header k s
  unfolding header
  too_short h l = rw (e, le-leb 4 (length s) h, lt-leb (count_of s + 2) (length s) l)

  pub too_long : 4 ≤ length s → count_of s + 2 < length s → refused LONG b 0 ≡ header k s
  unfolding header
  too_long h l =
      let m : count_of s + 2 ≤ length s = omega arith in
      rw (e, le-leb 4 (length s) h, le-leb (count_of s + 2) (length s) m, lt-leb (length s) (count_of s + 2) l)

  module _ (h : 4 ≤ length s) (l : length s ≡ count_of s + 2) where
    le : count_of s + 2 ≤ length s
    le = omega arith

    ge : length s ≤ count_of s + 2
    ge = omega arith

    pub other-version : (get_or s 2 0 ≡ (table k).version → ⊥) → refused VERSION b 2 ≡ header k s
    unfolding header
    other-version f = rw (e, le-leb 4 (length s) h, le-leb _ _ le, le-leb _ _ ge, ne_eqb (get_or s 2 0) (table k).version f)

    pub other-kind : get_or s 2 0 ≡ (table k).version → (get_or s 3 0 ≡ (table k).number → ⊥) → refused KIND b 3 ≡ header k s
    unfolding header
    other-kind v f =
        rw (e, le-leb 4 (length s) h, le-leb _ _ le, le-leb _ _ ge, eq-eqb (get_or s 2 0) (table k).version v, ne_eqb (get_or s 3 0) (table k).number f)

    pub headed : get_or s 2 0 ≡ (table k).version → get_or s 3 0 ≡ (table k).number → fine ≡ header k s
    unfolding header
    headed v f =
        rw (le-leb 4 (length s) h, le-leb _ _ le, le-leb _ _ ge, eq-eqb (get_or s 2 0) (table k).version v, eq-eqb (get_or s 3 0) (table k).number f)

-- ---- links of a chain that are frames: `r` is a reader's answer and `a` what it has to mean

pub frame_goes_on : {r : Result Frame Refusal} {a b c : Told} {f : Frame} → read_means r ≡ a → r ≡ Ok f → c ≡ b → c ≡ first a b
frame_goes_on = past (λ f. f.first ∷ f.second ∷ f.start ∷ [])

pub frame-stops : (b : Told) {r : Result Frame Refusal} {a : Told} {x : Refusal} → read_means r ≡ a → r ≡ Err x → told x ≡ first a b
frame-stops = ends (λ f. f.first ∷ f.second ∷ f.start ∷ [])

-- ---- SHAPE; a and b are the numbers

-- the rest as the code cuts it
abbrev pub from : ℕ → List ℕ → List ℕ
from start s = take (length s - start) (drop start s)

pub rest_part : (k : Kind) (s : List ℕ) (start : ℕ) → start ≡ (table k).start → from start s ≡ rest_of k s
rest_part k s start e = take_all (length s - start) (drop start s) (omega (arith, length-drop start s)) ∙ ap (λ (z : ℕ). drop z s) e

pub number_missing : (k : Kind) (e : Expected) (s : List ℕ) → length s < (table k).start → false ≡ shape k e s
unfolding shape
number_missing k e s h = rw (lt-leb (table k).start (length s) h)

module _ (k : Kind) (e : Expected) (s : List ℕ) (a b : ℕ) (p : a ≡ first_of s) (q : b ≡ second_of k s) (h : (table k).start ≤ length s) where
  pub numbers_differ : fits k e a b ≡ false → false ≡ shape k e s
  unfolding shape
  numbers_differ f = rw (le-leb (table k).start (length s) h, ← p, ← q, f)

  pub size_differs : fits k e a b ≡ true → (length s ≡ (table k).start + (table k).size a b → ⊥) → false ≡ shape k e s
  unfolding shape
  size_differs f d = rw (le-leb (table k).start (length s) h, ← p, ← q, f, ne_eqb (length s) ((table k).start + (table k).size a b) d)

  pub spare_decides : fits k e a b ≡ true → length s ≡ (table k).start + (table k).size a b → (c : Bool) → c ≡ spare_clear k a (rest_of k s) → c ≡ shape k e s
  unfolding shape
  spare_decides f d c g = rw (le-leb (table k).start (length s) h, ← p, ← q, f, eq-eqb (length s) ((table k).start + (table k).size a b) d) g

-- ---- what was read

module _ (k : Kind) (s : List ℕ) (a b start : ℕ) (p : a ≡ first_of s) (q : b ≡ second_of k s) (r : start ≡ (table k).start) where
  pub content-read : content k a b start (from start s) ≡ content k (first_of s) (second_of k s) (table k).start (rest_of k s)
  content-read = ap (content k a b start) (rest_part k s start r) ∙ rw (p, q, r)

  pub numbers-read : done (a ∷ b ∷ start ∷ []) ≡ done (first_of s ∷ second_of k s ∷ (table k).start ∷ [])
  numbers-read = rw (p, q, r)
