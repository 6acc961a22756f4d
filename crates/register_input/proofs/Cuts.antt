-- Laws of the frame in front of an input, as the code cuts it.
use mathlib.Core.Path.{◌≡◌, sym, ap, subst, ◌∙◌}
use mathlib.Core.List.{List}
use Prim.Native.Nat.{ℕ, ◌+◌, ◌≤◌, ◌<◌, min}
use native.Mathlib.Nat.{le_refl}
use native.Mathlib.Decide.{dec_lt}
use native.Mathlib.Omega.{arith}
use lib.ListN.{length, take, drop, drop_of_length-le}
use lib.Seq.{take_all}
use Rattle.frames.specs.Reading.{count_of}
use Rattle.register_input.specs.Cutting.{front, behind, Ends}

pub all_in_front : (s : List ℕ) → length s ≤ count_of s + 2 → Ends s (length s)
unfolding front behind
all_in_front s h =
    record {
      most = le_refl (length s);
      before = take_all (length s) s (le_refl (length s)) ∙ sym (take_all (count_of s + 2) s h);
      after = drop_of_length-le s (le_refl (length s)) ∙ sym (drop_of_length-le s h);
    }

pub counted : (s : List ℕ) (at : ℕ) → at ≡ count_of s + 2 → at ≤ length s → Ends s at
unfolding front behind
counted s at e h = record { most = h; before = ap (λ (k : ℕ). take k s) e; after = ap (λ (k : ℕ). drop k s) e }

-- the count, but no more than is there
pub counted_of_all : (s : List ℕ) (at : ℕ) → at ≡ min (length s) (count_of s + 2) → Ends s at
counted_of_all s at e = by (dec_lt (length s) (count_of s + 2))
  where
    by : Dec (length s < count_of s + 2) → Ends s at
    by (yes l) = let q : length s ≡ at = omega (arith, e) in subst (Ends s) q (all_in_front s (omega arith))
    by (no l) = counted s at (omega (arith, e)) (omega (arith, e))
