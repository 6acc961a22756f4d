-- The hash value after one block more: FIPS 180-4, §6.2.2, steps 1 to 4, by its names. A block is 64 bytes.
use Rattle.std.specs.Prelude.{Bool, true, false, List, [], ◌∷◌, ◌++◌, ℕ, zero, suc, ◌-◌, ◌*◌, ltb, get_or}
use Rattle.compression.specs.declared.Words.{Words}
use Rattle.word32.specs.Operations.{word_at, ◌⊞◌, Ch, Maj, Σ0, Σ1, σ0, σ1}
use Rattle.compression.specs.Constants.{K}

-- §6.2.2, 1: the message schedule. A word from the 16th on, of those 2, 7, 15 and 16 before it; word t of a block's schedule, where `before` has the
-- words before it; the first t words
unfoldable pub expand_of : ℕ → ℕ → ℕ → ℕ → ℕ
expand_of w2 w7 w15 w16 = σ1 w2 ⊞ w7 ⊞ σ0 w15 ⊞ w16

abbrev pub either : {A : Type 0} → Bool → A → A → A
either true x y = x
either false x y = y

unfoldable pub word_of : List ℕ → ℕ → List ℕ → ℕ
word_of block t before =
    either (ltb t 16)
    (word_at block (4 * t))
    (expand_of (get_or before (t - 2) 0) (get_or before (t - 7) 0) (get_or before (t - 15) 0) (get_or before (t - 16) 0))

unfoldable pub W : List ℕ → ℕ → List ℕ
W block zero = []
W block (suc t) = W block t ++ (word_of block t (W block t) ∷ [])

-- §6.2.2, 3: one turn, of the working variables s at a constant k and a word w of the schedule; the first t turns
unfoldable pub T1 : Words → ℕ → ℕ → ℕ
T1 s k w = s.h ⊞ Σ1 s.e ⊞ Ch s.e s.f s.g ⊞ k ⊞ w

unfoldable pub T2 : Words → ℕ
T2 s = Σ0 s.a ⊞ Maj s.a s.b s.c

unfoldable pub turn_of : Words → ℕ → ℕ → Words
turn_of s k w =
    record {
      h = s.g;
      g = s.f;
      f = s.e;
      e = s.d ⊞ T1 s k w;
      d = s.c;
      c = s.b;
      b = s.a;
      a = T1 s k w ⊞ T2 s;
    }

unfoldable pub turns_of : List ℕ → ℕ → Words → Words
turns_of ws zero s = s
turns_of ws (suc t) s = turn_of (turns_of ws t s) (get_or K t 0) (get_or ws t 0)

-- §6.2.2, 4: the sum, word by word; then steps 1 to 4: the hash value that follows v, after one block more
unfoldable pub sum_of : Words → Words → Words
sum_of s v =
    record {
      a = s.a ⊞ v.a;
      b = s.b ⊞ v.b;
      c = s.c ⊞ v.c;
      d = s.d ⊞ v.d;
      e = s.e ⊞ v.e;
      f = s.f ⊞ v.f;
      g = s.g ⊞ v.g;
      h = s.h ⊞ v.h;
    }

unfoldable pub compress_of : Words → List ℕ → Words
compress_of v block = sum_of (turns_of (W block 64) 64 v) v
