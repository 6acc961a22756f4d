-- Laws of the schedule and of the turns, as the loops go through them.
use mathlib.Core.List.{List, [], ◌∷◌, ◌++◌}
use mathlib.Core.Path.{◌≡◌, ap₂, ◌∙◌}
use Prim.Native.Nat.{ℕ, ◌+◌, ◌-◌, ◌*◌, ◌≤◌, ◌<◌}
use native.Mathlib.Numerals.{add-one}
use native.Mathlib.Omega.{arith}
use borrow.Author.Tests.{lt-ltb, le-ltb}
use lib.ListN.{length, get_or, take, set}
use lib.Seq.{take-suc-set, get_or-take}
use Rattle.compression.specs.Constants.{K}
use Rattle.compression.specs.Block.{W, word_of, expand_of, turns_of, turn_of}
use Rattle.word32.specs.Operations.{word_at}
use Rattle.compression.specs.declared.Words.{Words}

-- one word more of the schedule is stored
pub W-more : (block w : List ℕ) (t v : ℕ) → t < length w → take t w ≡ W block t → v ≡ word_of block t (W block t) → take (t + 1) (set w t v) ≡ W block (t + 1)
unfolding W
W-more block w t v h e q = rw add-one (take-suc-set w t v h ∙ ap₂ (λ (x : List ℕ) (y : ℕ). x ++ (y ∷ [])) e q)

pub word_low : (block before : List ℕ) (t : ℕ) → t < 16 → word_of block t before ≡ word_at block (4 * t)
unfolding word_of
word_low block before t h = rw (lt-ltb t 16 h)

pub word_high : (block w : List ℕ) (t : ℕ) → 16 ≤ t
    → word_of block t (take t w) ≡ expand_of (get_or w (t - 2) 0) (get_or w (t - 7) 0) (get_or w (t - 15) 0) (get_or w (t - 16) 0)
unfolding word_of
word_high block w t h =
    rw (le-ltb t 16 h)
    (rw (get_or-take t w (t - 2) 0 (omega arith), get_or-take t w (t - 7) 0 (omega arith), get_or-take t w (t - 15) 0 (omega arith), get_or-take t w (t - 16) 0 (omega arith)))

-- one turn more
pub turns_more : (ws : List ℕ) (t : ℕ) (s : Words) → turns_of ws (t + 1) s ≡ turn_of (turns_of ws t s) (get_or K t 0) (get_or ws t 0)
unfolding turns_of
turns_more ws t s = rw add-one
