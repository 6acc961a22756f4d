-- How the verdict program's input is cut (document 01, the verdict program).
use Rattle.std.specs.Prelude.{◌≡◌, List, ℕ, ◌+◌, ◌≤◌, length, get_or, take, drop}
use Rattle.refusals.specs.Told.{Told}
use Rattle.frames.specs.Reading.{count_of}
use Rattle.register_rules.specs.Verdict.{SignOn, sign_on, judging}

-- the frame in front, by its count, and what is behind it; where bytes are missing it is all that is left
unfoldable pub front : List ℕ → List ℕ
front s = take (count_of s + 2) s

unfoldable pub behind : List ℕ → List ℕ
behind s = drop (count_of s + 2) s

-- the place where the frame in front ends
pub record Ends (s : List ℕ) (at : ℕ) : Type 0 where
  pub most : at ≤ length s
  pub before : take at s ≡ front s
  pub after : drop at s ≡ behind s

-- the frames end to end; bytes left over belong to the last
unfoldable pub sign_on_of : List ℕ → SignOn
sign_on_of system =
    let key = behind system in
    let commitments = behind key in
    let challenges = behind commitments in
    let answers = behind challenges in
    let bits = behind answers in
    let openings = behind bits in
    sign_on (front system) (front key) (front commitments) (front challenges) (front answers) (front bits) openings

-- a grade byte, and then the frames; an input without a byte has grade 0 and no frame
unfoldable pub judging_input : List ℕ → Told
judging_input input = judging (get_or input 0 0) (sign_on_of (drop 1 input))
