-- The number that a text says in decimal digits.
use Rattle.std.specs.Prelude.{cond, List, [], ◌∷◌, ℕ, ◌+◌, ◌-◌, ◌*◌, ltb, length, Option, Some, None}

-- the most that a number is
abbrev pub number_most : ℕ
number_most = 65535

-- what a byte says as a digit, 48 to 57
unfoldable pub digit_of : ℕ → Option ℕ
digit_of x = cond (ltb x 48) None (cond (ltb 57 x) None (Some (x - 48)))

-- what digits say that follow those of a value: a byte that is no digit, 48 to 57, says nothing, nor does a number above the most
unfoldable pub number_from : ℕ → List ℕ → Option ℕ
number_from value [] = Some value
number_from value (x ∷ rest) =
    cond (ltb x 48) None (cond (ltb 57 x) None (cond (ltb number_most (value * 10 + (x - 48))) None (number_from (value * 10 + (x - 48)) rest)))

-- an empty text says nothing
unfoldable pub number_in : List ℕ → Option ℕ
number_in text = cond (ltb 0 (length text)) (number_from 0 text) None
