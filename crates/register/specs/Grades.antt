-- The grades by document 01's numbers.
use Rattle.std.specs.Prelude.{◌≡◌, ◌≢◌, ℕ, Result, MatchResult}
use Rattle.register.specs.declared.grade.Grade.{Grade}
use Rattle.register.specs.declared.grade.Grade.TheVariants.{Inspector, Keeper}
use Rattle.register.specs.declared.grade.UnknownGrade.{UnknownGrade}

-- the number of a grade
abbrev pub grade_number : Grade → ℕ
grade_number Inspector = 1
grade_number Keeper = 2

-- the result is the grade of this number, or an error with a number that is no grade's
abbrev pub Numbers : ℕ → Result Grade UnknownGrade → Type 0
Numbers number r = MatchResult r (λ g. grade_number g ≡ number) (λ e. (e.0 ≡ number) × ((g : Grade) → grade_number g ≢ number))
