-- Whether the rounds suffice, by what a number is: a grade or none.
use mathlib.Core.Path.{◌≡◌, sym, ◌∙◌}
use mathlib.Core.Bool.{Bool, false}
use Prim.Native.Nat.{ℕ}
use native.Mathlib.Omega.{arith}
use lib.Dec.{leb}
use Rattle.std.specs.Prelude.{Result, Ok, Err, MatchResult}
use Rattle.register_rules.specs.Verdict.{least, enough}
use Rattle.register_rules.proofs.Orders.{inspector, keeper, no_grade}
use Rattle.register.specs.declared.grade.Grade.{Grade}
use Rattle.register.specs.declared.grade.Grade.TheVariants.{Inspector, Keeper}
use Rattle.register.specs.declared.grade.UnknownGrade.{UnknownGrade}
use Rattle.register.specs.Grades.{grade_number, Numbers}

-- the answer is the grade's where there is one, and false where there is none
pub grade_decides : (grade N : ℕ) (r : Result Grade UnknownGrade) (answer : Bool) {P : Grade → Type 0}
    → Numbers grade r → MatchResult r P (λ e. answer ≡ false) → ((g : Grade) → P g → answer ≡ leb (least (grade_number g)) N) → answer ≡ enough grade N
grade_decides grade N (Ok Inspector) answer n p f = f Inspector p ∙ inspector grade N (sym n)
grade_decides grade N (Ok Keeper) answer n p f = f Keeper p ∙ keeper grade N (λ e. absurd (omega arith)) (sym n)
grade_decides grade N (Err e) answer (n, none) p f = p ∙ no_grade grade N (λ q. none Inspector (sym q)) (λ q. none Keeper (sym q))
