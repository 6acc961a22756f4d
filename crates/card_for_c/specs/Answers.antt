-- What a C function answers, from what a call tells (document 01, "Refusal numbers").
use Rattle.std.specs.Prelude.{◌≡◌, cond, List, [], ◌∷◌, ℕ, ◌+◌, ◌*◌, ◌≤◌, eqb}
use Rattle.refusals.specs.Told.{Told, done, refused}
use Rattle.card_for_c.specs.declared.Answer.{Answer}

-- the values of a success as one number: 0 where there is none; of a reader, the first number plus 256 times the second
abbrev pub value_of : List ℕ → ℕ
value_of [] = 0
value_of (value ∷ []) = value
value_of (first ∷ second ∷ start) = first + 256 * second

-- a success has number 0, and its value as its place
abbrev pub answer_of : Told → Answer
answer_of (done values) = record { number = 0; buffer = 0; place = value_of values }
answer_of (refused number buffer place) = record { number = number; buffer = buffer; place = place }

-- what comes, where the answer is a success; what was, where it is a refusal
abbrev pub if_done : {A : Type 0} → Answer → A → A → A
if_done answer next was = cond (eqb answer.number 0) next was

-- what an answer holds whole: a success whose values follow from their number, and a refusal whose number is not 0
pub record Held (values : ℕ → List ℕ) (t : Told) : Type 0 where
  pub success : (told : List ℕ) → t ≡ done told → values (value_of told) ≡ told
  pub refusal : (number buffer place : ℕ) → t ≡ refused number buffer place → 1 ≤ number
