-- An answer loses nothing of what a call tells, and its number alone says whether the call was refused.
use mathlib.Core.Path.{◌≡◌, refl, sym, ap, ◌∙◌}
use mathlib.Core.Bool.{cond}
use mathlib.Core.List.{List}
use Prim.Native.Nat.{ℕ}
use native.Mathlib.Omega.{arith}
use borrow.Author.Tests.{ne_eqb}
use lib.Dec.{eqb}
use Rattle.refusals.specs.Number.{reason_number}
use Rattle.refusals.specs.Buffer.{buffer_number}
use Rattle.refusals.specs.Told.{Told, done, refused, told}
use Rattle.refusals.specs.declared.Refusal.{Refusal}
use Rattle.card_for_c.specs.declared.Answer.{Answer}
use Rattle.card_for_c.specs.Answers.{answer_of, if_done, Held}

-- ---- what is told, from its answer: the way back, by the values that a success with this number has

told_by : (ℕ → List ℕ) → Answer → Told
told_by values a = cond (eqb a.number 0) (done (values a.place)) (refused a.number a.buffer a.place)

told_again : (values : ℕ → List ℕ) (t : Told) → Held values t → told_by values (answer_of t) ≡ t
unfolding told_by
told_again values (done v) h = ap done (h.success v refl)
told_again values (refused number buffer place) h =
    let l = h.refusal number buffer place refl in
    rw (ne_eqb number 0 (λ e. absurd (omega arith)))

-- two calls that answer the same have told the same
pub answer_fixes : (values : ℕ → List ℕ) (t u : Told) → Held values t → Held values u → answer_of t ≡ answer_of u → t ≡ u
answer_fixes values t u h i e = sym (told_again values t h) ∙ ap (told_by values) e ∙ told_again values u i

-- number 0 is a success, and the place its value
pub zero_is_done : (values : ℕ → List ℕ) (t : Told) → Held values t → (answer_of t).number ≡ 0 → t ≡ done (values (answer_of t).place)
zero_is_done values (done v) h e = ap done (sym (h.success v refl))
zero_is_done values (refused number buffer place) h e =
    let l = h.refusal number buffer place refl in
    let z : number ≡ 0 = e in
    absurd (omega arith)

-- ---- what a call leaves, by the number of its answer

-- a refused call leaves what was
pub refused_leaves : {A : Type 0} (answer : Answer) → (answer.number ≡ 0 → ⊥) → (next was : A) → if_done answer next was ≡ was
refused_leaves answer f next was = rw (ne_eqb answer.number 0 f)

pub refused_left : {A : Type 0} (values : ℕ → List ℕ) (r : Refusal) → Held values (told r) → (next was : A) → was ≡ if_done (answer_of (told r)) next was
refused_left values r h next was =
    let l = h.refusal (reason_number r.reason) (buffer_number r.buffer) r.place refl in
    sym (refused_leaves (answer_of (told r)) (λ e. let z : reason_number r.reason ≡ 0 = e in absurd (omega arith)) next was)
