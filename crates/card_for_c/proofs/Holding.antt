-- What an answer holds whole; and the card tells nothing that its answer does not hold.
use mathlib.Core.Path.{◌≡◌, sym}
use mathlib.Core.List.{List, [], ◌∷◌}
use Prim.Native.Nat.{ℕ}
use Rattle.refusals.specs.Number.{SELF}
use Rattle.refusals.specs.Told.{Told, done, fine}
use Rattle.refusals.proofs.Chain.{UpTo, done_most}
use Rattle.card_rules.specs.declared.session.Session.{Session}
use Rattle.card_rules.specs.Keys.{Keys}
use Rattle.card_steps.specs.Steps.{begin_told, answer_told, open_told}
use Rattle.card_steps.proofs.Outcomes.{begin-told-most, begin-told-one, answer-told-most, answer-told-one, open_told-most, open_told-one}
use Rattle.card_for_c.specs.Answers.{Held}

-- ---- the values of a success, by their number

abbrev pub none : ℕ → List ℕ
none place = []

abbrev pub one : ℕ → List ℕ
one place = place ∷ []

pub held_one : (most : ℕ) (t : Told) → UpTo most t → ((values : List ℕ) → t ≡ done values → (value : ℕ) × (values ≡ value ∷ [])) → Held one t
held_one most t h f =
    record {
      success = λ v e. let p = f v e in rw p.1;
      refusal = λ x y z e. (h x y z e).0;
    }

pub held_none : (most : ℕ) (t : Told) → UpTo most t → ((values : List ℕ) → t ≡ done values → values ≡ []) → Held none t
held_none most t h f =
    record {
      success = λ v e. sym (f v e);
      refusal = λ x y z e. (h x y z e).0;
    }

-- ---- the card

module _ (s : Session) (N : ℕ) (k : Keys) (choices : List ℕ) (room : ℕ) where
  pub begin_held : Held one (begin_told s N k choices room)
  begin_held = held_one SELF (begin_told s N k choices room) (begin-told-most s N k choices room) (λ v e. (_, begin-told-one s N k choices room v e))

module _ (s : Session) (k : Keys) (message choices : List ℕ) (room : ℕ) where
  pub answer_held : Held one (answer_told s k message choices room)
  answer_held = held_one SELF (answer_told s k message choices room) (answer-told-most s k message choices room) (λ v e. (_, answer-told-one s k message choices room v e))

  pub open_held : Held one (open_told s k message choices room)
  open_held = held_one SELF (open_told s k message choices room) (open_told-most s k message choices room) (λ v e. (_, open_told-one s k message choices room v e))

pub give_up_held : Held none fine
give_up_held = held_none SELF fine (done_most SELF []) (λ v e. cc)
