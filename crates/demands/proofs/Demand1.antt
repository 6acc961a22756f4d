-- Demand 1. "Every public call takes all inputs and ends. Bad input gets the refusal that document 01 numbers, in its order, with its place. A refused
-- call changes no byte of any lent buffer, nor the session record." No public call has a `requires`, and the prover takes no function that may
-- not end. What a call tells, and the order of its refusals, is the definition that its record of equations cites (docs/CALLS.md names them).
-- Here: for each call no second outcome fits that record, and a refused call leaves everything as it was.
use Rattle.std.specs.Prelude.{⊤, Result, Err}
use mathlib.Core.Path.{◌≡◌}
use mathlib.Core.List.{List}
use Prim.Native.Nat.{ℕ}
use Rattle.refusals.specs.declared.Refusal.{Refusal}
use Rattle.refusals.specs.Told.{Told, means}
use Rattle.random.specs.Drawings.{Drawing}
use Rattle.sha256.specs.Call.{Hashes}
use Rattle.sha256.proofs.Call.{one_outcome}
use Rattle.kinds.specs.declared.Kind.{Kind}
use Rattle.kinds.specs.Kinds.{alone}
use Rattle.frames.specs.Reading.{Reads, opening_check}
use Rattle.writers.specs.Writing.{Writes}
use Rattle.readers.proofs.Outcomes.{one_reading, one_opening_check}
use Rattle.writers.proofs.Outcomes.{one_writing, refused_writes_nothing}
use Rattle.draw_rules.specs.Telling.{Draws}
use Rattle.draw_rules.proofs.Outcomes.{one_drawing, refused_draws_nothing}
use Rattle.card_rules.specs.declared.session.Session.{Session}
use Rattle.card_rules.specs.Keys.{Keys, ChecksKey}
use Rattle.card_rules.proofs.Outcomes.{one_key_check}
use Rattle.card_steps.specs.declared.Step.{Step}
use Rattle.card_steps.specs.Steps.{BeginStep, AnswerStep, OpenStep, GiveUpStep}
use Rattle.card_steps.proofs.Outcomes.{one_begin, refused_begin, one_answer, refused_answer, one_open, refused_open, one_give_up}
use Rattle.register_rules.specs.Verdict.{SignOn, Judges}
use Rattle.register_rules.proofs.Outcomes.{one_verdict}
use Rattle.stand_in.specs.Standing.{StandsIn}
use Rattle.stand_in.proofs.Outcomes.{one_stand_in, refused_changes_nothing}

-- one answer alone; one answer and one output alone
abbrev Only : {A : Type 0} → (A → Type 0) → Type 0
Only {A} P = (a b : A) → P a → P b → a ≡ b

abbrev Both : {A : Type 0} → (A → List ℕ → Type 0) → Type 0
Both {A} P = (a b : A) (x y : List ℕ) → P a x → P b y → (a ≡ b) × (x ≡ y)

pub record Demand1 : Type 0 where
  pub hash : (message : List ℕ) → Only (Hashes message)
  pub readers : (kind : Kind) (frame : List ℕ) → Only (Reads kind alone frame)
  pub named_round : (openings : List ℕ) (round : ℕ) → Only (λ (answer : Result ⊤ Refusal). means answer ≡ opening_check openings round)
  pub writers : (kind : Kind) (a b : ℕ) (plain out : List ℕ) → Both (Writes kind a b plain out)
  pub drawings : (numbers : Told) (need : ℕ) (drawing : Drawing) (random out : List ℕ) → Both (Draws numbers need drawing random out)
  pub key_check : (k : Keys) → Only (ChecksKey k)
  pub begin : (s : Session) (N : ℕ) (k : Keys) (choices out : List ℕ) → Both (BeginStep s N k choices out)
  pub answer : (s : Session) (k : Keys) (message choices out : List ℕ) → Both (AnswerStep s k message choices out)
  pub open' : (s : Session) (k : Keys) (message choices out : List ℕ) (a b : Step) (u v x y : List ℕ)
      → OpenStep s k message choices out a u x → OpenStep s k message choices out b v y → (a ≡ b) × (u ≡ v) × (x ≡ y)
  pub give_up : (s : Session) (choices : List ℕ) → Both (GiveUpStep s choices)
  pub verdict : (grade : ℕ) (x : SignOn) → Only (Judges grade x)
  pub stand_in : (c bit : ℕ) (system key lent out : List ℕ) → Both (StandsIn c bit system key lent out)
  -- a refused call: the output, and for the card the record and the choices, as they were
  pub refused_writer : (kind : Kind) (a b : ℕ) (plain out : List ℕ) (r : Refusal) (after : List ℕ) → Writes kind a b plain out (Err r) after → after ≡ out
  pub refused_drawing : (numbers : Told) (need : ℕ) (drawing : Drawing) (random out : List ℕ) (r : Refusal) (after : List ℕ)
      → Draws numbers need drawing random out (Err r) after → after ≡ out
  pub refused_begin' : (s : Session) (N : ℕ) (k : Keys) (choices out : List ℕ) (r : Refusal) (step : Step) (after : List ℕ)
      → BeginStep s N k choices out step after → step.told ≡ Err r → (step.next ≡ s) × (after ≡ out)
  pub refused_answer' : (s : Session) (k : Keys) (message choices out : List ℕ) (r : Refusal) (step : Step) (after : List ℕ)
      → AnswerStep s k message choices out step after → step.told ≡ Err r → (step.next ≡ s) × (after ≡ out)
  pub refused_open' : (s : Session) (k : Keys) (message choices out : List ℕ) (r : Refusal) (step : Step) (left after : List ℕ)
      → OpenStep s k message choices out step left after → step.told ≡ Err r → (step.next ≡ s) × (left ≡ choices) × (after ≡ out)
  pub refused_stand_in : (c bit : ℕ) (system key lent out : List ℕ) (r : Refusal) (after : List ℕ) → StandsIn c bit system key lent out (Err r) after → after ≡ out

pub demand_1 : Demand1
demand_1 =
    record {
      hash = one_outcome;
      readers = λ kind frame. one_reading kind alone frame;
      named_round = one_opening_check;
      writers = one_writing;
      drawings = one_drawing;
      key_check = one_key_check;
      begin = one_begin;
      answer = one_answer;
      open' = one_open;
      give_up = one_give_up;
      verdict = one_verdict;
      stand_in = one_stand_in;
      refused_writer = refused_writes_nothing;
      refused_drawing = refused_draws_nothing;
      refused_begin' = refused_begin;
      refused_answer' = refused_answer;
      refused_open' = refused_open;
      refused_stand_in = refused_changes_nothing;
    }
