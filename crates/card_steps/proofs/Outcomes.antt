-- For each call: no second outcome fits what it promises, and a refused call changes nothing.
use Rattle.std.specs.Prelude.{Result, Err}
use mathlib.Core.Path.{◌≡◌, sym, ap, ap₂, ◌∙◌}
use mathlib.Core.List.{List, [], ◌∷◌}
use Prim.Native.Nat.{ℕ}
use native.Mathlib.Omega.{arith}
use lib.Dec.{eqb}
use Rattle.refusals.specs.declared.Refusal.{Refusal}
use Rattle.refusals.specs.Number.{STAGE, SELF}
use Rattle.refusals.specs.Buffer.{CHOICES}
use Rattle.refusals.specs.Told.{Told, done, first, means_count}
use Rattle.refusals.proofs.Chain.{count_fixes, ends_done, UpTo, done_most, demand-most, first-most, most-more}
use Rattle.writers.specs.Writing.{out_after}
use Rattle.card_rules.specs.declared.session.Session.{Session}
use Rattle.card_rules.specs.Keys.{Keys, places_of}
use Rattle.card_rules.specs.Asking.{commitments_size, answers_size, openings_size, begin_check, answer_check, open_check}
use Rattle.card_rules.proofs.Outcomes.{begin-most, answer-most, open_most}
use Rattle.card_steps.specs.declared.Step.{Step}
use Rattle.card_steps.specs.Steps.{unless_refused, begin_told, BeginStep, answer_told, AnswerStep, faulty_round, own_check, open_refusal, open_told, zeroed, OpenStep, GiveUpStep}

step : Result ℕ Refusal → Session → Step
step told next = record { told = told; next = next }

-- two steps that tell the same leave the same record and the same bytes
module _ (a b : Step) (e : means_count a.told ≡ means_count b.told) where
  same-told : a.told ≡ b.told
  same-told = count_fixes a.told b.told e

  same_step : (s next : Session) → a.next ≡ unless_refused a.told next s → b.next ≡ unless_refused b.told next s → a ≡ b
  unfolding step
  same_step s next p q = ap₂ step same-told (p ∙ ap (λ (w : Result ℕ Refusal). unless_refused w next s) same-told ∙ sym q)

  same-output : (l out x y : List ℕ) → x ≡ out_after a.told l out → y ≡ out_after b.told l out → x ≡ y
  same-output l out x y p q = p ∙ ap (λ (w : Result ℕ Refusal). out_after w l out) same-told ∙ sym q

-- a refusal leaves the record and the output
module _ (t : Result ℕ Refusal) (r : Refusal) (e : t ≡ Err r) where
  record-left : (next s : Session) → unless_refused t next s ≡ s
  record-left next s = ap (λ (w : Result ℕ Refusal). unless_refused w next s) e

  output-left : (l out : List ℕ) → out_after t l out ≡ out
  output-left l out = ap (λ (w : Result ℕ Refusal). out_after w l out) e

-- ---- begin

module _ (s : Session) (N : ℕ) (k : Keys) (choices out : List ℕ) where
  pub refused_begin : (r : Refusal) (a : Step) (x : List ℕ) → BeginStep s N k choices out a x → a.told ≡ Err r → (a.next ≡ s) × (x ≡ out)
  refused_begin r a x p e = (p.moves ∙ record-left a.told r e _ s, p.writes ∙ output-left a.told r e _ out)

  pub one_begin : (a b : Step) (x y : List ℕ) → BeginStep s N k choices out a x → BeginStep s N k choices out b y → (a ≡ b) × (x ≡ y)
  one_begin a b x y p q =
      let e = p.says ∙ sym q.says in
      (same_step a b e s _ p.moves q.moves, same-output a b e _ out x y p.writes q.writes)

-- ---- answer

module _ (s : Session) (k : Keys) (message choices out : List ℕ) where
  pub refused_answer : (r : Refusal) (a : Step) (x : List ℕ) → AnswerStep s k message choices out a x → a.told ≡ Err r → (a.next ≡ s) × (x ≡ out)
  refused_answer r a x p e = (p.moves ∙ record-left a.told r e _ s, p.writes ∙ output-left a.told r e _ out)

  pub one_answer : (a b : Step) (x y : List ℕ) → AnswerStep s k message choices out a x → AnswerStep s k message choices out b y → (a ≡ b) × (x ≡ y)
  one_answer a b x y p q =
      let e = p.says ∙ sym q.says in
      (same_step a b e s _ p.moves q.moves, same-output a b e _ out x y p.writes q.writes)

-- ---- open

module _ (s : Session) (k : Keys) (message choices out : List ℕ) where
  pub refused_open : (r : Refusal) (a : Step) (u x : List ℕ) → OpenStep s k message choices out a u x → a.told ≡ Err r → (a.next ≡ s) × (u ≡ choices) × (x ≡ out)
  refused_open r a u x p e =
      (p.moves ∙ record-left a.told r e _ s, p.clears ∙ ap (λ (w : Result ℕ Refusal). unless_refused w (zeroed choices) choices) e, p.writes ∙ output-left a.told r e _ out)

  pub one_open : (a b : Step) (u v x y : List ℕ) → OpenStep s k message choices out a u x → OpenStep s k message choices out b v y → (a ≡ b) × (u ≡ v) × (x ≡ y)
  one_open a b u v x y p q =
      let e = p.says ∙ sym q.says in (
        same_step a b e s _ p.moves q.moves,
        p.clears ∙ ap (λ (w : Result ℕ Refusal). unless_refused w (zeroed choices) choices) (same-told a b e) ∙ sym q.clears,
        same-output a b e _ out x y p.writes q.writes,
      )

-- ---- give up, which is never refused

pub one_give_up : (s : Session) (choices : List ℕ) (a b : Session) (u v : List ℕ) → GiveUpStep s choices a u → GiveUpStep s choices b v → (a ≡ b) × (u ≡ v)
one_give_up s choices a b u v p q = (p.moves ∙ sym q.moves, p.clears ∙ sym q.clears)

-- ---- what the calls tell: one value, the bytes written, or a refusal by the numbers up to SELF

-- a chain that refuses by the numbers up to STAGE, and then a success of one value
wrote_most : (check : Told) (bytes : ℕ) → UpTo STAGE check → UpTo SELF (first check (done (bytes ∷ [])))
wrote_most check bytes h = first-most SELF check (done (bytes ∷ [])) (most-more STAGE SELF check (omega arith) h) (done_most SELF (bytes ∷ []))

module _ (s : Session) (N : ℕ) (k : Keys) (choices : List ℕ) (room : ℕ) where
  pub begin-told-most : UpTo SELF (begin_told s N k choices room)
  unfolding begin_told
  begin-told-most = wrote_most (begin_check s N k choices room) (commitments_size N) (begin-most s N k choices room)

  pub begin-told-one : (values : List ℕ) → begin_told s N k choices room ≡ done values → values ≡ commitments_size N ∷ []
  unfolding begin_told
  begin-told-one values e = ends_done (begin_check s N k choices room) (commitments_size N ∷ []) values e

module _ (s : Session) (k : Keys) (message choices : List ℕ) (room : ℕ) where
  pub answer-told-most : UpTo SELF (answer_told s k message choices room)
  unfolding answer_told
  answer-told-most = wrote_most (answer_check s k message choices room) (answers_size (places_of k) s.rounds) (answer-most s k message choices room)

  pub answer-told-one : (values : List ℕ) → answer_told s k message choices room ≡ done values → values ≡ answers_size (places_of k) s.rounds ∷ []
  unfolding answer_told
  answer-told-one values e = ends_done (answer_check s k message choices room) (answers_size (places_of k) s.rounds ∷ []) values e

  pub open_told-most : UpTo SELF (open_told s k message choices room)
  unfolding open_told open_refusal own_check
  open_told-most =
      let check = open_check s k message choices room in
      let round = faulty_round s k message choices in
      let bytes = openings_size (places_of k) s.rounds in
      first-most SELF (first check (own_check s k message choices)) (done (bytes ∷ []))
      (first-most SELF check (own_check s k message choices) (most-more STAGE SELF check (omega arith) (open_most s k message choices room))
      (demand-most SELF (eqb round s.rounds) SELF CHOICES round (omega arith) (omega arith)))
      (done_most SELF (bytes ∷ []))

  pub open_told-one : (values : List ℕ) → open_told s k message choices room ≡ done values → values ≡ openings_size (places_of k) s.rounds ∷ []
  unfolding open_told
  open_told-one values e = ends_done (open_refusal s k message choices room) (openings_size (places_of k) s.rounds ∷ []) values e
