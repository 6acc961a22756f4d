-- What a step that is not refused has found, written and kept.
use Rattle.refusals.specs.declared.Refusal.{Refusal}
use Rattle.std.specs.Prelude.{Result, Ok}
use mathlib.Core.Path.{◌≡◌, sym, ap, ◌∙◌}
use mathlib.Core.List.{List, [], ◌∷◌}
use Prim.Native.Nat.{ℕ}
use lib.ListN.{length}
use Rattle.refusals.specs.Told.{done, means_count}
use Rattle.refusals.proofs.Chain.{first_done}
use Rattle.algebra.specs.Lists.{over}
use Rattle.kinds.specs.declared.Kind.TheVariants.{Commitments, Challenges, Answers, Openings}
use Rattle.frames.specs.Reading.{rest_of}
use Rattle.writers.specs.Writing.{frame, out_after}
use Rattle.card_rules.specs.declared.session.Session.{Session}
use Rattle.card_rules.specs.Keys.{Keys, places_of}
use Rattle.card_rules.specs.Asking.{commitments_size, answers_size, openings_size, begin_check, answer_check}
use Rattle.card_rules.proofs.Facts.{BeginFits, begin-told, AnswerFits, answer-told, OpenFits}
use Rattle.card_steps.specs.declared.Step.{Step}
use Rattle.card_steps.specs.Steps.{unless_refused, begin_told, begun, commitments_of, BeginStep, answer_told, answered, answers_of, AnswerStep, open_refusal, open_told, closed, openings_of, zeroed, OpenStep}
use Rattle.card_steps.proofs.Opening.{refusal-told}
use Rattle.card_steps.proofs.ReadBack.{ReadBack, commitments-read, answers-read, openings-read}

-- ---- begin

pub record BeginWrote (s : Session) (N : ℕ) (k : Keys) (choices out : List ℕ) (next : Session) (after : List ℕ) (bytes : ℕ) : Type 0 where
  pub found : BeginFits s N k choices (length out)
  pub size : bytes ≡ commitments_size N
  pub kept : next ≡ begun N k
  pub rounds : next.rounds ≡ N
  pub output : after ≡ over (frame Commitments N 0 (commitments_of N k choices)) out
  pub reads : ReadBack Commitments N 0 (commitments_of N k choices)

module _ (s : Session) (N : ℕ) (k : Keys) (choices out : List ℕ) (step : Step) (after : List ℕ) (bytes : ℕ) where
  pub begin_wrote : BeginStep s N k choices out step after → step.told ≡ Ok bytes → BeginWrote s N k choices out step.next after bytes
  unfolding begin_told begun
  begin_wrote p e =
      let t = first_done (begin_check s N k choices (length out)) (done (commitments_size N ∷ [])) (bytes ∷ []) (sym p.says ∙ ap means_count e) in
      let f = begin-told s N k choices (length out) t.0.0 t.0.1 in
      record {
        found = f;
        size = cc;
        kept = p.moves ∙ ap (λ (w : Result ℕ Refusal). unless_refused w (begun N k) s) e;
        rounds = ap (λ (z : Session). z.rounds) (p.moves ∙ ap (λ (w : Result ℕ Refusal). unless_refused w (begun N k) s) e);
        output = p.writes ∙ ap (λ (w : Result ℕ Refusal). out_after w (frame Commitments N 0 (commitments_of N k choices)) out) e;
        reads = commitments-read k N choices f.lent;
      }

-- ---- answer

pub record AnswerWrote (s : Session) (k : Keys) (message choices out : List ℕ) (next : Session) (after : List ℕ) (bytes : ℕ) : Type 0 where
  pub found : AnswerFits s k message choices (length out)
  pub size : bytes ≡ answers_size (places_of k) s.rounds
  pub kept : next ≡ answered s (rest_of Challenges message)
  pub rounds : next.rounds ≡ s.rounds
  pub output : after ≡ over (frame Answers (places_of k) s.rounds (answers_of s.rounds k message choices)) out
  pub reads : ReadBack Answers (places_of k) s.rounds (answers_of s.rounds k message choices)

-- ---- open

pub record OpenWrote (s : Session) (k : Keys) (message choices out : List ℕ) (next : Session) (left after : List ℕ) (bytes : ℕ) : Type 0 where
  pub found : OpenFits s k message choices (length out)
  pub size : bytes ≡ openings_size (places_of k) s.rounds
  pub kept : next ≡ closed s
  pub cleared : left ≡ zeroed choices
  pub output : after ≡ over (frame Openings (places_of k) s.rounds (openings_of s.rounds k message choices)) out
  pub reads : ReadBack Openings (places_of k) s.rounds (openings_of s.rounds k message choices)

module _ (s : Session) (k : Keys) (message choices out : List ℕ) (step : Step) (after : List ℕ) (bytes : ℕ) (e : step.told ≡ Ok bytes) where
  pub answer_wrote : AnswerStep s k message choices out step after → AnswerWrote s k message choices out step.next after bytes
  unfolding answer_told answered
  answer_wrote p =
      let n = places_of k in
      let N = s.rounds in
      let t = first_done (answer_check s k message choices (length out)) (done (answers_size n N ∷ [])) (bytes ∷ []) (sym p.says ∙ ap means_count e) in
      let f = answer-told s k message choices (length out) t.0.0 t.0.1 in
      record {
        found = f;
        size = cc;
        kept = p.moves ∙ ap (λ (w : Result ℕ Refusal). unless_refused w (answered s (rest_of Challenges message)) s) e;
        rounds = ap (λ (z : Session). z.rounds) (p.moves ∙ ap (λ (w : Result ℕ Refusal). unless_refused w (answered s (rest_of Challenges message)) s) e);
        output = p.writes ∙ ap (λ (w : Result ℕ Refusal). out_after w (frame Answers n N (answers_of N k message choices)) out) e;
        reads = answers-read k N choices f.lent message;
      }

  pub open_wrote : (left : List ℕ) → OpenStep s k message choices out step left after → OpenWrote s k message choices out step.next left after bytes
  unfolding open_told
  open_wrote left p =
      let n = places_of k in
      let N = s.rounds in
      let t = first_done (open_refusal s k message choices (length out)) (done (openings_size n N ∷ [])) (bytes ∷ []) (sym p.says ∙ ap means_count e) in
      let f = refusal-told s k message choices (length out) t.0.0 t.0.1 in
      record {
        found = f;
        size = cc;
        kept = p.moves ∙ ap (λ (w : Result ℕ Refusal). unless_refused w (closed s) s) e;
        cleared = p.clears ∙ ap (λ (w : Result ℕ Refusal). unless_refused w (zeroed choices) choices) e;
        output = p.writes ∙ ap (λ (w : Result ℕ Refusal). out_after w (frame Openings n N (openings_of N k message choices)) out) e;
        reads = openings-read k N choices f.lent message;
      }
