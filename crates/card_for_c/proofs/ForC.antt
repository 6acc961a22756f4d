-- What the card's steps promise, with their answers as C takes them.
use Rattle.refusals.specs.Told.{means_count}
use Rattle.refusals.specs.declared.Refusal.{Refusal}
use Rattle.std.specs.Prelude.{Result, Ok, Err}
use mathlib.Core.Path.{◌≡◌, refl, ap, ◌∙◌}
use mathlib.Core.List.{List}
use Prim.Native.Nat.{ℕ}
use lib.ListN.{length}
use Rattle.algebra.specs.Lists.{over}
use Rattle.writers.specs.Writing.{out_after}
use Rattle.card_rules.specs.declared.session.Session.{Session}
use Rattle.card_rules.specs.Keys.{Keys}
use Rattle.card_steps.specs.declared.Step.{Step}
use Rattle.card_steps.specs.Steps.{unless_refused, BeginStep, AnswerStep, OpenStep}
use Rattle.card_for_c.specs.declared.Answer.{Answer}
use Rattle.card_for_c.specs.Answers.{answer_of, if_done, Held}
use Rattle.card_for_c.specs.Card.{BeginForC, AnswerForC, OpenForC}
use Rattle.card_for_c.proofs.Answering.{refused_left}
use Rattle.card_for_c.proofs.Holding.{one, begin_held, answer_held, open_held}

-- ---- what is left, by the number of the answer

left_by : {A : Type 0} (w : Result ℕ Refusal) → Held one (means_count w) → (next was : A) → unless_refused w next was ≡ if_done (answer_of (means_count w)) next was
left_by (Ok bytes) h next was = refl
left_by (Err r) h next was = refused_left one r h next was

output_by : (w : Result ℕ Refusal) → Held one (means_count w) → (l out : List ℕ) → out_after w l out ≡ if_done (answer_of (means_count w)) (over l out) out
output_by (Ok bytes) h l out = refl
output_by (Err r) h l out = refused_left one r h (over l out) out

-- ---- the card's steps

module _ (step : Step) (answer : Answer) (e : answer ≡ answer_of (means_count step.told)) (after : List ℕ) where
  pub begin_for_c : (s : Session) (N : ℕ) (k : Keys) (choices out : List ℕ) → BeginStep s N k choices out step after
      → BeginForC s N k choices out answer step.next after
  begin_for_c s N k choices out p =
      let h : Held one (means_count step.told) = rw p.says (begin_held s N k choices (length out)) in
      record {
        says = e ∙ ap answer_of p.says;
        moves = rw e (p.moves ∙ left_by step.told h _ s);
        writes = rw e (p.writes ∙ output_by step.told h _ out);
      }

  module _ (s : Session) (k : Keys) (message choices out : List ℕ) where
    pub answer-for-c : AnswerStep s k message choices out step after → AnswerForC s k message choices out answer step.next after
    answer-for-c p =
        let h : Held one (means_count step.told) = rw p.says (answer_held s k message choices (length out)) in
        record {
          says = e ∙ ap answer_of p.says;
          moves = rw e (p.moves ∙ left_by step.told h _ s);
          writes = rw e (p.writes ∙ output_by step.told h _ out);
        }

    pub open-for-c : (left : List ℕ) → OpenStep s k message choices out step left after → OpenForC s k message choices out answer step.next left after
    open-for-c left p =
        let h : Held one (means_count step.told) = rw p.says (open_held s k message choices (length out)) in
        record {
          says = e ∙ ap answer_of p.says;
          moves = rw e (p.moves ∙ left_by step.told h _ s);
          clears = rw e (p.clears ∙ left_by step.told h _ choices);
          writes = rw e (p.writes ∙ output_by step.told h _ out);
        }
