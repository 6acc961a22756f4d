-- What the card's C functions answer, keep and write: what the steps tell, with the record lent.
use Rattle.std.specs.Prelude.{◌≡◌, List, ℕ, length}
use Rattle.refusals.specs.Told.{fine}
use Rattle.algebra.specs.Lists.{over}
use Rattle.kinds.specs.declared.Kind.TheVariants.{Commitments, Challenges, Answers, Openings}
use Rattle.frames.specs.Reading.{rest_of}
use Rattle.writers.specs.Writing.{frame}
use Rattle.card_rules.specs.declared.session.Session.{Session}
use Rattle.card_rules.specs.Keys.{Keys, places_of}
use Rattle.card_steps.specs.Steps.{begin_told, begun, commitments_of, answer_told, answered, answers_of, open_told, closed, openings_of, zeroed, GiveUpStep}
use Rattle.card_for_c.specs.declared.Answer.{Answer}
use Rattle.card_for_c.specs.Answers.{answer_of, if_done}

pub record BeginForC (s : Session) (N : ℕ) (k : Keys) (choices out : List ℕ) (answer : Answer) (next : Session) (after : List ℕ) : Type 0 where
  pub says : answer ≡ answer_of (begin_told s N k choices (length out))
  pub moves : next ≡ if_done answer (begun N k) s
  pub writes : after ≡ if_done answer (over (frame Commitments N 0 (commitments_of N k choices)) out) out

pub record AnswerForC (s : Session) (k : Keys) (message choices out : List ℕ) (answer : Answer) (next : Session) (after : List ℕ) : Type 0 where
  pub says : answer ≡ answer_of (answer_told s k message choices (length out))
  pub moves : next ≡ if_done answer (answered s (rest_of Challenges message)) s
  pub writes : after ≡ if_done answer (over (frame Answers (places_of k) s.rounds (answers_of s.rounds k message choices)) out) out

pub record OpenForC (s : Session) (k : Keys) (message choices out : List ℕ) (answer : Answer) (next : Session) (left after : List ℕ) : Type 0 where
  pub says : answer ≡ answer_of (open_told s k message choices (length out))
  pub moves : next ≡ if_done answer (closed s) s
  pub clears : left ≡ if_done answer (zeroed choices) choices
  pub writes : after ≡ if_done answer (over (frame Openings (places_of k) s.rounds (openings_of s.rounds k message choices)) out) out

pub record GiveUpForC (s : Session) (choices : List ℕ) (answer : Answer) (next : Session) (left : List ℕ) : Type 0 where
  pub says : answer ≡ answer_of fine
  pub leaves : GiveUpStep s choices next left
