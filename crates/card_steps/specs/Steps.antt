-- What begin, answer, open and give up tell, keep and write (document 01, "The card's three calls").
use Rattle.refusals.specs.declared.Refusal.{Refusal}
use Rattle.std.specs.Prelude.{◌≡◌, List, [], ◌∷◌, ℕ, ◌*◌, ◌≤◌, ◌<◌, eqb, length, get_or, replicate, Result, Ok, Err}
use Rattle.refusals.specs.Number.{SELF}
use Rattle.refusals.specs.Buffer.{CHOICES}
use Rattle.refusals.specs.Told.{Told, done, first, demand, means_count}
use Rattle.algebra.specs.Lists.{joined, over}
use Rattle.algebra.specs.Residues.{modulus}
use Rattle.kinds.specs.Kinds.{most_rounds}
use Rattle.kinds.specs.declared.Kind.TheVariants.{Commitments, Challenges, Answers, Bits, Openings}
use Rattle.frames.specs.Reading.{rest_of}
use Rattle.writers.specs.Writing.{frame, out_after}
use Rattle.rounds.specs.Rounds.{commitments_at, answer_at, opening_at}
use Rattle.card_rules.specs.declared.session.Session.{Session}
use Rattle.card_rules.specs.Stages.{IDLE, COMMITTED, ANSWERED, CLOSED}
use Rattle.card_rules.specs.Keys.{Keys, places_of, rows_of, public_of, secret_of}
use Rattle.card_rules.specs.Lent.{matrix_of, LentFits}
use Rattle.card_rules.specs.Asking.{commitments_size, answers_size, openings_size, begin_check, answer_check, open_check}
use Rattle.card_steps.specs.declared.Step.{Step}
use Rattle.own_check.specs.Own.{own_failing}

-- what was, where a call is refused; what comes, where it is not
abbrev pub unless_refused : {A : Type 0} → Result ℕ Refusal → A → A → A
unless_refused (Ok bytes) next was = next
unless_refused (Err r) next was = was

-- ---- begin

unfoldable pub begin_told : Session → ℕ → Keys → List ℕ → ℕ → Told
begin_told s N k choices room = first (begin_check s N k choices room) (done (commitments_size N ∷ []))

unfoldable pub begun : ℕ → Keys → Session
begun N k = record { stage = COMMITTED; n = places_of k; m = rows_of k; rounds = N; challenges = replicate most_rounds 0 }

unfoldable pub commitments_of : ℕ → Keys → List ℕ → List ℕ
commitments_of N k choices = joined N (commitments_at (matrix_of k) (secret_of k) choices)

-- what begin promises: its answer, the record, and every byte of the output
pub record BeginStep (s : Session) (N : ℕ) (k : Keys) (choices out : List ℕ) (step : Step) (after : List ℕ) : Type 0 where
  pub says : means_count step.told ≡ begin_told s N k choices (length out)
  pub moves : step.next ≡ unless_refused step.told (begun N k) s
  pub writes : after ≡ out_after step.told (frame Commitments N 0 (commitments_of N k choices)) out

-- ---- answer

unfoldable pub answer_told : Session → Keys → List ℕ → List ℕ → ℕ → Told
answer_told s k message choices room = first (answer_check s k message choices room) (done (answers_size (places_of k) s.rounds ∷ []))

-- the challenges are kept; those from N on stay
unfoldable pub answered : Session → List ℕ → Session
answered s challenges = record { stage = ANSWERED; n = s.n; m = s.m; rounds = s.rounds; challenges = over challenges s.challenges }

unfoldable pub answers_of : ℕ → Keys → List ℕ → List ℕ → List ℕ
answers_of N k message choices = joined N (answer_at modulus (places_of k) (public_of k) (secret_of k) (rest_of Challenges message) choices)

pub record AnswerStep (s : Session) (k : Keys) (message choices out : List ℕ) (step : Step) (after : List ℕ) : Type 0 where
  pub says : means_count step.told ≡ answer_told s k message choices (length out)
  pub moves : step.next ≡ unless_refused step.told (answered s (rest_of Challenges message)) s
  pub writes : after ≡ out_after step.told (frame Answers (places_of k) s.rounds (answers_of s.rounds k message choices)) out

-- ---- open

-- the first round that the card's own check does not pass; N where it passes all
abbrev pub faulty_round : Session → Keys → List ℕ → List ℕ → ℕ
faulty_round s k message choices = own_failing (matrix_of k) (public_of k) (secret_of k) s.rounds choices s.challenges (rest_of Bits message)

-- what the own check rests on: the checks before it have passed
pub record OpenReady (s : Session) (k : Keys) (message choices : List ℕ) : Type 0 where
  pub lent : LentFits k s.rounds choices
  pub kept : (j : ℕ) → j < s.rounds → get_or s.challenges j 0 < modulus
  pub there : 5 ≤ length message
  pub bits : s.rounds ≤ 8 * length (rest_of Bits message)

-- SELF
unfoldable pub own_check : Session → Keys → List ℕ → List ℕ → Told
own_check s k message choices =
    demand (eqb (faulty_round s k message choices) s.rounds) SELF CHOICES (faulty_round s k message choices)

-- the checks, and the card's own check at last
unfoldable pub open_refusal : Session → Keys → List ℕ → List ℕ → ℕ → Told
open_refusal s k message choices room = first (open_check s k message choices room) (own_check s k message choices)

unfoldable pub open_told : Session → Keys → List ℕ → List ℕ → ℕ → Told
open_told s k message choices room = first (open_refusal s k message choices room) (done (openings_size (places_of k) s.rounds ∷ []))

unfoldable pub closed : Session → Session
closed s = record { stage = CLOSED; n = s.n; m = s.m; rounds = s.rounds; challenges = s.challenges }

unfoldable pub openings_of : ℕ → Keys → List ℕ → List ℕ → List ℕ
openings_of N k message choices = joined N (opening_at (places_of k) (secret_of k) (rest_of Bits message) choices)

-- as many zeros
abbrev pub zeroed : List ℕ → List ℕ
zeroed l = replicate (length l) 0

pub record OpenStep (s : Session) (k : Keys) (message choices out : List ℕ) (step : Step) (left after : List ℕ) : Type 0 where
  pub says : means_count step.told ≡ open_told s k message choices (length out)
  pub moves : step.next ≡ unless_refused step.told (closed s) s
  pub clears : left ≡ unless_refused step.told (zeroed choices) choices
  pub writes : after ≡ out_after step.told (frame Openings (places_of k) s.rounds (openings_of s.rounds k message choices)) out

-- ---- give up

unfoldable pub fresh : Session
fresh = record { stage = IDLE; n = 0; m = 0; rounds = 0; challenges = replicate most_rounds 0 }

-- never refused
pub record GiveUpStep (s : Session) (choices : List ℕ) (next : Session) (left : List ℕ) : Type 0 where
  pub moves : next ≡ fresh
  pub clears : left ≡ zeroed choices
